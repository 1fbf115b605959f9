use Rattle.settlement.proofs.MoneyLemmas.{law_of_right_money}
use Rattle.settlement.proofs.laws.money_is_right.Goals as goal

pub returns : goal.returns
returns c = law_of_right_money
