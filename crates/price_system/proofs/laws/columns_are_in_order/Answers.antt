use Rattle.price_system.proofs.SumLemmas.{law_of_the_order}
use Rattle.price_system.proofs.laws.columns_are_in_order.Goals as goal

pub returns : goal.returns
returns c = law_of_the_order
