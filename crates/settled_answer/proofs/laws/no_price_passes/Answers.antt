use Rattle.settled_answer.proofs.NumberLaws.{law_of_all_price_numbers}
use Rattle.settled_answer.proofs.laws.no_price_passes.Goals as goal

pub returns : goal.returns
returns c = law_of_all_price_numbers
