use Rattle.settled_answer.proofs.NumberLaws.{law_of_price_numbers}
use Rattle.settled_answer.proofs.laws.no_number_no_refusal.Goals as goal

pub returns : goal.returns
returns c = law_of_price_numbers
