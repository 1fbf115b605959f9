use Rattle.price_search.proofs.NumberLaws.{law_of_search_numbers}
use Rattle.price_search.proofs.laws.no_number_no_refusal.Goals as goal

pub returns : goal.returns
returns c = law_of_search_numbers
