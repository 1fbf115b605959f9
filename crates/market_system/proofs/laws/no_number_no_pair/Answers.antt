use Rattle.market_system.proofs.Completeness.{law_of_the_numbers}
use Rattle.market_system.proofs.laws.no_number_no_pair.Goals as goal

pub returns : goal.returns
returns c = law_of_the_numbers
