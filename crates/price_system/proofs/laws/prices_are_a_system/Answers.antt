use Rattle.price_system.proofs.SystemLemmas.{law_of_the_system}
use Rattle.price_system.proofs.laws.prices_are_a_system.Goals as goal

pub returns : goal.returns
returns c = law_of_the_system
