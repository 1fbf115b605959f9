use Rattle.one_price.proofs.MarginLemmas.{law_of_margins}
use Rattle.one_price.proofs.laws.blocks_tell_the_energy_price.Goals as goal

pub returns : goal.returns
returns c = law_of_margins
