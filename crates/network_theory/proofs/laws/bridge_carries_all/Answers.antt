use Rattle.network_theory.proofs.Bridges.{law_of_the_bridge}
use Rattle.network_theory.proofs.laws.bridge_carries_all.Goals as goal

pub returns : goal.returns
returns c = law_of_the_bridge
