use Rattle.network_theory.proofs.Outages.{law_of_the_outage}
use Rattle.network_theory.proofs.laws.outage_moves_angles.Goals as goal

pub returns : goal.returns
returns c = law_of_the_outage
