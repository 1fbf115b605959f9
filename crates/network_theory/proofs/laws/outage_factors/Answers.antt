use Rattle.network_theory.proofs.Outages.{law_of_the_outage_factors}
use Rattle.network_theory.proofs.laws.outage_factors.Goals as goal

pub returns : goal.returns
returns c = law_of_the_outage_factors
