use Rattle.dc_network.proofs.ExactFactors.{law_of_exact_factors}
use Rattle.dc_network.proofs.laws.exact_factors.Goals as goal

pub returns : goal.returns
returns c = law_of_exact_factors
