use Rattle.network_theory.proofs.Factors.{law_of_the_factors}
use Rattle.network_theory.proofs.laws.factors_within_one.Goals as goal

pub returns : goal.returns
returns c = law_of_the_factors
