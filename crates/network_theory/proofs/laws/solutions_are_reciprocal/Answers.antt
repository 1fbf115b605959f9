use Rattle.network_theory.proofs.ByParts.{law_of_reciprocity}
use Rattle.network_theory.proofs.laws.solutions_are_reciprocal.Goals as goal

pub returns : goal.returns
returns c = law_of_reciprocity
