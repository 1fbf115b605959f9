use Rattle.network_theory.proofs.Existence.{law_of_solutions}
use Rattle.network_theory.proofs.laws.solutions_exist.Goals as goal

pub returns : goal.returns
returns c = law_of_solutions
