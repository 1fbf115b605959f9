use Rattle.network_theory.proofs.Solutions.{law_of_one_solution}
use Rattle.network_theory.proofs.laws.one_solution.Goals as goal

pub returns : goal.returns
returns c = law_of_one_solution
