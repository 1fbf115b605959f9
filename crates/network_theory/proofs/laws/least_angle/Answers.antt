use Rattle.network_theory.proofs.Solutions.{law_of_the_least_angle}
use Rattle.network_theory.proofs.laws.least_angle.Goals as goal

pub returns : goal.returns
returns c = law_of_the_least_angle
