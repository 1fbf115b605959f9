use Rattle.network_theory.proofs.Solutions.{law_of_rest}
use Rattle.network_theory.proofs.laws.no_injections.Goals as goal

pub returns : goal.returns
returns c = law_of_rest
