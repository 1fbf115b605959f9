use Rattle.network_theory.proofs.Solutions.{law_of_the_transfer}
use Rattle.network_theory.proofs.laws.transfer_falls.Goals as goal

pub returns : goal.returns
returns c = law_of_the_transfer
