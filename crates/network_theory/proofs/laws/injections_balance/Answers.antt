use Rattle.network_theory.proofs.ByParts.{law_of_balance}
use Rattle.network_theory.proofs.laws.injections_balance.Goals as goal

pub returns : goal.returns
returns c = law_of_balance
