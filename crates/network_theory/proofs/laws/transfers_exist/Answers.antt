use Rattle.network_theory.proofs.Existence.{law_of_transfers}
use Rattle.network_theory.proofs.laws.transfers_exist.Goals as goal

pub returns : goal.returns
returns c = law_of_transfers
