use Rattle.network_meaning.proofs.NetworksRead.{one-network}
use Rattle.network_meaning.proofs.laws.one_network.Goals as goal

pub returns : goal.returns
returns c = one-network
