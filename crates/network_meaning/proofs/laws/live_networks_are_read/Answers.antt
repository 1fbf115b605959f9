use Rattle.network_meaning.proofs.NetworksRead.{read-network}
use Rattle.network_meaning.proofs.laws.live_networks_are_read.Goals as goal

pub returns : goal.returns
returns c = read-network
