use Rattle.network_meaning.proofs.NetworksRead.{network-read}
use Rattle.network_meaning.proofs.laws.read_networks_are_live.Goals as goal

pub returns : goal.returns
returns c = network-read
