use Rattle.dc_network.proofs.Connection.{law_of_the_network}
use Rattle.dc_network.proofs.laws.network_is_connected.Goals as goal

pub returns : goal.returns
returns c = law_of_the_network
