use Rattle.unit_offers.proofs.NetworkUnits.{network_units}
use Rattle.unit_offers.proofs.laws.network_units.Goals as goal

pub returns : goal.returns
returns c = network_units
