use Rattle.network_meaning.proofs.RoomsRead.{rooms}
use Rattle.network_meaning.proofs.laws.units_have_room.Goals as goal

pub returns : goal.returns
returns c = rooms
