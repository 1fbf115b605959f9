use Rattle.market_model.specs.Dispatch.{Dispatch}
use Rattle.limit_screen.specs.Rooms.{AreRoomsUsed, IsWorstRoomTo}
use Rattle.limit_screen.proofs.sharing.worst_room_by.Given as goal

abbrev pub invariant-loop-unit : goal.invariant-loop-unit
invariant-loop-unit g l = (x : Dispatch) → AreRoomsUsed g.N.Exact.value l.market x l.used → IsWorstRoomTo g.N.Exact.value l.market x l.unit l.worst
