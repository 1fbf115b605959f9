use Rattle.std.proofs.Common.{map}
use Rattle.market_model.specs.Dispatch.{dispatch_with}
use Rattle.limit_screen.specs.Rooms.{IsWorstRoomTo}
use Rattle.limit_screen.proofs.sharing.worst_room.Given as goal

abbrev pub invariant-loop-unit : goal.invariant-loop-unit
invariant-loop-unit g l = IsWorstRoomTo g.N.Exact.value l.market (dispatch_with (map g.N.Exact.value l.dispatch) (map g.N.Exact.value l.reserve)) l.unit l.worst
