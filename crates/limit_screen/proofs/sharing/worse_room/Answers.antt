use Rattle.std.proofs.Common.{subst, subst₂}
use Rattle.fraction_theory.specs.Order.{◌<ℚ◌, ◌≤ℚ◌}
use Rattle.limit_rows.proofs.FlowSizes.{not_past}
use Rattle.limit_screen.specs.Rooms.{IsWorstRoomTo, room_overrun}
use Rattle.limit_screen.proofs.RoomLemmas.{first_worst_room, old_worst_room, worse_than_old_room}
use Rattle.limit_screen.proofs.sharing.worse_room.Goals as goal

pub returns-in-Greater : goal.returns-in-Greater
returns-in-Greater g c = λ m x before offers passed is.
    let u = c.args.unit in
    let old = c.in-Some.broken in
    let h = subst (IsWorstRoomTo g.N.Exact.value m x u) c.in-Some.is before in
    let more : room_overrun m x old.unit <ℚ room_overrun m x u = subst₂ (λ s t. s <ℚ t) h.1 is c.in-Greater.ensures in
    (worse_than_old_room g.N.Exact.value m x u offers passed old h.0 more, is)

pub returns-in-Less : goal.returns-in-Less
returns-in-Less g c = λ m x before offers passed is.
    let u = c.args.unit in
    let old = c.in-Some.broken in
    let h = subst (IsWorstRoomTo g.N.Exact.value m x u) c.in-Some.is before in
    let less : room_overrun m x u ≤ℚ room_overrun m x old.unit = subst₂ (λ s t. s ≤ℚ t) is h.1 (not_past c.order.result (g.N.Exact.value c.args.overrun) (g.N.Exact.value old.overrun) c.order.ensures c.in-Less.is) in
    (old_worst_room g.N.Exact.value m x u old less h.0, h.1)

pub returns-in-None : goal.returns-in-None
returns-in-None g c = λ m x before offers passed is.
    let u = c.args.unit in
    let h = subst (IsWorstRoomTo g.N.Exact.value m x u) c.in-None.is before in
    (first_worst_room g.N.Exact.value m x u offers passed h, is)
