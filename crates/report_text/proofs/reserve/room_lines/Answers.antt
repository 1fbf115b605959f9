use Rattle.std.proofs.Common.{◌∙◌, ◌≡◌, ◌++◌, ap, arith, length, subst, get_or}
use Rattle.market_model.specs.declared.answered.RoomDual.{RoomDual}
use Rattle.report_text.specs.Reports.{room_text}
use Rattle.market_model.specs.Valued.{room_dual_at}
use Rattle.report_text.proofs.ReportLemmas.{items_none, items_more, items_all, flat_map-map}
use Rattle.report_text.proofs.reserve.room_lines.Goals as goal

pub loop-room-init : goal.loop-room-init
loop-room-init g c = items_none (λ (d : RoomDual g.row.N.Denot). room_text c.args.places (room_dual_at g.N.Exact.value d)) c.args.text.now c.args.rooms.now

pub loop-room-preserved : goal.loop-room-preserved
loop-room-preserved g c =
    let slice = c.slice-room-items.ensures in
    items_more (λ (d : RoomDual g.row.N.Denot). room_text c.args.places (room_dual_at g.N.Exact.value d)) c.args.text.now c.args.rooms.now c.loop-room.text c.room_line.new.text c.loop-room.room-index c.room-item.result
    (omega (arith, c.loop-room-test.true, ap length slice)) (subst (λ ds. c.room-item.result ≡ get_or ds c.loop-room.room-index c.room-item.result) slice c.room-item.is) c.loop-room.invariant c.in_ok-room_line.ensures

pub returns : goal.returns
returns g c =
    let slice = c.slice-room-items.ensures in
    items_all (λ (d : RoomDual g.row.N.Denot). room_text c.args.places (room_dual_at g.N.Exact.value d)) c.args.text.now c.args.rooms.now c.loop-room.text c.loop-room.room-index
    (omega (arith, c.loop-room-test.false, ap length slice)) c.loop-room.invariant
    ∙ ap (λ t. c.args.text.now ++ t) (flat_map-map (room_text c.args.places) (room_dual_at g.N.Exact.value) c.args.rooms.now)
