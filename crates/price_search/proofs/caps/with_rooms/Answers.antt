use Rattle.std.proofs.Common.{◌≡◌, ◌≤◌, ◌∙◌, ◌++◌, Err, ap, arith, length, map, refl, rules, sym}
use Rattle.std.proofs.lemmas.List.{append-nil, length-map, take_all}
use Rattle.fraction_theory.specs.Sums.{total}
use Rattle.exact_fraction.specs.declared.Op.TheVariants.{Plus}
use Rattle.market_model.specs.Valued.{passed_at, room_dual_at}
use Rattle.market_model.proofs.SumSteps.{refusal}
use Rattle.price_search.specs.Caps.{room_price_terms}
use Rattle.price_search.proofs.CapSums.{item_at, item_inside, room_refused, room_step}
use Rattle.price_search.proofs.caps.with_rooms.Goals as goal

pub loop-room-init : goal.loop-room-init
loop-room-init g c = λ front starts. starts ∙ ap total (sym (append-nil front))

pub loop-room-preserved : goal.loop-room-preserved
loop-room-preserved g c = λ front starts.
    let value = g.N.Exact.value in
    let xs = c.args.rooms.now in
    let k = c.loop-room.room-index in
    let item = c.room-item.result in
    let inside = item_inside (room_dual_at value) xs k c.loop-room-test.true in
    let is = item_at (room_dual_at value) xs k item c.loop-room-test.true c.room-item.is in
    room_step front (map (room_dual_at value) xs) k (room_dual_at value item) inside is (value c.loop-room.sum) (value c.in_ok-sum.sum) (c.loop-room.invariant front starts) c.in_ok-sum.ensures.exact

pub returns-in_err-sum-clause-stops : goal.returns-in_err-sum-clause-stops
returns-in_err-sum-clause-stops g c = λ front rest starts.
    let value = g.N.Exact.value in
    let xs = c.args.rooms.now in
    let k = c.loop-room.room-index in
    let item = c.room-item.result in
    let inside = item_inside (room_dual_at value) xs k c.loop-room-test.true in
    let is = item_at (room_dual_at value) xs k item c.loop-room-test.true c.room-item.is in
    let given : c.from_residual.result ≡ Err c.in_err-sum.field-0.0 = search rules in
    rw given
    (room_refused front (map (room_dual_at value) xs) k (room_dual_at value item) inside is rest g.N.Exact.bound (passed_at value c.in_err-sum.field-0.0) (value c.loop-room.sum)
    (c.loop-room.invariant front starts)
    (refusal value g.N.Exact.bound Plus c.loop-room.sum item.price _ _ c.in_err-sum.field-0.0 refl refl c.in_err-sum.ensures))

pub returns-clause-sum : goal.returns-clause-sum
returns-clause-sum g c = λ front starts.
    let es = map (room_dual_at g.N.Exact.value) c.args.rooms.now in
    let k = c.loop-room.room-index in
    let done : length es ≤ k = omega (arith, c.loop-room-test.false, length-map c.args.rooms.now (room_dual_at g.N.Exact.value)) in
    c.loop-room.invariant front starts ∙ ap (λ ds. total (front ++ room_price_terms ds)) (take_all k es done)
