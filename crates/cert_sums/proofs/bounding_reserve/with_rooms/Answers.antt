use Rattle.std.proofs.Common.{rules, Err, refl, ◌≡◌, ◌∙◌, arith}
use Rattle.exact_fraction.proofs.Shares.{share_refused}
use Rattle.market_model.specs.Valued.{passed_at}
use Rattle.cert_sums.specs.Named.{room_priced_at}
use Rattle.cert_sums.proofs.RoomLemmas.{room_count, room_named_at, room_refused, room_step, room_unit-in, rooms_all, rooms_none}
use Rattle.cert_sums.proofs.bounding_reserve.with_rooms.Goals as goal

pub loop-entry-init : goal.loop-entry-init
loop-entry-init g c = λ d are start. rooms_none c.args.market.now d (g.N.Exact.value c.args.of_need) start

pub room_quantity-requires : goal.room_quantity-requires
room_quantity-requires g c =
    let m = c.args.market.now in
    let k = c.loop-entry.entry-index in
    let h = room_named_at g.N.Exact.value m c.requires.0 c.args.rooms.now c.requires.1 k c.entry-item.result c.loop-entry-test.true c.entry-item.is in
    room_unit-in m c.requires.0 k (room_priced_at g.N.Exact.value c.entry-item.result) h

pub loop-entry-preserved : goal.loop-entry-preserved
loop-entry-preserved g c = λ d are start.
    let m = c.args.market.now in
    let value = g.N.Exact.value in
    let k = c.loop-entry.entry-index in
    let h = room_named_at value m d c.args.rooms.now are k c.entry-item.result c.loop-entry-test.true c.entry-item.is in
    room_step m d k (room_priced_at value c.entry-item.result) h (value c.room_quantity.result) (value c.loop-entry.sum) _ c.room_quantity.ensures.room (c.loop-entry.invariant d are start) c.in_ok-sum.ensures.exact

pub returns-clause-sum : goal.returns-clause-sum
returns-clause-sum g c = λ d are start.
    c.loop-entry.invariant d are start
    ∙ rooms_all c.args.market.now d c.loop-entry.entry-index (omega (arith, c.loop-entry-test.false, room_count g.N.Exact.value c.args.market.now d c.args.rooms.now are))

pub returns-in_err-sum-clause-stops : goal.returns-in_err-sum-clause-stops
returns-in_err-sum-clause-stops g c =
    let m = c.args.market.now in
    let value = g.N.Exact.value in
    let k = c.loop-entry.entry-index in
    let given : c.from_residual.result ≡ Err c.in_err-sum.field-0.0 = search rules in
    λ d are start. rw given
    (room_refused m d k (room_priced_at value c.entry-item.result) (room_named_at value m d c.args.rooms.now are k c.entry-item.result c.loop-entry-test.true c.entry-item.is)
    (value c.room_quantity.result) (value c.loop-entry.sum) g.N.Exact.bound (passed_at value c.in_err-sum.field-0.0) c.room_quantity.ensures.room (c.loop-entry.invariant d are start)
    (share_refused value g.N.Exact.bound c.loop-entry.sum c.entry-item.result.price c.room_quantity.result c.in_err-sum.field-0.0 _ _ _ c.in_err-sum.ensures refl refl refl))
