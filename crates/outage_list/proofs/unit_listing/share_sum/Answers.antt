use Rattle.std.proofs.Common.{arith, ◌<◌, length, pos, w64}
use mir.Val.{to_z}
use Rattle.outage_list.proofs.UnitLemmas.{sum-step}
use Rattle.outage_list.proofs.unit_listing.share_sum.Goals as goal

pub loop-unit_pickup-preserved : goal.loop-unit_pickup-preserved
loop-unit_pickup-preserved c =
    let so = c.loop-unit_pickup.invariant in
    let lt : c.loop-unit_pickup.unit_pickup-index < length c.args.unit_pickups.now = omega (arith, c.loop-unit_pickup-test.true) in
    let next = sum-step c.requires.kept.0 c.args.lost c.args.unit_pickups.now c.loop-unit_pickup.unit_pickup-index (record { lost = 0; taker = 0; share = pos 0 }) (to_z w64 c.loop-unit_pickup.sum-bits) c.share_in-sum.result c.requires.kept.1 c.requires.few lt c.share_in-sum.ensures
    (record { sum = so.sum; least = so.least; most = so.most }) in
    record { sum = next.sum; least = next.least; most = next.most }
