use Rattle.std.proofs.Common.{arith, ◌<◌, ◌≤◌, ◌+◌, ◌∙◌, sym, ap, drop, length, pos}
use Rattle.outage_list.specs.UnitListing.{with_lost}
use Rattle.outage_list.proofs.UnitLemmas.{lost-end, lost-step}
use Rattle.outage_list.proofs.unit_listing.lost_units.Goals as goal

pub loop-unit_pickup-preserved : goal.loop-unit_pickup-preserved
loop-unit_pickup-preserved c =
    let lt : c.loop-unit_pickup.unit_pickup-index < length c.args.unit_pickups.now = omega (arith, c.loop-unit_pickup-test.true) in
    c.loop-unit_pickup.invariant ∙ lost-step c.loop-unit_pickup.units c.args.unit_pickups.now c.loop-unit_pickup.unit_pickup-index (record { lost = 0; taker = 0; share = pos 0 }) lt
    ∙ ap (λ units. with_lost units (drop (c.loop-unit_pickup.unit_pickup-index + 1) c.args.unit_pickups.now)) (sym c.in_ok-add_unit.ensures)

pub returns : goal.returns
returns c =
    let le : length c.args.unit_pickups.now ≤ c.loop-unit_pickup.unit_pickup-index = omega (arith, c.loop-unit_pickup-test.false) in
    sym (c.loop-unit_pickup.invariant ∙ lost-end c.loop-unit_pickup.units c.args.unit_pickups.now c.loop-unit_pickup.unit_pickup-index le)
