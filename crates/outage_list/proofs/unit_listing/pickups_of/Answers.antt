use Rattle.std.proofs.Common.{arith, ◌<◌, ◌++◌, ◌∷◌, ◌∙◌, [], ap, get_or, length, pos}
use Rattle.std.proofs.lemmas.List.{get_or_default}
use Rattle.outage_list.specs.declared.pickup_records.UnitPickup.{UnitPickup}
use Rattle.outage_list.specs.UnitListing.{pickup_of}
use Rattle.outage_list.proofs.UnitLemmas.{mapped-more}
use Rattle.outage_list.proofs.unit_listing.pickups_of.Goals as goal

pub loop-unit_pickup-preserved : goal.loop-unit_pickup-preserved
loop-unit_pickup-preserved c =
    let lt : c.loop-unit_pickup.unit_pickup-index < length c.args.unit_pickups.now = omega (arith, c.loop-unit_pickup-test.true) in
    let here : UnitPickup = get_or c.args.unit_pickups.now c.loop-unit_pickup.unit_pickup-index (record { lost = 0; taker = 0; share = pos 0 }) in
    mapped-more (pickup_of c.args.lost.now) c.args.unit_pickups.now c.loop-unit_pickup.unit_pickup-index here c.loop-unit_pickup.pickups c.push.new.self lt (get_or_default c.args.unit_pickups.now c.loop-unit_pickup.unit_pickup-index _ _ lt) c.loop-unit_pickup.invariant
    (c.in_ok-push.ensures ∙ ap (λ p. c.loop-unit_pickup.pickups ++ p ∷ []) c.pickup_of.ensures)
