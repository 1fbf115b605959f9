use Rattle.std.proofs.Common.{◌≡◌, map, take}
use Rattle.outage_list.specs.UnitListing.{pickup_of}
use Rattle.outage_list.proofs.unit_listing.pickups_of.Given as goal

-- the records so far
abbrev pub invariant-loop-unit_pickup : goal.invariant-loop-unit_pickup
invariant-loop-unit_pickup l = l.pickups ≡ map (pickup_of l.lost) (take l.unit_pickup-index l.unit_pickups)
