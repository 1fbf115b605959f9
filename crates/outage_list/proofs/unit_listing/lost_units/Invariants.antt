use Rattle.std.proofs.Common.{◌≡◌, [], drop}
use Rattle.outage_list.specs.UnitListing.{with_lost}
use Rattle.outage_list.proofs.unit_listing.lost_units.Given as goal

-- the units so far, and those of the records that are left
abbrev pub invariant-loop-unit_pickup : goal.invariant-loop-unit_pickup
invariant-loop-unit_pickup l = with_lost [] l.unit_pickups ≡ with_lost l.units (drop l.unit_pickup-index l.unit_pickups)
