use Rattle.std.proofs.Common.{◌≡◌, drop}
use Rattle.std.specs.List.{find}
use Rattle.outage_list.specs.UnitListing.{is_uneven}
use Rattle.outage_list.proofs.unit_listing.uneven.Given as goal

-- no unit before this one is uneven
abbrev pub invariant-loop-unit : goal.invariant-loop-unit
invariant-loop-unit l = find (is_uneven l.unit_pickups) l.units ≡ find (is_uneven l.unit_pickups) (drop l.unit-index l.units)
