use Rattle.std.proofs.Common.{◌≡◌, ◌≤◌, ◌+◌, [], drop, length, All}
use Rattle.record_reading.specs.Gathering.{read_records}
use Rattle.outage_list.specs.PickupRecords.{IsUnitPickup, unit_pickup_in}
use Rattle.outage_list.proofs.pickup_records.unit_pickups_of.Given as goal

-- what the records so far say, and those that are left
abbrev pub invariant-loop-place : goal.invariant-loop-place
invariant-loop-place l = record {
  count : length l.unit_pickups ≤ l.place;
  kept : All (IsUnitPickup (length l.network.units)) l.unit_pickups;
  is : read_records (unit_pickup_in l.network) [] 2 l.table ≡ read_records (unit_pickup_in l.network) l.unit_pickups (l.place + 2) (drop l.place l.table);
}
