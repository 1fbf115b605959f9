use Rattle.std.proofs.Common.{◌≡◌, ◌+◌, length, drop}
use Rattle.offer_book.specs.Reserving.{AreFound, found_from, nothing_found}
use Rattle.offer_book.proofs.reserve_reading.found_of.Given as goal

-- what the records so far gave, and those that are left
abbrev pub invariant-loop-place : goal.invariant-loop-place
invariant-loop-place l = record {
  kept : AreFound (length l.units.units) l.found;
  is : found_from l.units nothing_found 2 l.table ≡ found_from l.units l.found (l.place + 2) (drop l.place l.table);
}
