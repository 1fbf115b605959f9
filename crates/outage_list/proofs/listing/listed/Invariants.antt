use Rattle.std.proofs.Common.{◌≡◌, ◌++◌, pos, drop, length, map}
use Rattle.outage_list.specs.Listing.{AreOutages}
use Rattle.outage_list.proofs.listing.listed.Given as goal

-- the numbers before this one are listed
abbrev pub invariant-loop-place : goal.invariant-loop-place
invariant-loop-place l = record {
  count : length l.outages ≡ l.place;
  listed : AreOutages l.network l.outages;
  numbers : l.rows ≡ map pos l.outages ++ drop l.place l.rows;
}
