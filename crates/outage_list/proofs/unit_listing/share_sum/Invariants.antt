use Rattle.std.proofs.Common.{◌≡◌, ◌*◌, take, pos}
use Rattle.std.specs.Prelude.{◌≤ℤ◌}
use Rattle.market_data.specs.WholeSums.{int_sum}
use Rattle.outage_list.specs.UnitListing.{share_in}
use Rattle.outage_list.proofs.unit_listing.share_sum.Given as goal

-- the sum so far, of at most 1000 for each record
abbrev pub invariant-loop-unit_pickup : goal.invariant-loop-unit_pickup
invariant-loop-unit_pickup l = record {
  sum : l.sum ≡ int_sum (share_in l.lost) (take l.unit_pickup-index l.unit_pickups);
  least : pos 0 ≤ℤ l.sum;
  most : l.sum ≤ℤ pos (l.unit_pickup-index * 1000000000);
}
