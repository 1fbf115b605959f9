use Rattle.std.proofs.Common.{◌≡◌, ◌≤◌, ◌+◌, [], length, drop, All}
use Rattle.market_model.specs.Market.{IsBlock}
use Rattle.record_reading.specs.Gathering.{gather}
use Rattle.offer_book.specs.OfferTable.{block_in}
use Rattle.offer_book.proofs.offer_table.blocks_of.Given as goal

abbrev pub invariant-loop-place : goal.invariant-loop-place
invariant-loop-place l = record {
  count : length l.blocks ≤ l.place;
  blocks : All (IsBlock (length l.units.units)) l.blocks;
  is : gather (block_in l.units) [] 2 l.table ≡ gather (block_in l.units) l.blocks (l.place + 2) (drop l.place l.table);
}
