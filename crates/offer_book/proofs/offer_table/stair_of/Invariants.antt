use Rattle.std.proofs.Common.{◌≡◌, take}
use Rattle.offer_book.specs.Offers.{StairIsBounded}
use Rattle.market_model.specs.Stairs.{stair_in}
use Rattle.offer_book.specs.OfferTable.{ends_of}
use Rattle.offer_book.proofs.offer_table.stair_of.Given as goal

abbrev pub invariant-loop-block : goal.invariant-loop-block
invariant-loop-block l = record {
  bound : StairIsBounded l.block-index l.stair;
  is : l.stair ≡ ends_of (stair_in l.unit l.side (take l.block-index l.blocks));
}
