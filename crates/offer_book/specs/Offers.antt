-- What is kept of the offers: the blocks, a record that is read, and the stairs that the records build.
use Rattle.std.specs.Prelude.{ℕ, ◌*◌, ◌^◌, ◌≤◌, ℤ, pos, ◌≤ℤ◌, List, length, All, Option, Some, None, unsigned_abs}
use Rattle.market_model.specs.declared.participants.Side.{Side}
use Rattle.market_model.specs.declared.participants.Side.TheVariants.{Sell, Buy}
use Rattle.market_model.specs.declared.participants.Block.{Block}
use Rattle.market_data.specs.Participants.{IsDatum}
use Rattle.market_data.specs.declared.participants.Unit as unit
use Rattle.market_model.specs.Market.{IsBlock}
use Rattle.market_data.specs.Scales.{most_blocks}
use Rattle.offer_book.specs.declared.offer_table.Offer.{Offer}
use Rattle.offer_book.specs.declared.offer_table.Stair.{Stair}

-- blocks of so many units
pub record AreBlocks (units : ℕ) (list : List Block) : Type 0 where
  pub count : length list ≤ most_blocks
  pub blocks : All (IsBlock units) list

pub record OfferIsRead (offer : Offer) : Type 0 where
  pub unit : IsDatum offer.unit
  pub quantity : IsDatum offer.quantity
  pub price : IsDatum offer.price

-- of two prices of a side, that the second may come after the first: a sell's price is not below it, a buy's not above
abbrev pub InOrder : Side → ℤ → ℤ → Type 0
InOrder Sell first second = first ≤ℤ second
InOrder Buy first second = second ≤ℤ first

-- a price may come after the last one of its stair, where there is one
abbrev pub MayFollow : Side → Option ℤ → ℤ → Type 0
MayFollow side None price = Unit {0}
MayFollow side (Some last) price = InOrder side last price

-- a stair of at most so many blocks
abbrev pub StairIsBounded : ℕ → Stair → Type 0
StairIsBounded blocks stair = unsigned_abs stair.sum ≤ 2 ^ 64 * blocks

-- a unit whose room on either side is at least 0
pub record HasSides (u : unit.Unit) : Type 0 where
  pub up : pos 0 ≤ℤ u.up
  pub down : pos 0 ≤ℤ u.down
