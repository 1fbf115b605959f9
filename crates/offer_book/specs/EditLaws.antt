-- What edits leave of a market: its frame, that it is one, and the offer curves of its units.
-- Source: own. A generator's offer curve is monotone in the standard rules of electricity markets: its stepped offers do not fall in price, and a
-- buyer's bids do not rise.
use Rattle.std.specs.Prelude.{◌≡◌, ℕ, ◌<◌, ℤ, ◌≤ℤ◌, List, length, map, fold, All, AllPairs, Ok}
use Rattle.market_data.specs.Participants.{IsDatum}
use Rattle.market_data.specs.declared.participants.Unit as unit
use Rattle.market_data.specs.declared.participants.UnitList.{UnitList}
use Rattle.market_model.specs.declared.participants.Block.{Block}
use Rattle.market_model.specs.declared.participants.Parts.{Parts}
use Rattle.market_model.specs.declared.participants.Side.{Side}
use Rattle.market_model.specs.Frame.{SameFrame}
use Rattle.market_model.specs.Market.{IsMarket}
use Rattle.market_model.specs.Stairs.{stair_in, offered, room_of}
use Rattle.offer_book.specs.declared.edit_parts.Edit.{Edit}
use Rattle.offer_book.specs.Edits.{number_of, step_of}
use Rattle.offer_book.specs.Offers.{HasSides, InOrder}
use Rattle.offer_book.specs.OfferTable.{blocks_of_table, unit_of_place}

-- ---- edited markets
-- the market after edits, one after another
abbrev pub edited : Parts → List Edit → Parts
edited m edits = fold step_of m edits

-- edits to numbers of at most 63 bits
abbrev pub HaveData : List Edit → Type 0
HaveData edits = All (λ e. IsDatum (number_of e)) edits

-- ---- offer curves
abbrev pub block_prices : List Block → List ℤ
block_prices blocks = map (λ block. block.price) blocks

-- blocks that a unit may offer on a side: the prices of sells never fall, those of buys never rise, and in all they are within its room
pub record IsOfferCurve (u : unit.Unit) (side : Side) (blocks : List Block) : Type 0 where
  pub monotone : AllPairs (InOrder side) (block_prices blocks)
  pub room : offered blocks ≤ℤ room_of side u

-- the blocks of each unit on each side are an offer curve
abbrev pub HaveOfferCurves : List unit.Unit → List Block → Type 0
HaveOfferCurves units blocks = (place : ℕ) (side : Side) → place < length units → IsOfferCurve (unit_of_place units place) side (stair_in place side blocks)

abbrev pub HasOfferCurves : Parts → Type 0
HasOfferCurves m = HaveOfferCurves m.units m.blocks

-- ---- the laws
-- a table of offers makes an offer curve of each unit on each side, where no unit's room is below 0
abbrev pub LawOfOfferTables : Type 0
LawOfOfferTables = (list : UnitList) (bytes : List ℕ) (blocks : List Block) → All HasSides list.units → blocks_of_table list bytes ≡ Ok blocks → HaveOfferCurves list.units blocks

-- an edit, accepted or refused, keeps offer curves
abbrev pub LawOfOfferCurves : Type 0
LawOfOfferCurves = (m : Parts) (e : Edit) → IsMarket m → HasOfferCurves m → HasOfferCurves (step_of m e)

-- an edit keeps the frame
abbrev pub LawOfTheEditedFrame : Type 0
LawOfTheEditedFrame = (m : Parts) (e : Edit) → SameFrame m (step_of m e)

-- a market is one after edits
abbrev pub LawOfEditedMarkets : Type 0
LawOfEditedMarkets = (m : Parts) (edits : List Edit) → IsMarket m → HaveData edits → IsMarket (edited m edits)

-- it has the frame that it had
abbrev pub LawOfEditedFrames : Type 0
LawOfEditedFrames = (m : Parts) (edits : List Edit) → SameFrame m (edited m edits)

-- and its units have offer curves
abbrev pub LawOfEditedCurves : Type 0
LawOfEditedCurves = (m : Parts) (edits : List Edit) → IsMarket m → HaveData edits → HasOfferCurves m → HasOfferCurves (edited m edits)
