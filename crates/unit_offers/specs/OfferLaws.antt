-- Laws of the offers.
use Rattle.std.specs.Prelude.{◌≡◌, ℕ, ◌<◌, List, length, All}
use Rattle.record_reading.specs.Records.{Record}
use Rattle.market_data.specs.declared.participants.Unit as unit
use Rattle.market_data.specs.declared.participants.UnitList.{UnitList}
use Rattle.market_model.specs.declared.participants.Block.{Block}
use Rattle.market_model.specs.declared.participants.Side.{Side}
use Rattle.market_model.specs.Market.{HaveRoom}
use Rattle.market_model.specs.Stairs.{stair_in, offered, room_of}
use Rattle.net_case.specs.Networks.{LiveNetwork, IsNetwork}
use Rattle.net_case.specs.NetworkReading.{unit_list_of}
use Rattle.offer_book.specs.EditLaws.{HaveOfferCurves}
use Rattle.offer_book.specs.Offers.{AreBlocks}
use Rattle.offer_book.specs.OfferTable.{unit_of_place}
use Rattle.unit_offers.specs.declared.offers.UnitOffers.{UnitOffers}
use Rattle.unit_offers.specs.UnitOffers.{AreUnitOffers, IsRanged}

-- each unit's blocks of a side offer all its room there
abbrev pub OfferAllRoom : List unit.Unit → List Block → Type 0
OfferAllRoom units blocks = (place : ℕ) (side : Side) → place < length units → offered (stair_in place side blocks) ≡ room_of side (unit_of_place units place)

-- blocks as a market takes them, within the room of their units, and with each side's prices in order
pub record AreMarketOffers (units : List unit.Unit) (blocks : List Block) : Type 0 where
  pub are : AreBlocks (length units) blocks
  pub room : HaveRoom units blocks
  pub curves : HaveOfferCurves units blocks
  pub all : OfferAllRoom units blocks

-- ---- the laws
abbrev pub LawOfNetworkUnits : Type 0
LawOfNetworkUnits = (network : LiveNetwork) → IsNetwork network → All (IsRanged (unit_list_of network).rows) (unit_list_of network).units

abbrev pub LawOfUnitOffers : Type 0
LawOfUnitOffers = (list : UnitList) (costs : List Record) (count : ℕ) (offers : UnitOffers)
    → AreUnitOffers list costs count offers → AreMarketOffers list.units offers.blocks
