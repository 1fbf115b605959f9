-- What is written of blocks is read back as the same blocks.
-- Source: own. A block is one step of a unit's offer curve (of MW and price), as in the standard rules of electricity markets.
use Rattle.std.specs.Prelude.{◌≡◌, ◌≢◌, ◌<◌, ◌≤◌, ◌^◌, List, length, map, All, AllPairs, Ok}
use Rattle.market_data.specs.Participants.{IsDatum}
use Rattle.market_data.specs.declared.participants.UnitList.{UnitList}
use Rattle.market_model.specs.declared.participants.Block.{Block}
use Rattle.net_case.specs.Networks.{LiveNetwork, IsNetwork}
use Rattle.net_case.specs.NetworkReading.{unit_list_of}
use Rattle.offer_book.specs.EditLaws.{HaveOfferCurves}
use Rattle.offer_book.specs.Offers.{AreBlocks}
use Rattle.offer_book.specs.OfferTable.{blocks_of_table}
use Rattle.prepared_text.specs.OfferText.{offer_text}

-- units of distinct gen rows, from 1 to the last; a number of rows has 32 bits
pub record HaveGenRows (list : UnitList) : Type 0 where
  pub rows : list.rows < 2 ^ 32
  pub range : All (λ unit. (1 ≤ unit.row) × (unit.row ≤ list.rows)) list.units
  pub distinct : AllPairs (λ a b. a ≢ b) (map (λ unit. unit.row) list.units)

-- Blocks obey the rules of a table of offers where
pub record ObeyOfferRules (list : UnitList) (blocks : List Block) : Type 0 where
  -- there are no more than may be, each of a unit of the list, of a quantity that is not below 0 and of a price of 63 bits,
  pub each : AreBlocks (length list.units) blocks
  -- their quantities have 63 bits,
  pub quantities : All (λ block. IsDatum block.quantity) blocks
  -- and on each side of a unit the prices stand in order and the quantities are within its room.
  pub curves : HaveOfferCurves list.units blocks

-- what is written of such blocks is read back as these
abbrev pub LawOfOffersRead : Type 0
LawOfOffersRead = (list : UnitList) (blocks : List Block) → HaveGenRows list → ObeyOfferRules list blocks → blocks_of_table list (offer_text list blocks) ≡ Ok blocks

-- every network's units have such rows
abbrev pub LawOfUnitRows : Type 0
LawOfUnitRows = (network : LiveNetwork) → IsNetwork network → HaveGenRows (unit_list_of network)
