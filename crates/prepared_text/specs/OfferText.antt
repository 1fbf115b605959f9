-- The text of a table of offers.
use Rattle.std.specs.Prelude.{ℕ, List, ◌++◌, codes, decimal}
use Rattle.std.specs.List.{flat_map}
use Rattle.csv_table.specs.Table.{header_line}
use Rattle.line_text.specs.Decimals.{decimal_text}
use Rattle.market_data.specs.Scales.{mw_places, price_places}
use Rattle.market_data.specs.declared.participants.UnitList.{UnitList}
use Rattle.market_model.specs.declared.participants.Block.{Block}
use Rattle.market_model.specs.declared.participants.Side.{Side}
use Rattle.market_model.specs.declared.participants.Side.TheVariants.{Sell, Buy}
use Rattle.offer_book.specs.OfferTable.{offer_header, unit_of_place}

abbrev pub side_word : Side → List ℕ
side_word Sell = codes "sell"
side_word Buy = codes "buy"

-- the line of a block of the unit of this gen row: the row, its side, its quantity in MW and its price, as decimals without zeros at
-- their end
abbrev pub step_line : ℕ → Block → List ℕ
step_line row block = decimal row ++ codes "," ++ side_word block.side ++ codes "," ++ decimal_text mw_places block.quantity ++ codes "," ++ decimal_text price_places block.price ++ codes "\n"

unfoldable pub offer_line : UnitList → Block → List ℕ
offer_line list block = step_line (unit_of_place list.units block.unit).row block

-- the header, then a line for each block
unfoldable pub offer_text : UnitList → List Block → List ℕ
offer_text list blocks = header_line offer_header ++ flat_map (offer_line list) blocks
