-- What a table of offers stands for: the blocks of its records, or the first fault.
use Rattle.std.specs.Prelude.{ℕ, ◌==◌, ◌||◌, ℤ, pos, ◌+ℤ◌, Bool, true, not, List, [], ◌∷◌, map, codes, Option, Some, None, Result, Ok, Err, slice_index_or, unsigned_abs, if◌then◌else◌}
use Rattle.std.specs.Int.Signed.{lt_z, le_z}
use Rattle.std.specs.List.{last_or, position}
use Rattle.std.specs.Str.{bytes_eq}
use Rattle.market_data.specs.declared.participants.Unit as unit
use Rattle.market_data.specs.declared.participants.UnitList.{UnitList}
use Rattle.market_model.specs.declared.participants.Block.{Block}
use Rattle.market_model.specs.declared.participants.Side.{Side}
use Rattle.market_model.specs.declared.participants.Side.TheVariants.{Sell, Buy}
use Rattle.market_data.specs.Scales.{most_blocks, mw_places, price_places}
use Rattle.market_model.specs.Stairs.{stair_in, offered, room_of}
use Rattle.record_reading.specs.Records.{Record, cell_of}
use Rattle.record_reading.specs.Steps.{and_then, checked, or_as, some_of}
use Rattle.csv_table.specs.Table.{framed, number_in}
use Rattle.record_reading.specs.Gathering.{gather}
use Rattle.offer_book.specs.declared.offer_table.Offer.{Offer}
use Rattle.offer_book.specs.declared.offer_table.Stair.{Stair}
use Rattle.offer_book.specs.declared.offer_table.OfferFault.{OfferFault}
use Rattle.offer_book.specs.declared.offer_table.OfferFault.TheVariants as fault

-- the number in a cell, in units of so many places
abbrev pub number : ℕ → Record → ℕ → ℕ → Result ℤ OfferFault
number line r col places = or_as fault.Frame (number_in line r col places)

abbrev pub side_in : ℕ → List ℕ → Result Side OfferFault
side_in line text = if bytes_eq text (codes "sell") then Ok Sell else if bytes_eq text (codes "buy") then Ok Buy else Err (fault.Side line)

-- a record's numbers from left to right, then its side
unfoldable pub offer_in : ℕ → Record → Result Offer OfferFault
offer_in line r =
    and_then (number line r 0 0) (λ unit.
    and_then (number line r 2 mw_places) (λ quantity.
    and_then (number line r 3 price_places) (λ price.
    and_then (side_in line (cell_of r 1)) (λ side.
    Ok (record { unit = unit; side = side; quantity = quantity; price = price })))))

-- the price of a stair's last block
abbrev pub last_price : List Block → Option ℤ
last_price blocks = last_or None (map (λ block. block.price) blocks)

abbrev pub ends_of : List Block → Stair
ends_of blocks = record { sum = offered blocks; last = last_price blocks }

-- a sell's price is not below the last one of its stair, a buy's not above
abbrev pub follows : Side → Option ℤ → ℤ → Bool
follows side None price = true
follows Sell (Some last) price = le_z last price
follows Buy (Some last) price = le_z price last

abbrev pub unit_of_place : List unit.Unit → ℕ → unit.Unit
unit_of_place units place = slice_index_or units place (record { row = 0; bus = 0; fixed = pos 0; up = pos 0; down = pos 0 })

-- the block of a live unit's offer, after the blocks of its stair
unfoldable pub block_after : unit.Unit → List Block → ℕ → ℕ → Offer → Result Block OfferFault
block_after u stair place line offer =
    checked
    ((lt_z offer.quantity (pos 0), fault.Negative line)
    ∷ (not (follows offer.side (last_price stair) offer.price), fault.OutOfOrder line)
    ∷ (lt_z (room_of offer.side u) (offered stair +ℤ offer.quantity), fault.OverCapacity line)
    ∷ [])
    (Ok (record { unit = place; side = offer.side; quantity = offer.quantity; price = offer.price }))

-- the gen row of a number, from 1 to the number of rows
unfoldable pub row_in : ℕ → ℕ → ℤ → Result ℕ OfferFault
row_in rows line number = if lt_z number (pos 1) || lt_z (pos rows) number then Err (fault.NoUnit line) else Ok (unsigned_abs number)

-- the block of an offer whose unit has this place among the live units, and none where it has no place
abbrev pub block_where : List unit.Unit → List Block → ℕ → Offer → Option ℕ → Result (Option Block) OfferFault
block_where units blocks line offer None = Ok None
block_where units blocks line offer (Some place) = some_of (block_after (unit_of_place units place) (stair_in place offer.side blocks) place line offer)

-- the block of a record, after the blocks before it
unfoldable pub block_in : UnitList → List Block → ℕ → Record → Result (Option Block) OfferFault
block_in list blocks line r =
    and_then (offer_in line r) (λ offer.
    and_then (row_in list.rows line offer.unit) (λ row.
    block_where list.units blocks line offer (position (λ u. u.row == row) list.units)))

abbrev pub offer_header : Record
offer_header = codes "unit" ∷ codes "side" ∷ codes "mw" ∷ codes "price" ∷ []

-- the blocks that the bytes stand for, in the order of their records
unfoldable pub blocks_of_table : UnitList → List ℕ → Result (List Block) OfferFault
blocks_of_table units bytes = and_then (framed fault.Frame offer_header (Some most_blocks) bytes) (gather (block_in units) [] 2)
