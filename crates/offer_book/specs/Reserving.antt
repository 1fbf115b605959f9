-- What a table of reserves stands for: the offers and the need of its records, or the first fault.
use Rattle.std.specs.Prelude.{⊤, ℕ, ◌+◌, ◌≡◌, ◌≢◌, ◌==◌, ◌||◌, ◌&&◌, ℤ, pos, ◌≤ℤ◌, Bool, false, List, [], ◌∷◌, ◌++◌, length, map, codes, All, AllPairs, IfSome, Option, Some, None, is_some, Result, Ok, Err, unsigned_abs, nat_lt, if◌then◌else◌}
use Rattle.std.specs.Int.Signed.{lt_z}
use Rattle.std.specs.List.{position}
use Rattle.std.specs.Option.{unwrap_or}
use Rattle.std.specs.Str.{bytes_eq}
use Rattle.market_data.specs.Participants.{IsDatum}
use Rattle.market_data.specs.Scales.{mw_places, price_places, most_reserves}
use Rattle.market_data.specs.declared.participants.UnitList.{UnitList}
use Rattle.market_model.specs.declared.participants.Reserve.{Reserve}
use Rattle.market_model.specs.Market.{IsReserveOffer}
use Rattle.market_model.specs.Reserves.{offers_among}
use Rattle.record_reading.specs.Records.{Record, cell_of}
use Rattle.record_reading.specs.Steps.{and_then, checked, or_as}
use Rattle.csv_table.specs.Table.{framed, number_in}
use Rattle.offer_book.specs.declared.reserve_reading.Entry.{Entry}
use Rattle.offer_book.specs.declared.reserve_reading.Entry.TheVariants as entry
use Rattle.offer_book.specs.declared.reserve_reading.Found.{Found}
use Rattle.offer_book.specs.declared.reserve_reading.Kind.{Kind}
use Rattle.offer_book.specs.declared.reserve_reading.Kind.TheVariants as kind
use Rattle.offer_book.specs.declared.reserve_reading.WrittenOffer.{WrittenOffer}
use Rattle.offer_book.specs.declared.reserve_reading.ReserveFault.{ReserveFault}
use Rattle.offer_book.specs.declared.reserve_reading.ReserveFault.TheVariants as fault

-- ---- the columns
abbrev pub reserve_header : Record
reserve_header = codes "kind" ∷ codes "unit" ∷ codes "mw" ∷ codes "price" ∷ []

abbrev pub kind_column : ℕ
kind_column = 0

abbrev pub unit_column : ℕ
unit_column = 1

abbrev pub quantity_column : ℕ
quantity_column = 2

abbrev pub price_column : ℕ
price_column = 3

-- ---- what a record says
abbrev pub says : Record → List ℕ → Bool
says r word = bytes_eq (cell_of r kind_column) word

abbrev pub is_empty : Record → ℕ → Bool
is_empty r col = length (cell_of r col) == 0

-- its first cell names it, and a need has neither a unit nor a price
unfoldable pub kind_in : ℕ → Record → Result Kind ReserveFault
kind_in line r =
    if says r (codes "offer") then Ok kind.Offer
    else if says r (codes "need") && (is_empty r unit_column && is_empty r price_column) then Ok kind.Need
    else Err (fault.Word line)

-- the number in a cell, in units of so many places
abbrev pub number : ℕ → Record → ℕ → ℕ → Result ℤ ReserveFault
number line r col places = or_as fault.Frame (number_in line r col places)

-- the numbers of an offer, from left to right
unfoldable pub written_in : ℕ → Record → Result WrittenOffer ReserveFault
written_in line r =
    and_then (number line r unit_column 0) (λ unit.
    and_then (number line r quantity_column mw_places) (λ quantity.
    and_then (number line r price_column price_places) (λ price.
    Ok (record { unit = unit; quantity = quantity; price = price }))))

-- the place among the live units of the unit in a gen row of this number, from 1 to the number of rows; none of one out of service
unfoldable pub place_in : UnitList → ℕ → ℤ → Result (Option ℕ) ReserveFault
place_in list line number =
    if lt_z number (pos 1) || lt_z (pos list.rows) number then Err (fault.NoUnit line)
    else Ok (position (λ u. u.row == unsigned_abs number) list.units)

-- ---- what a record adds to those before it
-- an offer of the live unit of this place: its quantity is at least 0, and the unit has none yet
unfoldable pub live_entry : Found → ℕ → ℕ → WrittenOffer → Result Entry ReserveFault
live_entry found line unit offer =
    checked
    ((lt_z offer.quantity (pos 0), fault.Negative line)
    ∷ (offers_among found.offers unit, fault.Twice line)
    ∷ [])
    (Ok (entry.Offer (record { unit = unit; quantity = offer.quantity; price = offer.price })))

-- an offer, which is dropped where its unit is out of service
abbrev pub entry_where : Found → ℕ → WrittenOffer → Option ℕ → Result Entry ReserveFault
entry_where found line offer None = Ok entry.Dropped
entry_where found line offer (Some unit) = live_entry found line unit offer

unfoldable pub offer_entry : UnitList → Found → ℕ → Record → Result Entry ReserveFault
offer_entry units found line r =
    and_then (written_in line r) (λ offer.
    and_then (place_in units line offer.unit) (λ place.
    entry_where found line offer place))

-- a need of at least 0, where none stands before it
unfoldable pub need_entry : Found → ℕ → Record → Result Entry ReserveFault
need_entry found line r =
    and_then (number line r quantity_column mw_places) (λ mw.
    checked
    ((lt_z mw (pos 0), fault.Negative line)
    ∷ (is_some found.need, fault.Twice line)
    ∷ [])
    (Ok (entry.Need mw)))

abbrev pub entry_of_kind : UnitList → Found → ℕ → Record → Kind → Result Entry ReserveFault
entry_of_kind units found line r kind.Offer = offer_entry units found line r
entry_of_kind units found line r kind.Need = need_entry found line r

-- a record's words, then its numbers, then what they name
unfoldable pub entry_in : UnitList → Found → ℕ → Record → Result Entry ReserveFault
entry_in units found line r = and_then (kind_in line r) (entry_of_kind units found line r)

-- ---- the table
abbrev pub nothing_found : Found
nothing_found = record { offers = []; need = None }

abbrev pub found_with : Found → Entry → Found
found_with found entry.Dropped = found
found_with found (entry.Offer offer) = record { offers = found.offers ++ offer ∷ []; need = found.need }
found_with found (entry.Need mw) = record { offers = found.offers; need = Some mw }

-- what records give behind those before them, the first of them having the line that is given, or the first fault
unfoldable pub found_from : UnitList → Found → ℕ → List Record → Result Found ReserveFault
found_from units found line [] = Ok found
found_from units found line (r ∷ records) = and_then (entry_in units found line r) (λ more. found_from units (found_with found more) (line + 1) records)

-- the reserve of what so many records gave: it is listed where there is a record, and none is needed where no record says how much
abbrev pub reserve_from : ℕ → Found → Reserve
reserve_from count found = record { listed = nat_lt 0 count; offers = found.offers; need = unwrap_or found.need (pos 0) }

unfoldable pub reserve_in : UnitList → List Record → Result Reserve ReserveFault
reserve_in units records = and_then (found_from units nothing_found 2 records) (λ found. Ok (reserve_from (length records) found))

-- the reserve that the bytes stand for
unfoldable pub reserve_of_table : UnitList → List ℕ → Result Reserve ReserveFault
reserve_of_table units bytes = and_then (framed fault.Frame reserve_header (Some most_reserves) bytes) (reserve_in units)

-- ---- what is kept
pub record OfferIsWritten (offer : WrittenOffer) : Type 0 where
  pub unit : IsDatum offer.unit
  pub quantity : IsDatum offer.quantity
  pub price : IsDatum offer.price

-- what may be added: an offer of one of so many units that has none yet, or a need of at least 0
abbrev pub IsEntry : ℕ → Found → Entry → Type 0
IsEntry units found entry.Dropped = ⊤
IsEntry units found (entry.Offer offer) = IsReserveOffer units offer × (offers_among found.offers offer.unit ≡ false)
IsEntry units found (entry.Need mw) = pos 0 ≤ℤ mw

-- offers of some of so many units, no unit twice, and a need of at least 0 where there is one
pub record AreFound (units : ℕ) (found : Found) : Type 0 where
  pub each : All (IsReserveOffer units) found.offers
  pub distinct : AllPairs (λ a b. a ≢ b) (map (λ offer. offer.unit) found.offers)
  pub need : IfSome found.need (λ mw. pos 0 ≤ℤ mw)
