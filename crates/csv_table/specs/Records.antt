-- The records of a text as one run of cells, and why their reading stops.
use Rattle.std.specs.Prelude.{◌≡◌, ◌≢◌, ⊤, ℕ, zero, suc, ◌+◌, ◌*◌, ◌<◌, ◌^◌, List, [], ◌∷◌, length, take, drop, get_or, Some, true}
use Rattle.csv.specs.Reading.{error_kind, stops_reader}
use Rattle.csv.specs.Records.{fields_of, partial_of}
use Rattle.record_reading.specs.Records.{Record, first_ragged}
use Rattle.csv_table.specs.declared.Records.{Records}
use Rattle.csv_table.specs.declared.RecordsStop.{RecordsStop}
use Rattle.csv_table.specs.declared.RecordsStop.TheVariants as stop

-- so many records of a width, cut from a run of cells
unfoldable pub cut : ℕ → ℕ → List (List ℕ) → List Record
cut width zero cells = []
cut width (suc count) cells = take width cells ∷ cut width count (drop width cells)

-- the records that are kept
unfoldable pub records_in : Records → List Record
records_in records = cut records.width records.count (fields_of records.cells)

-- the first of some records, with no cells where there is none
abbrev pub first_of : List Record → Record
first_of records = get_or records 0 []

-- as many cells as the records have, none in the making, and a place for one record more
pub record IsFlat (records : Records) : Type 0 where
  pub cells : length (fields_of records.cells) ≡ records.count * records.width
  pub partial : partial_of records.cells ≡ []
  pub small : length (fields_of records.cells) < 2 ^ 64
  pub count : records.count + 1 < 2 ^ 64

-- a record's refusal behind others: memory, or it stands behind some and has another width than they
abbrev pub IsPushStop : Records → Record → RecordsStop → Type 0
IsPushStop records r (stop.Reader e) = ⊥
IsPushStop records r (stop.Width line) = (0 < records.count) × (length r ≢ records.width) × (line ≡ records.count + 1)
IsPushStop records r stop.Memory = ⊤

-- memory or the source of the bytes stopped the reading, or a record of another width than the first, which is the first such one
abbrev pub IsRecordsStop : List Record → RecordsStop → Type 0
IsRecordsStop records (stop.Reader e) = stops_reader (error_kind e) ≡ true
IsRecordsStop records (stop.Width line) = first_ragged (length (first_of records)) 1 records ≡ Some line
IsRecordsStop records stop.Memory = ⊤
