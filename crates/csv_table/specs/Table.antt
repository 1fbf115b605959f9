-- What the bytes of a table stand for: its records, the frame that they must fit, and the numbers in their cells.
use Rattle.std.specs.Prelude.{ℕ, ℤ, Bool, false, List, [], ◌∷◌, ◌++◌, ◌+◌, codes, length, nat_lt, if◌then◌else◌, Option, Some, None, Result, Ok, Err}
use Rattle.std.specs.List.{join_by}
use Rattle.std.specs.Str.{bytes_eq}
use Rattle.std.specs.Cmp.Lexicographic.{pointwise}
use Rattle.std.specs.Option.{option_map_or}
use Rattle.csv.specs.Reading.{default_config, records, strip_bom}
use Rattle.scaled_decimal.specs.Reading.{units_of}
use Rattle.record_reading.specs.Records.{Record, cell_of, first_ragged}
use Rattle.record_reading.specs.Steps.{or_as}
use Rattle.record_reading.specs.declared.FrameFault.{FrameFault}
use Rattle.record_reading.specs.declared.FrameFault.TheVariants as fault
use Rattle.record_reading.specs.declared.Why.TheVariants as why

-- the records of a text, its header the first of them
unfoldable pub table_of : List ℕ → List Record
table_of bytes = records default_config (strip_bom bytes)

-- whether two records have the same cells
abbrev pub same_record : Record → Record → Bool
same_record = pointwise bytes_eq

-- whether a number of records is above a limit, where there is one
abbrev pub is_over : Option ℕ → ℕ → Bool
is_over None count = false
is_over (Some most) count = nat_lt most count

-- of a text's records those under the header, at most so many, or the first fault of the table as a whole
unfoldable pub frame_of : Record → Option ℕ → List Record → Result (List Record) FrameFault
frame_of header most [] = Err fault.Header
frame_of header most (h ∷ records) =
    option_map_or (λ line. Err (fault.Width line)) (first_ragged (length h) 1 (h ∷ records))
    (if same_record h header
    then (if is_over most (length records) then Err (fault.TooMany (length records)) else Ok records)
    else Err fault.Header)

-- the records under a table's header, or the first fault of the table as a whole, seen as another
abbrev pub framed : {F : Type 0} → (FrameFault → F) → Record → Option ℕ → List ℕ → Result (List Record) F
framed told header most bytes = or_as told (frame_of header most (table_of bytes))

-- the text of a table that has this header and no records: the cells with commas between, and the end of the line
abbrev pub header_line : Record → List ℕ
header_line header = join_by (λ cell. cell) (codes ",") header ++ codes "\n"

-- the number in a record's cell, in units of so many places; lines count from 1, the columns of a fault too
abbrev pub number_in : ℕ → Record → ℕ → ℕ → Result ℤ FrameFault
number_in line r col places = or_as (λ decimal. fault.Cell line (col + 1) (why.Decimal decimal)) (units_of places (cell_of r col))
