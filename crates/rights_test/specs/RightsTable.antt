-- What a table of rights stands for: the rights of its records, or the first fault.
use Rattle.std.specs.Prelude.{ℕ, ℤ, pos, List, [], ◌∷◌, codes, Some, if◌then◌else◌, Result, Ok, Err}
use Rattle.std.specs.Int.Signed.{lt_z}
use Rattle.std.specs.Option.{option_map_or}
use Rattle.record_reading.specs.Records.{Record}
use Rattle.record_reading.specs.Gathering.{read_records}
use Rattle.record_reading.specs.Steps.{and_then, or_as}
use Rattle.csv_table.specs.Table.{framed, number_in}
use Rattle.market_data.specs.declared.participants.Bus.{Bus}
use Rattle.market_data.specs.Scales.{mw_places}
use Rattle.market_model.specs.declared.participants.Parts.{Parts}
use Rattle.market_model.specs.declared.participants.TransmissionRight.{TransmissionRight}
use Rattle.market_model.specs.Dispatch.{place_of_bus}
use Rattle.rights_test.specs.declared.reading.RightRecord.{RightRecord}
use Rattle.rights_test.specs.declared.right_parts.RightsFault.{RightsFault}
use Rattle.rights_test.specs.declared.right_parts.RightsFault.TheVariants as fault

-- the number in a cell, in units of so many places
abbrev pub number : ℕ → Record → ℕ → ℕ → Result ℤ RightsFault
number line r col places = or_as fault.Frame (number_in line r col places)

-- the numbers of a record from left to right
unfoldable pub record_in : ℕ → Record → Result RightRecord RightsFault
record_in line r =
    and_then (number line r 0 0) (λ from.
    and_then (number line r 1 0) (λ to.
    and_then (number line r 2 mw_places) (λ mw.
    Ok (record { from = from; to = to; mw = mw }))))

-- the place of the live bus that a record names
abbrev pub place_in : List Bus → ℕ → ℤ → Result ℕ RightsFault
place_in buses line n = option_map_or Ok (place_of_bus buses n) (Err (fault.NoBus line))

-- the right of a record: its numbers, then the buses that they name, then its sign
unfoldable pub right_in : List Bus → ℕ → Record → Result TransmissionRight RightsFault
right_in buses line r =
    and_then (record_in line r) (λ numbers.
    and_then (place_in buses line numbers.from) (λ from.
    and_then (place_in buses line numbers.to) (λ to.
    if lt_z numbers.mw (pos 0) then Err (fault.Negative line) else Ok (record { from = from; to = to; mw = numbers.mw }))))

-- the most records
abbrev pub most_rights : ℕ
most_rights = 1000

abbrev pub right_header : Record
right_header = codes "from" ∷ codes "to" ∷ codes "mw" ∷ []

-- the rights that the bytes stand for, in the order of their records
unfoldable pub rights_of_table : Parts → List ℕ → Result (List TransmissionRight) RightsFault
rights_of_table m bytes = and_then (framed fault.Frame right_header (Some most_rights) bytes) (read_records (λ done. right_in m.buses) [] 2)
