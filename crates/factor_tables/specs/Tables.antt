-- What the tables of factors stand for: the list of their records, or the first fault.
use Rattle.std.specs.Prelude.{ℕ, List, [], ◌∷◌, codes, if◌then◌else◌, None, Result, Ok, Err}
use Rattle.record_reading.specs.Records.{Record}
use Rattle.record_reading.specs.Steps.{and_then, checked, fine}
use Rattle.record_reading.specs.Gathering.{read_records}
use Rattle.csv_table.specs.Table.{framed}
use Rattle.market_data.specs.declared.scales.FactorPlaces.{FactorPlaces}
use Rattle.net_case.specs.Networks.{LiveNetwork}
use Rattle.factor_tables.specs.declared.by_pair.Column.{Column}
use Rattle.factor_tables.specs.declared.by_pair.Column.TheVariants as column
use Rattle.factor_tables.specs.declared.table_fault.TableFault.{TableFault}
use Rattle.factor_tables.specs.declared.table_fault.TableFault.TheVariants as fault
use Rattle.factor_tables.specs.Factors.{Entry, FactorRecords, has_pair}
use Rattle.factor_tables.specs.Records.{record_in}
use Rattle.factor_tables.specs.Rules.{pair_of, record_faults}

-- the pair and the factor of a record behind others: its numbers, then what they name, then whether the pair stood before
unfoldable pub entry_in : FactorPlaces → LiveNetwork → Column → List Entry → ℕ → Record → Result Entry TableFault
entry_in places network kind done line r =
    and_then (record_in places line r) (λ numbers.
    and_then (checked (record_faults kind network line numbers) fine) (λ _.
    if has_pair done (pair_of numbers) then Err (fault.Twice line) else Ok (pair_of numbers, numbers.factor)))

-- the header of a table of factors of this kind
abbrev pub header_of : Column → Record
header_of column.Bus = codes "branch" ∷ codes "bus" ∷ codes "factor" ∷ []
header_of column.Outage = codes "branch" ∷ codes "outage" ∷ codes "factor" ∷ []

-- that of the outage factors
abbrev pub loss_header : Record
loss_header = header_of column.Outage

-- the pairs and factors of a table of this kind, or the first fault
unfoldable pub factors_of : Column → LiveNetwork → List ℕ → FactorPlaces → Result (List Entry) TableFault
factors_of kind network bytes places = and_then (framed fault.Frame (header_of kind) None bytes) (read_records (entry_in places network kind) [] 2)

-- with the places that they were read with
abbrev pub table_of : Column → LiveNetwork → List ℕ → FactorPlaces → Result FactorRecords TableFault
table_of kind network bytes places = and_then (factors_of kind network bytes places) (λ entries. Ok (record { places = places; entries = entries }))

abbrev pub shift_of : LiveNetwork → List ℕ → FactorPlaces → Result FactorRecords TableFault
shift_of network bytes places = table_of column.Bus network bytes places

abbrev pub loss_of : LiveNetwork → List ℕ → FactorPlaces → Result FactorRecords TableFault
loss_of network bytes places = table_of column.Outage network bytes places
