-- What the table of outages stands for: the list of its numbers, or the first fault.
use Rattle.std.specs.Prelude.{ℕ, ℤ, List, [], ◌∷◌, codes, Some, Result}
use Rattle.record_reading.specs.Records.{Record}
use Rattle.record_reading.specs.Steps.{and_then}
use Rattle.record_reading.specs.Gathering.{read_records}
use Rattle.csv_table.specs.Table.{framed}
use Rattle.market_data.specs.Scales.{most_outages}
use Rattle.factor_tables.specs.declared.table_fault.TableFault.{TableFault}
use Rattle.factor_tables.specs.declared.table_fault.TableFault.TheVariants as fault
use Rattle.factor_tables.specs.Records.{number}

-- the number of a record of the table of outages
abbrev pub outage_number : List ℤ → ℕ → Record → Result ℤ TableFault
outage_number done line r = number line r 0 0

abbrev pub outage_header : Record
outage_header = codes "branch" ∷ []

unfoldable pub outage_rows_of : List ℕ → Result (List ℤ) TableFault
outage_rows_of bytes = and_then (framed fault.Frame outage_header (Some most_outages) bytes) (read_records outage_number [] 2)
