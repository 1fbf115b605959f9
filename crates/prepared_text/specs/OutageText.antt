-- The text of a table of outages.
use Rattle.std.specs.Prelude.{ℕ, List, ◌++◌, codes, decimal}
use Rattle.std.specs.List.{flat_map}
use Rattle.csv_table.specs.Table.{header_line}
use Rattle.factor_tables.specs.OutageNumbers.{outage_header}

abbrev pub outage_line : ℕ → List ℕ
outage_line row = decimal row ++ codes "\n"

-- the header, then a line for each row of a branch
unfoldable pub outage_text : List ℕ → List ℕ
outage_text rows = header_line outage_header ++ flat_map outage_line rows
