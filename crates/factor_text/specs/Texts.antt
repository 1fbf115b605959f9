-- The text of a table of factors.
use Rattle.std.specs.Prelude.{ℕ, List, ◌++◌, codes, decimal}
use Rattle.std.specs.List.{flat_map}
use Rattle.csv_table.specs.Table.{header_line}
use Rattle.line_text.specs.Decimals.{decimal_text}
use Rattle.market_data.specs.Scales.{factor_places}
use Rattle.factor_tables.specs.declared.by_pair.Column.{Column}
use Rattle.factor_tables.specs.Factors.{Entry}
use Rattle.factor_tables.specs.Tables.{header_of}

-- the line of a record: its branch's row, the number of the second column, and its factor as a decimal without zeros at its end
unfoldable pub record_line : Entry → List ℕ
record_line entry = decimal entry.0.0 ++ codes "," ++ decimal entry.0.1 ++ codes "," ++ decimal_text factor_places entry.1 ++ codes "\n"

-- the header of a table of this kind, then a line for each record
unfoldable pub factor_table_text : Column → List Entry → List ℕ
factor_table_text kind entries = header_line (header_of kind) ++ flat_map record_line entries
