-- The files that words name, and the bytes that are read of them.
use Rattle.std.specs.Prelude.{◌≡◌, ℕ, List, Option, Some, None}
use Rattle.outside_store.specs.Files.{Files, Reads}
use Rattle.market_inputs.specs.Files.{most_file}
use Rattle.command_words.specs.Words.{GridNames, MarketNames}
use Rattle.csv_table.specs.Table.{header_line}
use Rattle.factor_tables.specs.Offsets.{offset_header}
use Rattle.factor_tables.specs.OutageNumbers.{outage_header}
use Rattle.factor_tables.specs.Penalties.{penalty_header}
use Rattle.factor_tables.specs.Tables.{loss_header}
use Rattle.market_tables.specs.Tables.{EachOf, EachOfGrid, GridTexts, MarketTexts}
use Rattle.market_tables.specs.declared.GridTables.{GridTables}
use Rattle.market_tables.specs.declared.MarketTables.{MarketTables}
use Rattle.offer_book.specs.Reserving.{reserve_header}
use Rattle.outage_list.specs.UnitListing.{unit_outage_header}
use Rattle.record_reading.specs.Records.{Record}

-- ---- where the text of a table comes from
-- a file of this name, or this header alone
pub data Source : Type 0 where
  in_file : List ℕ → Source
  header_alone : Record → Source

-- that of a table which no file may be named for
abbrev pub source_of : Record → Option (List ℕ) → Source
source_of header (Some name) = in_file name
source_of header None = header_alone header

-- those of a case and of its tables
abbrev pub grid_sources : GridNames → GridTables Source Source
grid_sources names = record {
  case = in_file names.case;
  ptdf = in_file names.ptdf;
  lodf = source_of loss_header names.lodf;
  contingencies = source_of outage_header names.contingencies;
}

-- those of the files of a market
abbrev pub table_sources : MarketNames → MarketTables Source Source
table_sources names = record {
  grid = grid_sources names.tables.grid;
  unit_outages = source_of unit_outage_header names.tables.unit_outages;
  offers = in_file names.tables.offers;
  reserves = source_of reserve_header names.tables.reserves;
  offsets = source_of offset_header names.tables.offsets;
  penalties = source_of penalty_header names.tables.penalties;
}

-- ---- the texts
-- what is read of a table
abbrev pub ReadsTable : Option Files → Source → List ℕ → Type 0
ReadsTable files (in_file name) bytes = Reads files name most_file bytes
ReadsTable files (header_alone header) bytes = bytes ≡ header_line header

-- the whole text of a table
abbrev pub IsTableFile : Files → Source → List ℕ → Type 0
IsTableFile files (in_file name) text = files name ≡ Some text
IsTableFile files (header_alone header) text = text ≡ header_line header

-- what is read of a case and of its tables, and of the files of a market
abbrev pub ReadsGrid : Option Files → GridNames → GridTexts → Type 0
ReadsGrid files names bytes = EachOfGrid (ReadsTable files) (grid_sources names) bytes

abbrev pub ReadsMarket : Option Files → MarketNames → MarketTexts → Type 0
ReadsMarket files names bytes = EachOf (ReadsTable files) (table_sources names) bytes

-- their whole texts
abbrev pub HaveGridTexts : Files → GridNames → GridTexts → Type 0
HaveGridTexts files names texts = EachOfGrid (IsTableFile files) (grid_sources names) texts

abbrev pub HaveTexts : Files → MarketNames → MarketTexts → Type 0
HaveTexts files names texts = EachOf (IsTableFile files) (table_sources names) texts
