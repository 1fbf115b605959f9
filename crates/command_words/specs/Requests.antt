-- What the words ask for, in the terms of their reading.
use Rattle.std.specs.Borrow.{Bor}
use Rattle.std.specs.Prelude.{List, Option, option_map}
use Rattle.clap.specs.Words.{Text}
use Rattle.command_words.specs.Words.{AsksCheck, AsksClear, AsksFactors, AsksMake, AsksMigrate, AsksPool, AsksReplay, AsksRights, AsksVerify, CheckNames, FactorNames, GridNames, MarketNames}
use Rattle.market_tables.specs.Tables.{map_grid, map_tables}
use Rattle.market_tables.specs.declared.GridTables.{GridTables}
use Rattle.command_words.specs.declared.words.CheckFiles.{CheckFiles}
use Rattle.command_words.specs.declared.words.FactorFiles.{FactorFiles}
use Rattle.command_words.specs.declared.words.MarketFiles.{MarketFiles}
use Rattle.command_words.specs.declared.words.Request.{Request}
use Rattle.command_words.specs.declared.words.Request.TheVariants as request

-- the text of a name, where there is one
abbrev pub text_of_name : Option (Bor Text) → Option Text
text_of_name = option_map (λ name. name.now)

-- the names of the files of a market as texts
abbrev pub names_of_market : MarketFiles (Bor Text) (Option (Bor Text)) → MarketNames
names_of_market files = record { tables = map_tables (λ name. name.now) text_of_name files.tables; rating = files.rating; places = files.places; bits = files.bits }

-- the names of a case and of its tables as texts
abbrev pub names_of_grid : GridTables (Bor Text) (Option (Bor Text)) → GridNames
names_of_grid = map_grid (λ name. name.now) text_of_name

-- the names of what is to be checked as texts
abbrev pub names_to_check : CheckFiles (Bor Text) (Option (Bor Text)) → CheckNames
names_to_check files = record { tables = names_of_grid files.tables; places = files.places }

-- the names of what factors are made from, and of the tables that are made, as texts
abbrev pub names_of_factors : FactorFiles (Bor Text) (Option (Bor Text)) → FactorNames
names_of_factors files = record {
  case = files.case.now;
  contingencies = text_of_name files.contingencies;
  ptdf_out = files.ptdf_out.now;
  lodf_out = text_of_name files.lodf_out;
  places = files.places;
}

abbrev pub Asks : List Text → Request → Type 0
Asks words (request.Pool files) = AsksPool words files.case.now files.offers.now
Asks words (request.Clear files) = AsksClear words (names_of_market files.market) (text_of_name files.certificate)
Asks words (request.Replay files) = AsksReplay words (names_of_market files.market) files.edits.now (text_of_name files.certificate)
Asks words (request.Verify files) = AsksVerify words (names_of_market files.market) (text_of_name files.edits) files.certificate.now
Asks words (request.Rights files) = AsksRights words (names_of_market files.market) files.rights.now
Asks words (request.Check files) = AsksCheck words (names_to_check files)
Asks words (request.Factors files) = AsksFactors words (names_of_factors files)
Asks words (request.Migrate files) = AsksMigrate words files.certificate.now files.out.now files.bits
Asks words (request.Make ring) = AsksMake words ring.buses ring.seed
