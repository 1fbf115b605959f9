-- The bytes of a file, and what they stand for or why it is refused.
use Rattle.std.specs.Prelude.{ℕ, nat_lt, List, length, Result, Ok, Err, if◌then◌else◌}
use Rattle.refusal_text.specs.declared.refusals.Input.TheVariants as input
use Rattle.refusal_text.specs.declared.refusals.Refusal.{Refusal}
use Rattle.refusal_text.specs.declared.refusals.Refusal.TheVariants as refusal
use Rattle.market_tables.specs.Tables.{GridTexts, MarketTexts}
use Rattle.market_tables.specs.declared.GridTables.{GridTables}
use Rattle.market_tables.specs.declared.MarketTables.{MarketTables}

-- the most bytes of a file
abbrev pub most_file : ℕ
most_file = 33554432

-- the bytes of a file, where they are not too many
unfoldable pub sized : Refusal → List ℕ → Result (List ℕ) Refusal
sized too_long bytes = if nat_lt most_file (length bytes) then Err too_long else Ok bytes

-- ---- the same of each table
abbrev pub SizedGrid : Type 0
SizedGrid = GridTables (Result (List ℕ) Refusal) (Result (List ℕ) Refusal)

abbrev pub SizedTables : Type 0
SizedTables = MarketTables (Result (List ℕ) Refusal) (Result (List ℕ) Refusal)

abbrev pub sized_grid : GridTexts → SizedGrid
sized_grid texts = record {
  case = sized (refusal.TooLong input.Case) texts.case;
  ptdf = sized (refusal.TooLong input.Ptdf) texts.ptdf;
  lodf = sized (refusal.TooLong input.Lodf) texts.lodf;
  contingencies = sized (refusal.TooLong input.Contingencies) texts.contingencies;
}

abbrev pub sized_tables : MarketTexts → SizedTables
sized_tables texts = record {
  grid = sized_grid texts.grid;
  unit_outages = sized (refusal.TooLong input.UnitOutages) texts.unit_outages;
  offers = sized (refusal.TooLong input.Offers) texts.offers;
  reserves = sized (refusal.TooLong input.Reserves) texts.reserves;
  offsets = sized (refusal.TooLong input.Offsets) texts.offsets;
  penalties = sized (refusal.TooLong input.Penalties) texts.penalties;
}
