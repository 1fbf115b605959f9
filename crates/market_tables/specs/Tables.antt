-- The tables of a market, each as something else, and what holds of each.
use Rattle.std.specs.Borrow.{Bor}
use Rattle.std.specs.Prelude.{ℕ, List}
use Rattle.market_tables.specs.declared.GridTables.{GridTables}
use Rattle.market_tables.specs.declared.MarketTables.{MarketTables}

-- ---- the texts of tables
abbrev pub GridTexts : Type 0
GridTexts = GridTables (List ℕ) (List ℕ)

abbrev pub MarketTexts : Type 0
MarketTexts = MarketTables (List ℕ) (List ℕ)

-- ---- each table as something else: one that must be there, and one that may be left out
abbrev pub map_grid : {T U O P : Type 0} → (T → U) → (O → P) → GridTables T O → GridTables U P
map_grid f g tables = record { case = f tables.case; ptdf = f tables.ptdf; lodf = g tables.lodf; contingencies = g tables.contingencies }

abbrev pub map_tables : {T U O P : Type 0} → (T → U) → (O → P) → MarketTables T O → MarketTables U P
map_tables f g tables = record { grid = map_grid f g tables.grid; unit_outages = g tables.unit_outages; offers = f tables.offers; reserves = g tables.reserves; offsets = g tables.offsets; penalties = g tables.penalties }

-- the texts of bytes that are lent
abbrev pub grid_lent : GridTables (Bor (List ℕ)) (Bor (List ℕ)) → GridTexts
grid_lent = map_grid (λ bytes. bytes.now) (λ bytes. bytes.now)

abbrev pub tables_lent : MarketTables (Bor (List ℕ)) (Bor (List ℕ)) → MarketTexts
tables_lent = map_tables (λ bytes. bytes.now) (λ bytes. bytes.now)

-- ---- what holds of each table and of what stands for it elsewhere
pub record EachOfGrid {T U : Type 0} (R : T → U → Type 0) (a : GridTables T T) (b : GridTables U U) : Type 0 where
  pub case : R a.case b.case
  pub ptdf : R a.ptdf b.ptdf
  pub lodf : R a.lodf b.lodf
  pub contingencies : R a.contingencies b.contingencies

pub record EachOf {T U : Type 0} (R : T → U → Type 0) (a : MarketTables T T) (b : MarketTables U U) : Type 0 where
  pub grid : EachOfGrid R a.grid b.grid
  pub unit_outages : R a.unit_outages b.unit_outages
  pub offers : R a.offers b.offers
  pub reserves : R a.reserves b.reserves
  pub offsets : R a.offsets b.offsets
  pub penalties : R a.penalties b.penalties
