-- What holds of each table, table by table.
use Rattle.std.proofs.Common.{◌≡◌}
use Rattle.market_tables.specs.declared.GridTables.{GridTables}
use Rattle.market_tables.specs.declared.MarketTables.{MarketTables}
use Rattle.market_tables.specs.Tables.{EachOf, EachOfGrid}

-- ---- where one thing alone stands for each table, all of them are the same
module _ {T U : Type 0} (R : T → U → Type 0) (once : (t : T) (x y : U) → R t x → R t y → x ≡ y) where
  pub same-grid : (a : GridTables T T) (b c : GridTables U U) → EachOfGrid R a b → EachOfGrid R a c → b ≡ c
  same-grid a b c h k = λ i. record {
    case = once a.case b.case c.case h.case k.case i;
    ptdf = once a.ptdf b.ptdf c.ptdf h.ptdf k.ptdf i;
    lodf = once a.lodf b.lodf c.lodf h.lodf k.lodf i;
    contingencies = once a.contingencies b.contingencies c.contingencies h.contingencies k.contingencies i;
  }

  pub same-tables : (a : MarketTables T T) (b c : MarketTables U U) → EachOf R a b → EachOf R a c → b ≡ c
  same-tables a b c h k = λ i. record {
    grid = same-grid a.grid b.grid c.grid h.grid k.grid i;
    unit_outages = once a.unit_outages b.unit_outages c.unit_outages h.unit_outages k.unit_outages i;
    offers = once a.offers b.offers c.offers h.offers k.offers i;
    reserves = once a.reserves b.reserves c.reserves h.reserves k.reserves i;
    offsets = once a.offsets b.offsets c.offsets h.offsets k.offsets i;
    penalties = once a.penalties b.penalties c.penalties h.penalties k.penalties i;
  }

-- ---- what stands for each table, where something does
-- two things that hold of it
pub record FoundGrid {T U V : Type 0} (P : T → V → Type 0) (Q : U → V → Type 0) (a : GridTables T T) (b : GridTables U U) : Type 0 where
  pub found : GridTables V V
  pub first : EachOfGrid P a found
  pub second : EachOfGrid Q b found

pub record Found {T U V : Type 0} (P : T → V → Type 0) (Q : U → V → Type 0) (a : MarketTables T T) (b : MarketTables U U) : Type 0 where
  pub found : MarketTables V V
  pub first : EachOf P a found
  pub second : EachOf Q b found

module _ {T U V : Type 0} (R : T → U → Type 0) (P : T → V → Type 0) (Q : U → V → Type 0) (one : (t : T) (u : U) → R t u → (v : V) × P t v × Q u v) where
  pub found-grid : (a : GridTables T T) (b : GridTables U U) → EachOfGrid R a b → FoundGrid P Q a b
  found-grid a b h =
      let case = one a.case b.case h.case in
      let ptdf = one a.ptdf b.ptdf h.ptdf in
      let lodf = one a.lodf b.lodf h.lodf in
      let contingencies = one a.contingencies b.contingencies h.contingencies in
      record {
        found = record { case = case.0; ptdf = ptdf.0; lodf = lodf.0; contingencies = contingencies.0 };
        first = record { case = case.1; ptdf = ptdf.1; lodf = lodf.1; contingencies = contingencies.1 };
        second = record { case = case.2; ptdf = ptdf.2; lodf = lodf.2; contingencies = contingencies.2 };
      }

  pub found-tables : (a : MarketTables T T) (b : MarketTables U U) → EachOf R a b → Found P Q a b
  found-tables a b h =
      let grid = found-grid a.grid b.grid h.grid in
      let unit_outages = one a.unit_outages b.unit_outages h.unit_outages in
      let offers = one a.offers b.offers h.offers in
      let reserves = one a.reserves b.reserves h.reserves in
      let offsets = one a.offsets b.offsets h.offsets in
      let penalties = one a.penalties b.penalties h.penalties in
      record {
        found = record { grid = grid.found; unit_outages = unit_outages.0; offers = offers.0; reserves = reserves.0; offsets = offsets.0; penalties = penalties.0 };
        first = record { grid = grid.first; unit_outages = unit_outages.1; offers = offers.1; reserves = reserves.1; offsets = offsets.1; penalties = penalties.1 };
        second = record { grid = grid.second; unit_outages = unit_outages.2; offers = offers.2; reserves = reserves.2; offsets = offsets.2; penalties = penalties.2 };
      }
