-- A dictionary that holds a market over some of its limits and rooms.
-- Source: dictionaries (Chvátal, Linear Programming); the form is own.
use Rattle.std.specs.Prelude.{◌≡◌, false, List, ◌++◌, map, Contains}
use Rattle.fraction_theory.specs.Fraction.{Fraction}
use Rattle.linear_system.specs.SameSystems.{SameRows, SameSystem}
use Rattle.linear_dict.specs.Dictionaries.{Dictionary, IsDictionary, system_in}
use Rattle.market_model.specs.declared.participants.Parts.{Parts}
use Rattle.market_system.specs.declared.variables.Variable.{Variable}
use Rattle.market_system.specs.MarketSystem.{name, coefficient, objective_price, low, high, system_of}
use Rattle.market_dict.specs.declared.taking.Taking.{Taking}
use Rattle.market_dict.specs.Takings.{AreTakings, columns_put, rows_put, taken_of}

-- These variables were put in as its columns, and these as its rows, with the coefficients that they have.
pub record HasPutIn (m : Parts) (columns rows : List Variable) (d : Dictionary) : Type 0 where
  pub live : d.spent ≡ false
  pub sound : IsDictionary d
  pub columns_named : d.columns ≡ map (name m) columns
  pub rows_named : d.rows ≡ map (name m) rows
  pub entries : (r j : Variable) → Contains rows r → Contains columns j → (system_in d).coefficient (name m r) (name m j) ≡ coefficient m r j

-- Its system has the rows of the market's system over these limits and rooms. Its columns were put in as the blocks and the offers of
-- reserve in the market's order and then those of the soft ones of these limits, and its rows as the balance, the need where reserve is
-- cleared and then these, in the order in which they were taken. Nothing is said of prices, bounds and values, so an edit of the market
-- changes nothing in it.
pub record HoldsMarket (m : Parts) (ts : List Taking) (d : Dictionary) : Type 0 where
  pub live : d.spent ≡ false
  pub sound : IsDictionary d
  pub same : SameRows (system_in d) (system_of m (taken_of ts))
  pub columns : d.columns ≡ map (name m) (columns_put m ts)
  pub rows : d.rows ≡ map (name m) (rows_put m ts)
  pub takings : AreTakings m ts

-- besides, its prices and bounds are those of the market, so that its system is the market's over these limits and rooms
pub record HoldsSystem (m : Parts) (ts : List Taking) (d : Dictionary) : Type 0 where
  pub holds : HoldsMarket m ts d
  pub same : SameSystem (system_in d) (system_of m (taken_of ts))

-- ---- the prices and bounds of a market's variables, in the order in which its dictionary has them: columns and then rows
abbrev pub column_prices : Parts → List Taking → List Fraction
column_prices m ts = map (objective_price m) (columns_put m ts)

abbrev pub lows : Parts → List Taking → List Fraction
lows m ts = map (low m) (columns_put m ts ++ rows_put m ts)

abbrev pub highs : Parts → List Taking → List Fraction
highs m ts = map (high m) (columns_put m ts ++ rows_put m ts)
