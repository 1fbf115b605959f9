-- A dictionary that holds the system of prices that support a dispatch.
-- Source: dictionaries (Chvátal, Linear Programming); the form is own.
use Rattle.std.specs.Prelude.{◌≡◌, false, List, map, Contains}
use Rattle.linear_system.specs.SameSystems.{SameRows, SameSystem}
use Rattle.linear_dict.specs.Dictionaries.{Dictionary, IsDictionary, system_in}
use Rattle.market_model.specs.declared.participants.Parts.{Parts}
use Rattle.market_model.specs.Dispatch.{Dispatch}
use Rattle.price_system.specs.declared.variables.Variable.{Variable}
use Rattle.price_system.specs.PriceSystem.{Caps, coefficient, name, worths}
use Rattle.price_dict.specs.Reached.{columns_put, reached_system}

-- These prices were put in as its columns, and these variables as its rows, with the coefficients that they have. No row was solved for a price.
pub record HasPutIn (m : Parts) (columns rows : List Variable) (d : Dictionary) : Type 0 where
  pub live : d.spent ≡ false
  pub sound : IsDictionary d
  pub others : d.others ≡ d.columns
  pub columns_named : d.columns ≡ map (name m) columns
  pub rows_named : d.rows ≡ map (name m) rows
  pub entries : (r j : Variable) → Contains rows r → Contains columns j → (system_in d).coefficient (name m r) (name m j) ≡ coefficient m r j

-- Its system has the rows of that system, whatever the caps are. Its columns were put in as the prices of energy and of reserve, those of the limits
-- that are reached and those of the rooms that are used up, in the market's order, and its rows as the sum, the blocks and the offers of reserve.
pub record HoldsPrices (m : Parts) (x : Dispatch) (d : Dictionary) : Type 0 where
  pub live : d.spent ≡ false
  pub sound : IsDictionary d
  pub same : (c : Caps) → SameRows (system_in d) (reached_system m x c)
  pub columns : d.columns ≡ map (name m) (columns_put m x)
  pub rows : d.rows ≡ map (name m) (worths m)

-- besides, its bounds are those at the caps
pub record HoldsPriceSystem (m : Parts) (x : Dispatch) (c : Caps) (d : Dictionary) : Type 0 where
  pub holds : HoldsPrices m x d
  pub same : SameSystem (system_in d) (reached_system m x c)
