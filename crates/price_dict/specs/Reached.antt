-- Which prices may be other than 0 at a dispatch: those of limits that its flows reach, and those of rooms that are used up.
-- Source: complementary slackness (Chvátal, Linear Programming).
use Rattle.std.specs.Prelude.{◌≡◌, ◌≢◌, ℕ, Bool, List, [], ◌∷◌, ◌++◌, filter, map, AllPairs, Contains}
use Rattle.std.specs.List.{flat_map}
use Rattle.linear_dict.specs.Places.{is_among}
use Rattle.linear_system.specs.Systems.{System}
use Rattle.market_model.specs.declared.limits.Row.{Row}
use Rattle.market_model.specs.declared.participants.Parts.{Parts}
use Rattle.market_model.specs.Dispatch.{Dispatch}
use Rattle.market_model.specs.LimitRows.{flow, limit, rows}
use Rattle.limit_screen.specs.Reaching.{reaches, used_up_units}
use Rattle.price_system.specs.declared.variables.Variable.{Variable}
use Rattle.price_system.specs.declared.variables.Variable.TheVariants.{Energy, Reserve, Room}
use Rattle.price_system.specs.PriceSystem.{Caps, name, price_system, prices, two_sides, worths}
use Rattle.fewer_columns.specs.Fewer.{fewer}
use Rattle.price_dict.specs.declared.reached.Reached.{Reached}

-- the flow of a row is at its limit or beyond it, on either side
abbrev pub is_reached : Parts → Dispatch → Row → Bool
is_reached m x r = reaches (flow m x r) (limit m r)

abbrev pub reached_rows : Parts → Dispatch → List Row
reached_rows m x = filter (is_reached m x) (rows m)

-- what is reached at a dispatch
pub record AreReached (m : Parts) (x : Dispatch) (reached : Reached) : Type 0 where
  pub rows : reached.rows.now ≡ reached_rows m x
  pub units : reached.units.now ≡ used_up_units m x

-- the columns that are put in, in the order of their names
abbrev pub columns_put : Parts → Dispatch → List Variable
columns_put m x = (Energy ∷ Reserve ∷ []) ++ (flat_map two_sides (reached_rows m x) ++ map Room (used_up_units m x))

-- the same by what is reached
abbrev pub columns_of : Reached → List Variable
columns_of reached = (Energy ∷ Reserve ∷ []) ++ (flat_map two_sides reached.rows.now ++ map Room reached.units.now)

-- prices of the market, no two of one name
pub record AreColumns (m : Parts) (columns : List Variable) : Type 0 where
  pub prices : (v : Variable) → Contains columns v → Contains (prices m) v
  pub distinct : AllPairs (λ (a b : ℕ). a ≢ b) (map (name m) columns)

-- the names of these and of all rows
abbrev pub is_kept : Parts → Dispatch → ℕ → Bool
is_kept m x w = is_among (map (name m) (columns_put m x ++ worths m)) w

-- the system of prices without the others
abbrev pub reached_system : Parts → Dispatch → Caps → System
reached_system m x c = fewer (price_system m x c) (is_kept m x)
