-- Which operations are refused where the system of prices is put into a dictionary.
use Rattle.std.specs.Prelude.{ℕ, List, Contains}
use Rattle.fraction_theory.specs.Fraction.{Fraction}
use Rattle.exact_fraction.specs.declared.Passed.{Passed}
use Rattle.market_model.specs.declared.limits.Row.{Row}
use Rattle.market_model.specs.declared.participants.Parts.{Parts}
use Rattle.market_model.specs.Dispatch.{Dispatch}
use Rattle.market_model.specs.SumTables.{FactorSum, IsRefusedAmong}
use Rattle.price_system.specs.declared.variables.Variable.{Variable}
use Rattle.price_system.specs.declared.variables.Variable.TheVariants.{Energy, Reserve, Up, Down, Room, Sum, Block, Offer}
use Rattle.price_dict.specs.Reached.{reached_rows}

-- for what a column counts in what a MW of a unit is worth: for the price of a limit, where a factor of its row is added up
abbrev pub IsColumnRefusal : Parts → Variable → ℕ → Passed Fraction → Type 0
IsColumnRefusal m Energy bound p = ⊥
IsColumnRefusal m Reserve bound p = ⊥
IsColumnRefusal m (Up r) bound p = IsRefusedAmong (FactorSum m r) bound p
IsColumnRefusal m (Down r) bound p = IsRefusedAmong (FactorSum m r) bound p
IsColumnRefusal m (Room u) bound p = ⊥
IsColumnRefusal m Sum bound p = ⊥
IsColumnRefusal m (Block j) bound p = ⊥
IsColumnRefusal m (Offer n) bound p = ⊥

-- for one of these columns
abbrev pub IsColumnsRefusal : Parts → List Variable → ℕ → Passed Fraction → Type 0
IsColumnsRefusal m columns bound p = (v : Variable) × Contains columns v × IsColumnRefusal m v bound p

-- where a factor of a row that is reached is added up
abbrev pub IsEntriesRefusal : Parts → Dispatch → ℕ → Passed Fraction → Type 0
IsEntriesRefusal m x bound p = (r : Row) × Contains (reached_rows m x) r × IsRefusedAmong (FactorSum m r) bound p
