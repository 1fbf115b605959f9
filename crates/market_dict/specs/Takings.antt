-- What is taken of a market, in the order of taking, and the columns and rows that its dictionary has then, in the order in which they
-- are put in.
-- Source: own.
use Rattle.std.specs.Prelude.{◌≢◌, ℕ, List, [], ◌∷◌, ◌++◌, if◌then◌else◌, map, AllPairs, Contains}
use Rattle.market_model.specs.declared.limits.Row.{Row}
use Rattle.market_model.specs.declared.participants.Parts.{Parts}
use Rattle.market_model.specs.LimitRows.{rows}
use Rattle.market_model.specs.Optimality.{Taken}
use Rattle.market_model.specs.Reserves.{reserve_units}
use Rattle.market_system.specs.declared.variables.Variable.{Variable}
use Rattle.market_system.specs.declared.variables.Variable.TheVariants as variable
use Rattle.market_system.specs.MarketSystem.{block_columns, excess_columns, offer_columns, need_row}
use Rattle.market_system.specs.SolvedLaws.{AreTaken}
use Rattle.market_dict.specs.declared.taking.Taking.{Taking}
use Rattle.market_dict.specs.declared.taking.Taking.TheVariants.{Limit, Room}

-- the limits taken, and the rooms, each in the order of taking
abbrev pub limits_of : List Taking → List Row
limits_of [] = []
limits_of (Limit r ∷ ts) = r ∷ limits_of ts
limits_of (Room u ∷ ts) = limits_of ts

abbrev pub rooms_of : List Taking → List ℕ
rooms_of [] = []
rooms_of (Limit r ∷ ts) = rooms_of ts
rooms_of (Room u ∷ ts) = u ∷ rooms_of ts

abbrev pub taken_of : List Taking → Taken
taken_of ts = record { limits = limits_of ts; rooms = rooms_of ts }

-- a limit of the market, or the room of a unit that offers reserve
abbrev pub IsTaking : Parts → Taking → Type 0
IsTaking m (Limit r) = Contains (rows m) r
IsTaking m (Room u) = Contains (reserve_units m) u

-- such ones, no two of them one
pub record AreTakings (m : Parts) (ts : List Taking) : Type 0 where
  pub taken : AreTaken m (taken_of ts)
  pub rooms_distinct : AllPairs (λ (a b : ℕ). a ≢ b) (rooms_of ts)

-- ---- what a dictionary has
-- its columns: the blocks, the offers of reserve, and then those of the soft limits taken
abbrev pub columns_put : Parts → List Taking → List Variable
columns_put m ts = block_columns m ++ offer_columns m ++ excess_columns m (limits_of ts)

-- the rows that it has before anything is taken: the balance, and the need where reserve is cleared
abbrev pub first_rows : Parts → List Variable
first_rows m = variable.Balance ∷ need_row m

-- the row of what is taken
abbrev pub row_of : Taking → Variable
row_of (Limit r) = variable.Limit r
row_of (Room u) = variable.Room u

-- its rows: those, and then one for each limit and room
abbrev pub rows_put : Parts → List Taking → List Variable
rows_put m ts = first_rows m ++ map row_of ts
