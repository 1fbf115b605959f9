-- Which limits flows reach, and which units use up their rooms: those whose prices may be other than 0.
-- Source: complementary slackness (Chvátal, Linear Programming).
use Rattle.std.specs.Prelude.{◌≡◌, ℕ, Bool, true, false, List, Option, Some, None, filter, map, not}
use Rattle.fraction_theory.specs.Fraction.{Fraction, ◌-ℚ◌}
use Rattle.fraction_theory.specs.Signs.{abs_ℚ, sign_of}
use Rattle.fraction_theory.specs.declared.Sign.{Sign}
use Rattle.fraction_theory.specs.declared.Sign.TheVariants.{Below, Zero, Above}
use Rattle.market_model.specs.declared.answered.Outcome.{Outcome}
use Rattle.market_model.specs.declared.answered.Outcome.TheVariants as outcome
use Rattle.market_model.specs.declared.limits.Row.{Row}
use Rattle.market_model.specs.declared.participants.Parts.{Parts}
use Rattle.market_model.specs.Dispatch.{Dispatch}
use Rattle.market_model.specs.LimitRows.{Carried, flow_by, limit, rows}
use Rattle.market_model.specs.Reserves.{reserve_units, room, room_used}
use Rattle.market_model.specs.RightAnswers.{dispatch_in}
use Rattle.market_model.specs.Valued.{answer_at}
use Rattle.limit_screen.specs.Flows.{carried_at, flows_at}
use Rattle.limit_screen.specs.Screening.{AllKeep, IsWorstBy}
use Rattle.limit_screen.specs.declared.looking.RowLook.{RowLook}
use Rattle.limit_screen.specs.declared.looking.RowLook.TheVariants as look
use Rattle.limit_screen.specs.declared.reaching.Reach.{Reach}

-- ---- two numbers
-- whether they are the same
abbrev pub is_zero : Sign → Bool
is_zero Below = false
is_zero Zero = true
is_zero Above = false

abbrev pub are_same : Fraction → Fraction → Bool
are_same x y = is_zero (sign_of (x -ℚ y))

-- whether the first is below the second
abbrev pub is_negative : Sign → Bool
is_negative Below = true
is_negative Zero = false
is_negative Above = false

abbrev pub is_below : Fraction → Fraction → Bool
is_below x y = is_negative (sign_of (x -ℚ y))

-- ---- what is reached
-- a flow is at a limit or beyond it, on either side
abbrev pub reaches : (flow limit : Fraction) → Bool
reaches flow limit = not (is_below (abs_ℚ flow) limit)

-- where so much is carried, the rows whose limits are reached, in the market's order
abbrev pub reached_by : Parts → Carried → List Row
reached_by m c = filter (λ r. reaches (flow_by m c r) (limit m r)) (rows m)

-- a unit uses its room up
abbrev pub uses_up : Parts → Dispatch → ℕ → Bool
uses_up m x u = are_same (room_used m x u) (room m u)

-- those that offer reserve and do, in their order
abbrev pub used_up_units : Parts → Dispatch → List ℕ
used_up_units m x = filter (uses_up m x) (reserve_units m)

-- ---- what a look finds
-- the worst of the rows that are beyond what they may be, where some rows are taken and so much is carried; or all keep that, and it is told
-- which limits are reached
abbrev pub IsRowLook : Parts → List Row → Carried → RowLook → Type 0
IsRowLook m taken c (look.Worst row) = IsWorstBy m taken c row
IsRowLook m taken c (look.Kept reached) = AllKeep m taken c × (reached.items ≡ reached_by m c)

-- what is held of a dispatch: its flows, and the rows whose limits these reach
pub record IsReach {N : Type 0} (value : N → Fraction) (m : Parts) (x : Dispatch) (r : Reach N) : Type 0 where
  pub flows : map value r.flows.items ≡ flows_at m x
  pub rows : r.rows.items ≡ reached_by m (carried_at m (flows_at m x))

-- where an outcome is an answer, that is held of its dispatch
abbrev pub IsReachOf : {N : Type 0} → (N → Fraction) → Parts → Outcome N → Option (Reach N) → Type 0
IsReachOf value m (outcome.Cleared a) (Some r) = IsReach value m (dispatch_in (answer_at value a)) r
IsReachOf value m (outcome.Cleared a) None = ⊥
IsReachOf value m (outcome.Infeasible f) r = Unit {0}
IsReachOf value m (outcome.Range p) r = Unit {0}
