-- How a run from a posed dictionary ends.
use Rattle.std.specs.Prelude.{◌≡◌, ℕ, ◌<◌, Bool, Option, Some, None, length, slice_index}
use Rattle.std.specs.List.{Contains}
use Rattle.fraction_theory.specs.Fraction.{Fraction}
use Rattle.linear_system.specs.Choices.{IsChoice, reduced, value}
use Rattle.linear_system.specs.Numbers.{IsFirst}
use Rattle.linear_dict.specs.Causes.{IsPairOf}
use Rattle.linear_dict.specs.Dictionaries.{Dictionary, system_in, choice_of}
use Rattle.simplex_theory.specs.States.{IsSolved, HasNoPoint, IsOutOfReach}
use Rattle.simplex_theory.specs.Stuck.{IsStuck}
use Rattle.simplex_core.specs.States.{state_of, IsReady}
use Rattle.simplex_core.specs.declared.leave.Leaving.{Leaving}
use Rattle.simplex_core.specs.declared.solving.Run.{Run}
use Rattle.simplex_core.specs.declared.solving.Run.TheVariants.{Solved, Empty, Passed}

-- e is not spent, and has the columns and the rows of d as they were put in, with the same prices and bounds.
pub record Keeps (d e : Dictionary) : Type 0 where
  pub columns : e.columns ≡ d.columns
  pub rows : e.rows ≡ d.rows
  pub coefficients : e.coefficients ≡ d.coefficients
  pub names : e.names ≡ d.names
  pub system : system_in e ≡ system_in d
  pub ready : IsReady e

-- The table is that of a choice of the system, with each other variable at the bound that its note says, and what is noted as
-- values and as reduced prices are this choice's.
pub record ShowsChoice (d : Dictionary) : Type 0 where
  pub choice : IsChoice (system_in d) (choice_of d)
  pub values : (w : ℕ) → Contains d.names w → (state_of d).value w ≡ value (system_in d) (choice_of d) w
  pub prices : (w : ℕ) → Contains d.names w → (state_of d).reduced w ≡ reduced (system_in d) (choice_of d) w

-- the row place shows that no values are within the bounds: its variable is stuck on this side of its own, and is the one of the least
-- name beyond a bound
pub record IsEmptyAt (d : Dictionary) (row : ℕ) (above : Bool) : Type 0 where
  pub none : HasNoPoint (system_in d)
  pub within : row < length d.basics
  pub stuck : IsStuck (system_in d) (choice_of d) (slice_index d.basics row) above
  pub out_of_reach : IsOutOfReach (system_in d) (choice_of d) (slice_index d.basics row)
  pub first : IsFirst (system_in d) (choice_of d) (slice_index d.basics row)

-- The run from d has come to e, solved or with the variable that shows that there is no point.
abbrev pub IsSettled : Dictionary → Dictionary → Option Leaving → Type 0
IsSettled d e None = Keeps d e × ShowsChoice e × IsSolved (system_in e) (state_of e)
IsSettled d e (Some l) = Keeps d e × ShowsChoice e × IsEmptyAt e l.row l.above

-- Solved holds the best values, Empty a row that shows that there are none, Passed a working pair of the system.
abbrev pub IsRunOutcome : {N : Type 0} → (N → Fraction) → ℕ → Dictionary → Run N → Type 0
IsRunOutcome value bound d (Solved e) = Keeps d e × ShowsChoice e × IsSolved (system_in e) (state_of e)
IsRunOutcome value bound d (Empty e row above) = Keeps d e × ShowsChoice e × IsEmptyAt e row above
IsRunOutcome value bound d (Passed p) = IsPairOf value bound (system_in d) p

-- solved or empty, and no refusal
abbrev pub IsAnswered : {N : Type 0} → Run N → Type 0
IsAnswered (Solved e) = Unit {0}
IsAnswered (Empty e row above) = Unit {0}
IsAnswered (Passed p) = ⊥
