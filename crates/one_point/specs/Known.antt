-- Points of the rows of a dictionary, of which some variables are known.
-- Source: the other variables of a dictionary fix its basic ones (Chvátal, Linear Programming).
use Rattle.std.specs.Prelude.{◌≡◌, ℕ, ◌<◌, ◌≤◌, Bool, true, false, List, length, slice_index, slice_index_or}
use Rattle.std.specs.List.{Contains}
use Rattle.fraction_theory.specs.Fraction.{Fraction}
use Rattle.linear_system.specs.Systems.{MeetsRows}
use Rattle.linear_dict.specs.Dictionaries.{Dictionary, IsDictionary, system_in}

-- two points have the same of those of these variables that are marked
abbrev pub AgreeWhere : List Bool → List ℕ → (v w : ℕ → Fraction) → Type 0
AgreeWhere marks names v w = (i : ℕ) → i < length names → slice_index_or marks i false ≡ true → v (slice_index names i) ≡ w (slice_index names i)

-- and of those behind the first one
abbrev pub AgreeBehind : List ℕ → (v w : ℕ → Fraction) → Type 0
AgreeBehind names v w = (i : ℕ) → 0 < i → i < length names → v (slice_index names i) ≡ w (slice_index names i)

-- points of the rows that have the same of the other variables that are marked, and of the basic ones behind the first, are the same in all variables
abbrev pub LeavesOnePoint : Dictionary → List Bool → Type 0
LeavesOnePoint d marks = (v w : ℕ → Fraction) → MeetsRows (system_in d) v → MeetsRows (system_in d) w → AgreeWhere marks d.others v w → AgreeBehind d.basics v w
    → (n : ℕ) → Contains d.names n → v n ≡ w n

-- The same rows, where the variables of some rows before this one were exchanged for others, and these are marked too: what is marked is known
-- wherever what was marked before is.
pub record IsSolvedBefore (d : Dictionary) (marks : List Bool) (row : ℕ) (e : Dictionary) (now : List Bool) : Type 0 where
  pub live : e.spent ≡ false
  pub sound : IsDictionary e
  pub system : system_in e ≡ system_in d
  pub names : e.names ≡ d.names
  pub basics : length e.basics ≡ length d.basics
  pub marked : length now ≡ length e.others
  pub behind : (i : ℕ) → row ≤ i → i < length d.basics → slice_index e.basics i ≡ slice_index d.basics i
  pub known : (v w : ℕ → Fraction) → AgreeWhere marks d.others v w → AgreeBehind d.basics v w → AgreeWhere now e.others v w

abbrev pub AreAllMarked : List Bool → Type 0
AreAllMarked marks = (i : ℕ) → i < length marks → slice_index_or marks i false ≡ true
