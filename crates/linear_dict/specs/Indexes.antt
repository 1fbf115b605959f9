-- The index of variables.
use Rattle.std.specs.Prelude.{◌≡◌, ℕ, ◌≤◌, List, [], ◌∷◌, length, map, insert, slice_get, Some}
use Rattle.std.specs.List.Sorted.{IsStrictlyIncreasing}
use Rattle.linear_dict.specs.declared.index.Variable.{Variable}
use Rattle.linear_dict.specs.Notes.{noted, blank}
use Rattle.linear_dict.specs.Places.{IsSplit, StandsAt}
use Rattle.fraction_theory.specs.Fraction.{Fraction}

abbrev pub name_of : {N : Type 0} → Variable N → ℕ
name_of v = v.name

-- The variable v stands among the others where its name belongs.
pub record AddsVariable {N : Type 0} (old : List (Variable N)) (v : Variable N) (new : List (Variable N)) : Type 0 where
  pub rank : ℕ
  pub within : rank ≤ length old
  pub is : new ≡ insert old rank v
  pub ascending : IsStrictlyIncreasing (map name_of new)

-- The index knows where each variable stands in the table and where it was put in.
pub record IsIndex {N : Type 0} (variables : List (Variable N)) (basics others rows columns : List ℕ) : Type 0 where
  pub stands : (k : ℕ) (v : Variable N) → slice_get variables k ≡ Some v → StandsAt basics others v.name v.place
  pub was_put : (k : ℕ) (v : Variable N) → slice_get variables k ≡ Some v → StandsAt rows columns v.name v.put

-- The index of the row and the columns as put in, where nothing is noted.
pub record IsStartedIndex {N : Type 0} (value : N → Fraction) (variables : List (Variable N)) (row : ℕ) (columns : List ℕ) : Type 0 where
  pub ascending : IsStrictlyIncreasing (map name_of variables)
  pub split : IsSplit (map name_of variables) (row ∷ []) columns
  pub index : IsIndex variables (row ∷ []) columns (row ∷ []) columns
  pub blank_notes : (k : ℕ) (v : Variable N) → slice_get variables k ≡ Some v → noted value v.note ≡ blank
