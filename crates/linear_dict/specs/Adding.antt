-- The entries of a row that is put in.
use Rattle.std.specs.Prelude.{◌≡◌, ℕ, ◌+◌, ◌*◌, ◌<◌, ◌≤◌, ◌==◌, if◌then◌else◌, List, length, map, pos, slice_get, slice_index_or, Some}
use Rattle.fraction_theory.specs.Fraction.{Fraction, whole, ◌*ℚ◌}
use Rattle.linear_dict.specs.declared.index.Variable.{Variable}
use Rattle.linear_dict.specs.declared.place.Place.{Place}
use Rattle.linear_dict.specs.declared.place.Place.TheVariants.{Row, Column}
use Rattle.linear_dict.specs.Tables.{cell}

-- so many numbers, whose values are those of f
pub record AreSums {N : Type 0} (value : N → Fraction) (sums : List N) (count : ℕ) (f : ℕ → Fraction) : Type 0 where
  pub size : length sums ≡ count
  pub at : (c : ℕ) → c < count → slice_index_or (map value sums) c (whole (pos 0)) ≡ f c

-- A place is in a table of so many numbers in so many columns.
abbrev pub IsInTable : ℕ → ℕ → Place → Type 0
IsInTable size columns (Row r) = r * columns + columns ≤ size
IsInTable size columns (Column c) = c < columns

-- Where it is a column as put in, it is one of so many.
abbrev pub IsPutAmong : ℕ → Place → Type 0
IsPutAmong count (Row r) = Unit {0}
IsPutAmong count (Column j) = j < count

pub record IsWithin {N : Type 0} (size columns count : ℕ) (v : Variable N) : Type 0 where
  pub place : IsInTable size columns v.place
  pub put : IsPutAmong count v.put

-- the entry in column c of a variable that stands there
abbrev pub entry_at_place : ℕ → List Fraction → ℕ → Place → Fraction
entry_at_place columns table c (Row r) = cell columns table r c
entry_at_place columns table c (Column k) = if c == k then whole (pos 1) else whole (pos 0)

abbrev pub put_term : List Fraction → Fraction → Place → Fraction
put_term entries entry (Row r) = whole (pos 0)
put_term entries entry (Column j) = slice_index_or entries j (whole (pos 0)) *ℚ entry

-- what a variable adds to the entry in column c: nothing where it is a row as put in
unfoldable pub row_term : {N : Type 0} → (N → Fraction) → ℕ → List N → List N → ℕ → Variable N → Fraction
row_term value columns table entries c v = put_term (map value entries) (entry_at_place columns (map value table) c v.place) v.put

pub record AreInTable {N : Type 0} (size columns count : ℕ) (variables : List (Variable N)) : Type 0 where
  pub each : (k : ℕ) (v : Variable N) → slice_get variables k ≡ Some v → IsWithin size columns count v
