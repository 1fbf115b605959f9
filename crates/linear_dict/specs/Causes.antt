-- Which sums x + a * b a pivot and a row that is added ask, a product alone with x = 0, and that one of them was refused.
use Rattle.std.specs.Prelude.{◌≡◌, ◌≢◌, ℕ, ◌<◌, pos, List, map, take, slice_get, slice_index_or, Some}
use Rattle.std.specs.List.{Contains}
use Rattle.exact_fraction.specs.declared.Passed.{Passed}
use Rattle.exact_fraction.specs.Passes.{IsShareRefused}
use Rattle.fraction_theory.specs.Fraction.{Fraction, whole, neg_ℚ, recip_ℚ}
use Rattle.fraction_theory.specs.Sums.{sum_by, Term, Product, prefix}
use Rattle.linear_system.specs.Choices.{others, column_entry}
use Rattle.linear_system.specs.Pairs.{IsSystemPair}
use Rattle.linear_system.specs.SameSystems.{SameRows}
use Rattle.linear_system.specs.Systems.{System}
use Rattle.linear_dict.specs.Adding.{row_term}
use Rattle.linear_dict.specs.declared.adding.AddStop.{AddStop}
use Rattle.linear_dict.specs.declared.adding.AddStop.TheVariants.{Passed as StoppedBy, Memory as NoMemory}
use Rattle.linear_dict.specs.declared.index.Variable.{Variable}
use Rattle.linear_dict.specs.declared.place.Place.TheVariants.{Row, Column}
use Rattle.linear_dict.specs.Dictionaries.{AddsRow, Dictionary, system_in, choice_of}
use Rattle.linear_dict.specs.Places.{place_in}
use Rattle.linear_dict.specs.Tables.{cell, pivoted_row}

-- what solving row r for column c asks: each other entry, turned, times the inverse of the one there
pub data SolveShare (columns : ℕ) (f : ℕ → ℕ → Fraction) (r c : ℕ) : Fraction → Fraction → Fraction → Type 0 where
  divide : (j : ℕ) → j < columns → j ≢ c → SolveShare columns f r c (whole (pos 0)) (neg_ℚ (f r j)) (recip_ℚ (f r c))

-- what putting the solved row r into row i asks
pub data ClearShare (columns : ℕ) (f : ℕ → ℕ → Fraction) (i r c : ℕ) : Fraction → Fraction → Fraction → Type 0 where
  scale : ClearShare columns f i r c (whole (pos 0)) (f i c) (f r c)
  add : (j : ℕ) → j < columns → j ≢ c → ClearShare columns f i r c (f i j) (f i c) (f r j)

-- what a pivot of the table f asks: the solved row, and in each other row its old entry at the column times the new
-- row's entries, each added to the old entry
pub data PivotShare (rows columns : ℕ) (f : ℕ → ℕ → Fraction) (r c : ℕ) : Fraction → Fraction → Fraction → Type 0 where
  solving : (j : ℕ) → j < columns → j ≢ c → PivotShare rows columns f r c (whole (pos 0)) (neg_ℚ (f r j)) (recip_ℚ (f r c))
  scaling : (i : ℕ) → i < rows → i ≢ r → PivotShare rows columns f r c (whole (pos 0)) (f i c) (pivoted_row f r c c)
  adding : (i j : ℕ) → i < rows → i ≢ r → j < columns → j ≢ c → PivotShare rows columns f r c (f i j) (f i c) (pivoted_row f r c j)

-- One of these sums x + a * b is too large, and e is an operation on the way to it, with its two sides, that passes the bound.
pub record IsRefused {N : Type 0} (value : N → Fraction) (bound : ℕ) (Asked : Fraction → Fraction → Fraction → Type 0) (e : Passed N) : Type 0 where
  pub x : Fraction
  pub a : Fraction
  pub b : Fraction
  pub asked : Asked x a b
  pub refused : IsShareRefused bound x a b e.op (value e.left) (value e.right)

-- what adding a multiple of so many numbers t to those of f asks
pub data MultipleShare (count : ℕ) (f : ℕ → Fraction) (a : Fraction) (t : ℕ → Fraction) : Fraction → Fraction → Fraction → Type 0 where
  increase : (c : ℕ) → c < count → MultipleShare count f a t (f c) a (t c)

-- what adding one variable's terms to f asks: a multiple of the row of a basic column, or the entry as put in of an other
pub data TermShare {N : Type 0} (value : N → Fraction) (columns : ℕ) (table entries : List N) (v : Variable N) (f : ℕ → Fraction) : Fraction → Fraction → Fraction → Type 0 where
  of_basic : (j r : ℕ) (x a b : Fraction) → v.put ≡ Column j → v.place ≡ Row r
      → MultipleShare columns f (slice_index_or (map value entries) j (whole (pos 0))) (cell columns (map value table) r) x a b → TermShare value columns table entries v f x a b
  of_other : (j k : ℕ) → v.put ≡ Column j → v.place ≡ Column k → TermShare value columns table entries v f (f k) (slice_index_or (map value entries) j (whole (pos 0))) (whole (pos 1))

-- what the terms of the variables in turn ask
pub data RowShare {N : Type 0} (value : N → Fraction) (columns : ℕ) (table entries : List N) (variables : List (Variable N)) : Fraction → Fraction → Fraction → Type 0 where
  of_variable : (k : ℕ) (v : Variable N) (x a b : Fraction) → slice_get variables k ≡ Some v
      → TermShare value columns table entries v (λ c. sum_by (row_term value columns table entries c) (take k variables)) x a b → RowShare value columns table entries variables x a b

-- the number of column j in a row of these entries, over the columns as put in
unfoldable pub put_number : Dictionary → List Fraction → ℕ → Fraction
put_number d entries j = slice_index_or entries (place_in d.columns j) (whole (pos 0))

-- the named sum that is the row's entry at the other variable w
unfoldable pub put_terms : Dictionary → List Fraction → ℕ → List Term
put_terms d entries w = map (λ j. Product (put_number d entries j) (column_entry (choice_of d) j w)) (system_in d).columns

-- what adding a row asks: a sum of first terms with the next term
pub data AddShare (d : Dictionary) (entries : List Fraction) : Fraction → Fraction → Fraction → Type 0 where
  adding_term : (k j w : ℕ) → slice_get (system_in d).columns k ≡ Some j → Contains (others (system_in d) (choice_of d)) w
      → AddShare d entries (prefix k (put_terms d entries w)) (put_number d entries j) (column_entry (choice_of d) j w)

-- Where the row was not added for a refusal, P holds of it.
abbrev pub OnPassed : {N : Type 0} → AddStop N → (Passed N → Type 0) → Type 0
OnPassed (StoppedBy e) P = P e
OnPassed NoMemory P = Unit {0}

-- e is a working pair of the system
abbrev pub IsPairOf : {N : Type 0} → (N → Fraction) → ℕ → System → Passed N → Type 0
IsPairOf value bound s e = IsSystemPair s bound e.op (value e.left) (value e.right)

-- The row can be put in, and e is a working pair of the system with it, whatever prices and bounds that has.
abbrev pub IsPairWith : {N : Type 0} → (N → Fraction) → ℕ → Dictionary → ℕ → List N → Passed N → Type 0
IsPairWith value bound d row entries e = (new : Dictionary) × AddsRow value d row entries new × ((s : System) → SameRows (system_in new) s → IsPairOf value bound s e)
