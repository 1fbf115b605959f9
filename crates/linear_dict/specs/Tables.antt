-- A flat list of numbers seen as a table, row by row.
use Rattle.std.specs.Prelude.{◌≡◌, ◌<◌, length, ℕ, ◌+◌, ◌*◌, ◌/◌, ◌%◌, ◌==◌, if◌then◌else◌, List, map, slice_index_or, pos}
use Rattle.std.specs.List.{range_with_len}
use Rattle.fraction_theory.specs.Fraction.{Fraction, whole, ◌+ℚ◌, ◌*ℚ◌, neg_ℚ, recip_ℚ}

-- the number in row i and column j of a table of so many columns
unfoldable pub cell : ℕ → List Fraction → ℕ → ℕ → Fraction
cell columns xs i j = slice_index_or xs (i * columns + j) (whole (pos 0))

-- the table of these numbers
unfoldable pub table_of : ℕ → ℕ → (ℕ → ℕ → Fraction) → List Fraction
table_of rows columns f = map (λ k. f (k / columns) (k % columns)) (range_with_len 0 (rows * columns))

-- The table after row r and column c are exchanged: row r is solved for the variable of column c, and then put into
-- each other row.
unfoldable pub pivoted_row : (ℕ → ℕ → Fraction) → ℕ → ℕ → ℕ → Fraction
pivoted_row f r c j = if j == c then recip_ℚ (f r c) else neg_ℚ (f r j) *ℚ recip_ℚ (f r c)

unfoldable pub pivoted_cell : (ℕ → ℕ → Fraction) → ℕ → ℕ → ℕ → ℕ → Fraction
pivoted_cell f r c i j =
    if i == r then pivoted_row f r c j
    else if j == c then f i c *ℚ recip_ℚ (f r c)
    else f i j +ℚ f i c *ℚ pivoted_row f r c j

-- a row whose numbers are those of g, but for the last at column c, and the others of f
unfoldable pub with_row : (ℕ → Fraction) → Fraction → (ℕ → ℕ → Fraction) → ℕ → ℕ → ℕ → ℕ → Fraction
with_row g last f row c i j = if i == row then (if j == c then last else g j) else f i j

-- the table after row r alone is solved for the variable of column c
unfoldable pub solved_cell : (ℕ → ℕ → Fraction) → ℕ → ℕ → ℕ → ℕ → Fraction
solved_cell f r c = with_row (λ j. neg_ℚ (f r j) *ℚ recip_ℚ (f r c)) (recip_ℚ (f r c)) f r c

-- the table after the solved row r is put into the row alone
unfoldable pub cleared_cell : (ℕ → ℕ → Fraction) → ℕ → ℕ → ℕ → ℕ → ℕ → Fraction
cleared_cell f row r c = with_row (λ j. f row j +ℚ f row c *ℚ f r j) (f row c *ℚ f r c) f row c

-- the table with one more column at the end, of zeros
unfoldable pub widened_cell : (ℕ → ℕ → Fraction) → ℕ → ℕ → ℕ → Fraction
widened_cell f columns i j = if j == columns then whole (pos 0) else f i j

unfoldable pub widened : ℕ → ℕ → List Fraction → List Fraction
widened rows columns xs = table_of rows (columns + 1) (widened_cell (cell columns xs) columns)

-- the list xs is the table of f
pub record Shows (rows columns : ℕ) (xs : List Fraction) (f : ℕ → ℕ → Fraction) : Type 0 where
  pub count : length xs ≡ rows * columns
  pub at : (i j : ℕ) → i < rows → j < columns → cell columns xs i j ≡ f i j
