-- Records as lists of cells.
use Rattle.std.specs.Prelude.{ℕ, ◌+◌, ◌==◌, List, [], ◌∷◌, length, get_or, Option, Some, None, if◌then◌else◌}

-- a record: the bytes of each of its cells
abbrev pub Record : Type 0
Record = List (List ℕ)

-- the bytes of a record's cell, the first being 0, and none beyond its last
abbrev pub cell_of : Record → ℕ → List ℕ
cell_of r col = get_or r col []

-- the number of the first record that has not so many cells, where the first record's number is given
unfoldable pub first_ragged : ℕ → ℕ → List Record → Option ℕ
first_ragged width number [] = None
first_ragged width number (r ∷ records) = if length r == width then first_ragged width (number + 1) records else Some number
