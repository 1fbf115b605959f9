-- Factors by pair, and tables of them.
use Rattle.std.specs.Prelude.{◌≡◌, ℕ, ◌+◌, ◌*◌, ◌<◌, ◌==◌, ◌&&◌, ℤ, pos, Bool, List, [], ◌∷◌, length, slice_index_or, if◌then◌else◌}
use Rattle.market_model.specs.declared.participants.Factor.{Factor}

abbrev pub is_pair : ℕ → ℕ → Factor → Bool
is_pair line of factor = (factor.line == line) && (factor.of == of)

-- the value of the factor of a pair, and 0 where there is none
abbrev pub factor_in : List Factor → ℕ → ℕ → ℤ
factor_in [] line of = pos 0
factor_in (f ∷ fs) line of = if is_pair line of f then f.value else factor_in fs line of

-- a table row by row, whose numbers are those of a function
pub record IsTable (rows columns : ℕ) (number : ℕ → ℕ → ℤ) (table : List ℤ) : Type 0 where
  pub count : length table ≡ rows * columns
  pub each : (row column : ℕ) → row < rows → column < columns → slice_index_or table (row * columns + column) (pos 0) ≡ number row column
