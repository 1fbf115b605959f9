-- Whole numbers of small units as decimals.
use Rattle.std.specs.Prelude.{ℕ, ◌/◌, ◌%◌, ◌^◌, ℤ, unsigned_abs, List, ◌++◌}
use Rattle.exact_fraction.specs.Written.{number_text, sign_text, trimmed_places}

-- a whole number of units, of which 10 ^ places are a whole, as a decimal without zeros at its end
unfoldable pub decimal_text : ℕ → ℤ → List ℕ
decimal_text places n = sign_text n ++ number_text (unsigned_abs n / 10 ^ places) ++ trimmed_places places (unsigned_abs n % 10 ^ places)
