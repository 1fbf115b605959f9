-- Equal texts are of equal values.
use Rattle.std.specs.Prelude.{◌≡◌, ℕ}
use Rattle.fraction_theory.specs.Fraction.{Fraction}
use Rattle.exact_fraction.specs.Written.{written, parts_text}

-- two fractions that are written alike with as many places are one
abbrev pub WrittenApart : Type 0
WrittenApart = (places : ℕ) (x y : Fraction) → written places x ≡ written places y → x ≡ y

-- two fractions of one text `num/den` are one
abbrev pub PartsApart : Type 0
PartsApart = (x y : Fraction) → parts_text x ≡ parts_text y → x ≡ y
