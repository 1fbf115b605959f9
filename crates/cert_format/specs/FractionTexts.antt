-- The fraction that a text `num/den` spells.
use Rattle.std.specs.Prelude.{◌≡◌, ℕ, pos, ◌==◌, ◌&&◌, Bool, List, Option, Some, None, nat_le, unsigned_abs, if◌then◌else◌}
use Rattle.std.specs.List.{before_first, after_first}
use Rattle.std.specs.Str.{bytes_eq}
use Rattle.std.specs.Str.Parse.{digits_value, signed_digits_value}
use Rattle.fraction_theory.specs.Fraction.{Fraction, lowest_fraction, over}
use Rattle.exact_fraction.specs.Written.{parts_text}
use Rattle.cert_format.specs.Certificates.{Fits}

-- the text is the one spelling of a fraction whose parts are at most so great
pub record Spells (most : ℕ) (text : List ℕ) (x : Fraction) : Type 0 where
  pub spelling : text ≡ parts_text x
  pub fits : Fits most x

-- the same numbers without their sign
abbrev pub without_sign : Fraction → Fraction
without_sign x = lowest_fraction (pos (unsigned_abs x.num)) x.den x.above x.lowest

abbrev pub is_slash : ℕ → Bool
is_slash c = c == 47

-- the fraction of the digits before the first `/`, with their sign, and of those behind it; of any other text something or other
unfoldable pub quotient_of : List ℕ → Fraction
quotient_of text = over (signed_digits_value 10 (before_first is_slash text)) (digits_value 10 (after_first is_slash text))

abbrev pub fits : ℕ → Fraction → Bool
fits most x = nat_le (unsigned_abs x.num) most && nat_le x.den most

-- the fraction that a text spells; a law says that it is the one that `Spells` tells
unfoldable pub fraction_of_text : ℕ → List ℕ → Option Fraction
fraction_of_text most text = if bytes_eq (parts_text (quotient_of text)) text && fits most (quotient_of text) then Some (quotient_of text) else None
