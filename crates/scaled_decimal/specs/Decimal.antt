-- What a number is, and which value it has. A number is a decimal, as `5`, `5.`, `.5` or `-12.50e+3`, or infinity or no value, as `Inf` or `-nan`.
use Rattle.std.specs.Prelude.{◌≡◌, ℕ, ◌+◌, ◌*◌, ◌^◌, ◌<◌, ◌⊎◌, ℤ, pos, Bool, true, false, List, [], ◌∷◌, ◌++◌, length, codes, IsTrue, ◌==◌, ◌||◌, if◌then◌else◌}
use Rattle.std.specs.Char.{is_ascii_digit}
use Rattle.std.specs.List.{AllPass}
use Rattle.std.specs.Str.Parse.{digits_value}
use Rattle.std.proofs.Math.IntN.{neg_ℤ}
use Rattle.fraction_theory.specs.Fraction.{Fraction, over}

-- `e` or `E`
abbrev pub is_mark : ℕ → Bool
is_mark byte = byte == 101 || byte == 69

abbrev pub is_point : ℕ → Bool
is_point byte = byte == 46

-- The parts of a decimal: whether it has a minus, the digits before the point and behind it, whether its exponent has a minus, and the exponent's digits.
pub record Decimal : Type 0 where
  pub negative : Bool
  pub whole : List ℕ
  pub part : List ℕ
  pub exponent_negative : Bool
  pub exponent : List ℕ

-- nothing, `+` or `-`
abbrev pub IsSign : List ℕ → Bool → Type 0
IsSign text negative = ((text ≡ []) × (negative ≡ false)) ⊎ ((text ≡ codes "+") × (negative ≡ false)) ⊎ ((text ≡ codes "-") × (negative ≡ true))

-- Digits alone, or digits around a point, which may be missing on one side of it.
pub record IsMantissa (text whole part : List ℕ) : Type 0 where
  pub text_is : ((text ≡ whole) × (part ≡ [])) ⊎ (text ≡ whole ++ 46 ∷ part)
  pub whole_digits : AllPass is_ascii_digit whole
  pub part_digits : AllPass is_ascii_digit part
  pub some_digit : 0 < length whole + length part

-- the exponent's mark, sign and digits
pub record IsMarked (text : List ℕ) (exponent_negative : Bool) (exponent : List ℕ) : Type 0 where
  pub mark : ℕ
  pub sign : List ℕ
  pub marks : IsTrue (is_mark mark)
  pub signs : IsSign sign exponent_negative
  pub digits : AllPass is_ascii_digit exponent
  pub some_digit : 0 < length exponent
  pub text_is : text ≡ mark ∷ (sign ++ exponent)

-- nothing, or a marked exponent
abbrev pub IsExponent : List ℕ → Bool → List ℕ → Type 0
IsExponent text exponent_negative exponent = ((text ≡ []) × (exponent_negative ≡ false) × (exponent ≡ [])) ⊎ IsMarked text exponent_negative exponent

-- the bytes are the text of this decimal: a sign, a mantissa and an exponent
pub record Spells (bytes : List ℕ) (d : Decimal) : Type 0 where
  pub sign : List ℕ
  pub mantissa : List ℕ
  pub tail : List ℕ
  pub text_is : bytes ≡ sign ++ (mantissa ++ tail)
  pub signs : IsSign sign d.negative
  pub mantissas : IsMantissa mantissa d.whole d.part
  pub exponents : IsExponent tail d.exponent_negative d.exponent

abbrev pub IsWord : List ℕ → Type 0
IsWord text = (text ≡ codes "Inf") ⊎ (text ≡ codes "inf") ⊎ (text ≡ codes "NaN") ⊎ (text ≡ codes "nan")

-- a number that is no decimal: a sign, and infinity or no number
pub record IsNotFinite (bytes : List ℕ) : Type 0 where
  pub sign : List ℕ
  pub negative : Bool
  pub word : List ℕ
  pub text_is : bytes ≡ sign ++ word
  pub signs : IsSign sign negative
  pub words : IsWord word

abbrev pub IsNumber : List ℕ → Type 0
IsNumber bytes = ((d : Decimal) × Spells bytes d) ⊎ IsNotFinite bytes

-- a number of this size, with a sign
abbrev pub with_sign : Bool → ℕ → ℤ
with_sign negative size = if negative then neg_ℤ (pos size) else pos size

-- the number that all of a decimal's digits write, in units of its last digit
abbrev pub digits_number : Decimal → ℕ
digits_number d = digits_value 10 (d.whole ++ d.part)

-- How many powers of ten the exponent puts above the line, and how many it and the digits behind the point put under it.
abbrev pub tens_above : Decimal → ℕ
tens_above d = if d.exponent_negative then 0 else digits_value 10 d.exponent

abbrev pub tens_under : Decimal → ℕ
tens_under d = length d.part + (if d.exponent_negative then digits_value 10 d.exponent else 0)

-- The digits as one number, times ten to the power of the exponent less the number of digits behind the point.
unfoldable pub value_of : Decimal → Fraction
value_of d = over (with_sign d.negative (digits_number d * 10 ^ tens_above d)) (10 ^ tens_under d)

-- the bytes are a decimal of this value
abbrev pub Denotes : List ℕ → Fraction → Type 0
Denotes bytes x = (d : Decimal) × Spells bytes d × (x ≡ value_of d)
