-- What a reading gives: as a relation to the value, and as functions that cut the text into its parts.
use Rattle.std.specs.Prelude.{◌≡◌, ◌≢◌, ℕ, ◌+◌, ◌*◌, ◌/◌, ◌%◌, ◌^◌, ◌<◌, ◌≤◌, ℤ, Bool, List, length, codes, ◌==◌, ◌||◌, ◌&&◌, not, nat_lt, Option, Some, None, Result, Ok, Err, slice_index, drop, is_some, unsigned_abs, if◌then◌else◌}
use Rattle.std.specs.Char.{is_ascii_digit}
use Rattle.std.specs.List.{list_all, before_first, after_first, position_or_len}
use Rattle.std.specs.Str.{bytes_eq}
use Rattle.fraction_theory.specs.Fraction.{Fraction, over}
use Rattle.fraction_theory.specs.declared.Sign.{Sign}
use Rattle.fraction_theory.specs.Signs.{sign_of, sign_of_int}
use Rattle.scaled_decimal.specs.declared.DecimalFault.{DecimalFault}
use Rattle.scaled_decimal.specs.declared.DecimalFault.TheVariants.{BadNumber, NotFinite, TooFine, OutOfRange}
use Rattle.scaled_decimal.specs.Decimal.{Decimal, Denotes, IsNumber, IsNotFinite, is_mark, is_point, with_sign, digits_number, tens_above, tens_under}

-- The value is this many units of 10^-places. Or the text is no number, or infinite or no value, or the value is no whole number of units, or one out of range.
abbrev pub Reads : ℕ → List ℕ → Result ℤ DecimalFault → Type 0
Reads places bytes (Ok n) = Denotes bytes (over n (10 ^ places)) × (unsigned_abs n < 2 ^ 63)
Reads places bytes (Err BadNumber) = ¬ IsNumber bytes
Reads places bytes (Err NotFinite) = IsNotFinite bytes
Reads places bytes (Err TooFine) = (x : Fraction) × Denotes bytes x × ((n : ℤ) → x ≢ over n (10 ^ places))
Reads places bytes (Err OutOfRange) = (n : ℤ) × Denotes bytes (over n (10 ^ places)) × (2 ^ 63 ≤ unsigned_abs n)

-- each text has one reading
abbrev pub OneReading : Type 0
OneReading = (places : ℕ) (bytes : List ℕ) (r s : Result ℤ DecimalFault) → Reads places bytes r → Reads places bytes s → r ≡ s

-- the sign of the value, or the text has none
abbrev pub HasSign : List ℕ → Result Sign DecimalFault → Type 0
HasSign bytes (Ok sign) = (x : Fraction) × Denotes bytes x × (sign ≡ sign_of x)
HasSign bytes (Err BadNumber) = ¬ IsNumber bytes
HasSign bytes (Err NotFinite) = IsNotFinite bytes
HasSign bytes (Err TooFine) = ⊥
HasSign bytes (Err OutOfRange) = ⊥

abbrev pub OneSign : Type 0
OneSign = (bytes : List ℕ) (r s : Result Sign DecimalFault) → HasSign bytes r → HasSign bytes s → r ≡ s

-- The text is cut at its sign, at the exponent's mark and at the point.
abbrev pub is_sign : ℕ → Bool
is_sign byte = byte == 43 || byte == 45

abbrev pub is_negative : List ℕ → Bool
is_negative text = slice_index text 0 == 45

abbrev pub without_sign : List ℕ → List ℕ
without_sign text = drop (if is_sign (slice_index text 0) then 1 else 0) text

abbrev pub has_mark : List ℕ → Bool
has_mark text = nat_lt (position_or_len is_mark text) (length text)

abbrev pub cut_at_point : Bool → List ℕ → Bool → List ℕ → Decimal
cut_at_point negative mantissa exponent_negative exponent = record {
  negative = negative;
  whole = before_first is_point mantissa;
  part = after_first is_point mantissa;
  exponent_negative = exponent_negative;
  exponent = exponent;
}

abbrev pub cut : List ℕ → Decimal
cut text = let tail = after_first is_mark (without_sign text) in
    cut_at_point (is_negative text) (before_first is_mark (without_sign text)) (is_negative tail) (without_sign tail)

-- the parts are digits, with one in the mantissa, and one behind a mark
abbrev pub is_well_formed : Bool → Decimal → Bool
is_well_formed marked d = list_all is_ascii_digit d.whole && list_all is_ascii_digit d.part && list_all is_ascii_digit d.exponent
    && not (length d.whole == 0 && length d.part == 0) && not (marked && length d.exponent == 0)

unfoldable pub decimal_in : List ℕ → Option Decimal
decimal_in text = if is_well_formed (has_mark (without_sign text)) (cut text) then Some (cut text) else None

abbrev pub is_word : List ℕ → Bool
is_word text = bytes_eq text (codes "Inf") || bytes_eq text (codes "inf") || bytes_eq text (codes "NaN") || bytes_eq text (codes "nan")

abbrev pub is_not_finite : List ℕ → Bool
is_not_finite text = is_word (without_sign text)

-- the fault of a text that is no decimal
abbrev pub fault_of_text : Bool → DecimalFault
fault_of_text word = if word then NotFinite else BadNumber

-- what is said of a decimal, or the fault of a text that is none
abbrev pub of_decimal : {X : Type 0} → (Decimal → Result X DecimalFault) → Option Decimal → Bool → Result X DecimalFault
of_decimal f (Some d) word = f d
of_decimal f None word = Err (fault_of_text word)

-- a number of this size and sign, or it is out of range
abbrev pub in_range : Bool → ℕ → Result ℤ DecimalFault
in_range negative size = if nat_lt size (2 ^ 63) then Ok (with_sign negative size) else Err OutOfRange

-- top over bottom, where that is a whole number in range
unfoldable pub whole_number : Bool → ℕ → ℕ → Result ℤ DecimalFault
whole_number negative top bottom = if top % bottom == 0 then in_range negative (top / bottom) else Err TooFine

-- the number of units of 10^-places in a decimal
unfoldable pub units_in : ℕ → Decimal → Result ℤ DecimalFault
units_in places d = whole_number d.negative (digits_number d * 10 ^ (tens_above d + places)) (10 ^ tens_under d)

abbrev pub sign_of_decimal : Decimal → Result Sign DecimalFault
sign_of_decimal d = Ok (sign_of_int (with_sign d.negative (digits_number d)))

-- what `read`, `sign_of` and `is_number` give
unfoldable pub units_of : ℕ → List ℕ → Result ℤ DecimalFault
units_of places bytes = of_decimal (units_in places) (decimal_in bytes) (is_not_finite bytes)

unfoldable pub sign_in : List ℕ → Result Sign DecimalFault
sign_in bytes = of_decimal sign_of_decimal (decimal_in bytes) (is_not_finite bytes)

unfoldable pub is_number_text : List ℕ → Bool
is_number_text bytes = is_some (decimal_in bytes) || is_not_finite bytes
