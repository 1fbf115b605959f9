-- The functions give the readings that the relations name, and each text has one reading.
use Rattle.std.specs.Prelude.{◌<◌, ◌≡◌, ◌≢◌, ℕ, ◌+◌, ◌*◌, ◌/◌, ◌%◌, ◌^◌, ◌↔◌, ◌||◌, ℤ, pos, ◌*ℤ◌, refl, unsigned_abs, Bool, true, false, List, Option, Some, None, Result, Ok, Err, is_some, IsTrue}
use Rattle.std.proofs.Common.{arith, ap, sym, subst, ◌∙◌, inl, inr}
use Rattle.std.proofs.Math.Nat.{mul_assoc, mul-mod_left}
use Rattle.std.proofs.lemmas.Nat.{pow-add, div-add-mod'}
use Rattle.std.proofs.lemmas.Int.{unsigned_abs-mul}
use Rattle.std.proofs.lemmas.Bool.{cases_lt, cases_eq}
use Rattle.fraction_theory.specs.Fraction.{Fraction, over}
use Rattle.fraction_theory.specs.declared.Sign.{Sign}
use Rattle.scaled_decimal.specs.declared.DecimalFault.{DecimalFault}
use Rattle.scaled_decimal.specs.declared.DecimalFault.TheVariants.{BadNumber, NotFinite, TooFine, OutOfRange}
use Rattle.scaled_decimal.specs.Decimal.{Denotes, Decimal, Spells, IsNumber, with_sign, digits_number, tens_above, tens_under, value_of}
use Rattle.fraction_theory.specs.Signs.{sign_of, sign_of_int}
use Rattle.scaled_decimal.specs.Reading.{Reads, OneReading, HasSign, OneSign, sign_of_decimal, decimal_in, is_not_finite, of_decimal, fault_of_text, in_range, units_in, units_of, sign_in, is_number_text}
use Rattle.scaled_decimal.proofs.AmountLemmas.{ten_above, whole_exact, whole_not, in_range_yes, in_range_no}
use Rattle.scaled_decimal.proofs.ScaleLemmas.{scale_cancel, cross_from_over, over_from_cross, signed_times, abs_signed, sign_of_over, sign_scale}
use Rattle.scaled_decimal.proofs.GrammarLemmas.{Spells-from_decimal_in, decimal_in-Spells, told_not_finite, IsNotFinite-from_test}

-- ---- a decimal's value in units
-- the decimal is this number of units, over ten to the power of what stands under the line
abbrev top : ℕ → Decimal → ℕ
top places d = digits_number d * 10 ^ (tens_above d + places)

value_scaled : (places : ℕ) (d : Decimal) → with_sign d.negative (digits_number d * 10 ^ tens_above d) *ℤ pos (10 ^ places) ≡ with_sign d.negative (top places d)
value_scaled places d =
    signed_times d.negative (digits_number d * 10 ^ tens_above d) (10 ^ places)
    ∙ ap (with_sign d.negative) (mul_assoc (digits_number d) (10 ^ tens_above d) (10 ^ places) ∙ ap (λ t. digits_number d * t) (sym (pow-add 10 (tens_above d) places)))

cross_from_value : (places : ℕ) (d : Decimal) (n : ℤ) → over n (10 ^ places) ≡ value_of d → n *ℤ pos (10 ^ tens_under d) ≡ with_sign d.negative (top places d)
unfolding value_of
cross_from_value places d n e =
    cross_from_over n (with_sign d.negative (digits_number d * 10 ^ tens_above d)) (10 ^ places) (10 ^ tens_under d) (ten_above places) (ten_above (tens_under d)) e ∙ value_scaled places d

value_from_cross : (places : ℕ) (d : Decimal) (n : ℤ) → n *ℤ pos (10 ^ tens_under d) ≡ with_sign d.negative (top places d) → over n (10 ^ places) ≡ value_of d
unfolding value_of
value_from_cross places d n e =
    over_from_cross n (with_sign d.negative (digits_number d * 10 ^ tens_above d)) (10 ^ places) (10 ^ tens_under d) (ten_above places) (ten_above (tens_under d)) (e ∙ sym (value_scaled places d))

size_of : (places : ℕ) (d : Decimal) (n : ℤ) → over n (10 ^ places) ≡ value_of d → top places d ≡ unsigned_abs n * 10 ^ tens_under d
size_of places d n e =
    let c = cross_from_value places d n e in
    sym (abs_signed d.negative (top places d)) ∙ (ap unsigned_abs (sym c) ∙ unsigned_abs-mul n (pos (10 ^ tens_under d)))

sign_is : (places : ℕ) (d : Decimal) (n : ℤ) → over n (10 ^ places) ≡ value_of d → with_sign d.negative (unsigned_abs n) ≡ n
sign_is places d n e =
    scale_cancel (with_sign d.negative (unsigned_abs n)) n (10 ^ tens_under d) (ten_above (tens_under d))
    (signed_times d.negative (unsigned_abs n) (10 ^ tens_under d) ∙ (ap (with_sign d.negative) (sym (size_of places d n e)) ∙ sym (cross_from_value places d n e)))

units_in_is : (places : ℕ) (d : Decimal) (q : ℕ) → top places d ≡ q * 10 ^ tens_under d → units_in places d ≡ in_range d.negative q
unfolding units_in
units_in_is places d q e = whole_exact d.negative q (10 ^ tens_under d) (top places d) (ten_above (tens_under d)) e

units_in_none : (places : ℕ) (d : Decimal) → top places d % 10 ^ tens_under d ≢ 0 → units_in places d ≡ Err TooFine
unfolding units_in
units_in_none places d h = whole_not d.negative (top places d) (10 ^ tens_under d) h

Reads-units_in : (places : ℕ) (bytes : List ℕ) (d : Decimal) → Spells bytes d → Reads places bytes (units_in places d)
Reads-units_in places bytes d s =
    let bottom : ℕ = 10 ^ tens_under d in
    let q : ℕ = top places d / bottom in
    elim (cases_eq (top places d % bottom) 0) [
      | inl whole ↦
          let e : top places d ≡ q * bottom = Prim.omega (arith, div-add-mod' (top places d) bottom) in
          let value : over (with_sign d.negative q) (10 ^ places) ≡ value_of d = value_from_cross places d (with_sign d.negative q) (signed_times d.negative q bottom ∙ ap (with_sign d.negative) (sym e)) in
          let found = units_in_is places d q e in
          elim (cases_lt q (2 ^ 63)) [
            | inl low ↦ subst (Reads places bytes) (sym (found ∙ in_range_yes d.negative q low)) ((d, s, value), Prim.omega (arith, abs_signed d.negative q))
            | inr high ↦ subst (Reads places bytes) (sym (found ∙ in_range_no d.negative q high)) (with_sign d.negative q, (d, s, value), Prim.omega (arith, abs_signed d.negative q))
          ]
      | inr part ↦ subst (Reads places bytes) (sym (units_in_none places d part))
          (value_of d, (d, s, refl), λ n e. part (ap (λ t. t % bottom) (size_of places d n (sym e)) ∙ mul-mod_left (unsigned_abs n) bottom))
    ]

-- ---- the two functions of a text that is no decimal
no_decimal : (bytes : List ℕ) → decimal_in bytes ≡ None → is_not_finite bytes ≡ false → ¬ IsNumber bytes
no_decimal bytes none finite = λ is. elim is [
  | inl found ↦ let e = decimal_in-Spells bytes found.0 found.1 in Prim.cc
  | inr word ↦ let e = (told_not_finite bytes word).0 in Prim.cc
]

reads_option : (places : ℕ) (bytes : List ℕ) (o : Option Decimal) (word : Bool) → decimal_in bytes ≡ o → is_not_finite bytes ≡ word → Reads places bytes (of_decimal (units_in places) o word)
reads_option places bytes (Some d) word e w = Reads-units_in places bytes d (Spells-from_decimal_in bytes d e)
reads_option places bytes None true e w = IsNotFinite-from_test bytes w
reads_option places bytes None false e w = no_decimal bytes e w

-- what the function gives is the reading
pub Reads-units_of : (places : ℕ) (bytes : List ℕ) → Reads places bytes (units_of places bytes)
unfolding units_of
Reads-units_of places bytes = reads_option places bytes (decimal_in bytes) (is_not_finite bytes) refl refl

pub units_of-Spells : (places : ℕ) (bytes : List ℕ) (d : Decimal) → Spells bytes d → units_of places bytes ≡ units_in places d
unfolding units_of
units_of-Spells places bytes d s = ap (λ o. of_decimal (units_in places) o (is_not_finite bytes)) (decimal_in-Spells bytes d s)

no_number : (bytes : List ℕ) → ¬ IsNumber bytes → (decimal_in bytes ≡ None) × (is_not_finite bytes ≡ false)
no_number bytes h = (go (decimal_in bytes) refl, word (is_not_finite bytes) refl) where
  go : (o : Option Decimal) → decimal_in bytes ≡ o → decimal_in bytes ≡ None
  go None e = e
  go (Some d) e = absurd (h (inl (d, Spells-from_decimal_in bytes d e)))

  word : (b : Bool) → is_not_finite bytes ≡ b → is_not_finite bytes ≡ false
  word false e = e
  word true e = absurd (h (inr (IsNotFinite-from_test bytes e)))

-- each text has one reading
pub units_of-Reads : (places : ℕ) (bytes : List ℕ) (r : Result ℤ DecimalFault) → Reads places bytes r → units_of places bytes ≡ r
unfolding units_of
units_of-Reads places bytes (Ok n) h =
    let d : Decimal = h.0.0 in
    units_of-Spells places bytes d h.0.1 ∙ (units_in_is places d (unsigned_abs n) (size_of places d n h.0.2) ∙ (in_range_yes d.negative (unsigned_abs n) h.1 ∙ ap Ok (sign_is places d n h.0.2)))
units_of-Reads places bytes (Err BadNumber) h = let n = no_number bytes h in Prim.rw (n.0, n.1) refl
units_of-Reads places bytes (Err NotFinite) h = let n = told_not_finite bytes h in Prim.rw (n.1, n.0) refl
units_of-Reads places bytes (Err TooFine) h =
    let d : Decimal = h.1.0 in
    let bottom : ℕ = 10 ^ tens_under d in
    let q : ℕ = top places d / bottom in
    units_of-Spells places bytes d h.1.1 ∙ units_in_none places d (λ z.
    let e : top places d ≡ q * bottom = Prim.omega (arith, div-add-mod' (top places d) bottom) in
    let value : over (with_sign d.negative q) (10 ^ places) ≡ value_of d = value_from_cross places d (with_sign d.negative q) (signed_times d.negative q bottom ∙ ap (with_sign d.negative) (sym e)) in
    h.2 (with_sign d.negative q) (h.1.2 ∙ sym value))
units_of-Reads places bytes (Err OutOfRange) h =
    let n : ℤ = h.0 in
    let d : Decimal = h.1.0 in
    units_of-Spells places bytes d h.1.1 ∙ (units_in_is places d (unsigned_abs n) (size_of places d n h.1.2) ∙ in_range_no d.negative (unsigned_abs n) h.2)

-- ---- the sign of a decimal
value_sign : (d : Decimal) → sign_of (value_of d) ≡ sign_of_int (with_sign d.negative (digits_number d))
unfolding value_of sign_of
value_sign d =
    sign_of_over (with_sign d.negative (digits_number d * 10 ^ tens_above d)) (10 ^ tens_under d) (ten_above (tens_under d))
    ∙ (ap sign_of_int (sym (signed_times d.negative (digits_number d) (10 ^ tens_above d))) ∙ sign_scale (with_sign d.negative (digits_number d)) (10 ^ tens_above d) (ten_above (tens_above d)))

sign_option : (bytes : List ℕ) (o : Option Decimal) (word : Bool) → decimal_in bytes ≡ o → is_not_finite bytes ≡ word → HasSign bytes (of_decimal sign_of_decimal o word)
sign_option bytes (Some d) word e w = (value_of d, (d, Spells-from_decimal_in bytes d e, refl), sym (value_sign d))
sign_option bytes None true e w = IsNotFinite-from_test bytes w
sign_option bytes None false e w = no_decimal bytes e w

pub HasSign-sign_in : (bytes : List ℕ) → HasSign bytes (sign_in bytes)
unfolding sign_in
HasSign-sign_in bytes = sign_option bytes (decimal_in bytes) (is_not_finite bytes) refl refl

pub sign_in-HasSign : (bytes : List ℕ) (r : Result Sign DecimalFault) → HasSign bytes r → sign_in bytes ≡ r
unfolding sign_in
sign_in-HasSign bytes (Ok sign) h =
    let d : Decimal = h.1.0 in
    ap (λ o. of_decimal sign_of_decimal o (is_not_finite bytes)) (decimal_in-Spells bytes d h.1.1) ∙ ap Ok (sym (value_sign d) ∙ (ap sign_of (sym h.1.2) ∙ sym h.2))
sign_in-HasSign bytes (Err BadNumber) h = let n = no_number bytes h in Prim.rw (n.0, n.1) refl
sign_in-HasSign bytes (Err NotFinite) h = let n = told_not_finite bytes h in Prim.rw (n.1, n.0) refl
sign_in-HasSign bytes (Err TooFine) h = absurd h
sign_in-HasSign bytes (Err OutOfRange) h = absurd h

-- ---- numbers, finite or not
number_option : (bytes : List ℕ) (o : Option Decimal) (word : Bool) → decimal_in bytes ≡ o → is_not_finite bytes ≡ word → ((is_some o || word) ≡ true) ↔ IsNumber bytes
number_option bytes (Some d) word e w = (λ _. inl (d, Spells-from_decimal_in bytes d e), λ _. refl)
number_option bytes None true e w = (λ _. inr (IsNotFinite-from_test bytes w), λ _. refl)
number_option bytes None false e w = (λ h. absurd (Prim.cc), λ is. absurd (no_decimal bytes e w is))

pub is_number_text-IsNumber : (bytes : List ℕ) → IsTrue (is_number_text bytes) ↔ IsNumber bytes
unfolding is_number_text
is_number_text-IsNumber bytes = number_option bytes (decimal_in bytes) (is_not_finite bytes) refl refl

-- ---- for the code
pub units_of-Some : (places : ℕ) (bytes : List ℕ) (d : Decimal) → decimal_in bytes ≡ Some d → units_of places bytes ≡ units_in places d
unfolding units_of
units_of-Some places bytes d e = ap (λ o. of_decimal (units_in places) o (is_not_finite bytes)) e

pub units_of-None : (places : ℕ) (bytes : List ℕ) → decimal_in bytes ≡ None → units_of places bytes ≡ Err (fault_of_text (is_not_finite bytes))
unfolding units_of
units_of-None places bytes e = ap (λ o. of_decimal (units_in places) o (is_not_finite bytes)) e

pub sign_in-Some : (bytes : List ℕ) (d : Decimal) → decimal_in bytes ≡ Some d → sign_in bytes ≡ sign_of_decimal d
unfolding sign_in
sign_in-Some bytes d e = ap (λ o. of_decimal sign_of_decimal o (is_not_finite bytes)) e

pub sign_in-None : (bytes : List ℕ) → decimal_in bytes ≡ None → sign_in bytes ≡ Err (fault_of_text (is_not_finite bytes))
unfolding sign_in
sign_in-None bytes e = ap (λ o. of_decimal sign_of_decimal o (is_not_finite bytes)) e

pub is_number_text-Some : (bytes : List ℕ) (d : Decimal) → decimal_in bytes ≡ Some d → is_number_text bytes ≡ true
unfolding is_number_text
is_number_text-Some bytes d e = ap (λ o. is_some o || is_not_finite bytes) e

pub is_number_text-None : (bytes : List ℕ) → decimal_in bytes ≡ None → is_number_text bytes ≡ is_not_finite bytes
unfolding is_number_text
is_number_text-None bytes e = ap (λ o. is_some o || is_not_finite bytes) e

pub one_reading : OneReading
one_reading places bytes r s h k = sym (units_of-Reads places bytes r h) ∙ units_of-Reads places bytes s k

pub one_sign : OneSign
one_sign bytes r s h k = sym (sign_in-HasSign bytes r h) ∙ sign_in-HasSign bytes s k

-- ---- for other crates
-- a number of units that is read is in range
pub units_of-in_range : (places : ℕ) (bytes : List ℕ) (n : ℤ) → units_of places bytes ≡ Ok n → unsigned_abs n < 2 ^ 63
units_of-in_range places bytes n e = (subst (Reads places bytes) e (Reads-units_of places bytes)).1

-- a text that is a number is never read as none
pub units_of-IsNumber : (places : ℕ) (bytes : List ℕ) → IsNumber bytes → units_of places bytes ≢ Err BadNumber
units_of-IsNumber places bytes is e = subst (Reads places bytes) e (Reads-units_of places bytes) is

-- a text has one value at most
pub Denotes_unique : (bytes : List ℕ) (x y : Fraction) → Denotes bytes x → Denotes bytes y → x ≡ y
Denotes_unique bytes x y h k =
    let e = decimal_in-Spells bytes h.0 h.1 in
    let f = decimal_in-Spells bytes k.0 k.1 in
    let same : h.0 ≡ k.0 = Prim.cc in
    h.2 ∙ (ap value_of same ∙ sym k.2)
