-- When a number times a power of ten, over another power of ten, is whole, and how large it then is.
use Rattle.std.proofs.Common.{◌≡◌, ◌==◌, ◌≢◌, ℕ, zero, suc, ◌+◌, ◌-◌, ◌*◌, ◌/◌, ◌%◌, ◌^◌, ◌<◌, ◌≤◌, inl, inr, min, sym, ◌∙◌, ap, refl, arith, Ok, Err, pos, Bool, true, false, List, [], ◌∷◌, ◌++◌, length, take, get_or}
use Rattle.std.proofs.Math.Nat.{mul-mod_left, mul-div_cancel, pow-le-pow_right, mul-le-mul_right, mul-le-mul_left, one-le-pow, mul_assoc, pow-suc, zero-mul}
use Rattle.std.proofs.lemmas.Nat.{pow-add, div-add-mod', mod-mul-add}
use Rattle.std.proofs.lemmas.Grind.{pow_more}
use Rattle.std.proofs.lemmas.List.{take_more}
use Rattle.std.specs.Str.Parse.{digits_value, digits_value_after}
use Rattle.std.specs.Char.{digit_value}
use Rattle.std.proofs.lemmas.Bool.{cases_lt, ne_eqb, eq-eqb, eqb-true, lt-ltb, le-ltb}
use Rattle.fraction_theory.specs.declared.Sign.TheVariants.{Below, Zero, Above}
use Rattle.scaled_decimal.specs.declared.DecimalFault.TheVariants.{TooFine, OutOfRange}
use Rattle.scaled_decimal.specs.Decimal.{Decimal, with_sign, digits_number}
use Rattle.fraction_theory.specs.Signs.{sign_of_int}
use Rattle.scaled_decimal.specs.Reading.{whole_number, in_range, units_in}
use Rattle.scaled_decimal.specs.Amount.{EndsInNoZero, IsSignificand}

pub ten_above : (k : ℕ) → 0 < 10 ^ k
ten_above k = one-le-pow k 10 (Prim.omega arith)

pub at_limit : (size tens : ℕ) → 19 ≤ tens → 0 < size → 2 ^ 63 ≤ size * 10 ^ tens
at_limit size tens h p =
    let ten : 0 < 10 = Prim.omega arith in
    let low : 10 ^ 19 ≤ 10 ^ tens = pow-le-pow_right ten h in
    let high : 1 * 10 ^ tens ≤ size * 10 ^ tens = mul-le-mul_right (10 ^ tens) p in
    Prim.omega arith

-- what is raised by more than nineteen powers is out of range or 0
pub raised_far : (size tens : ℕ) → min (size * 10 ^ min tens 19) (2 ^ 63) ≡ min (size * 10 ^ tens) (2 ^ 63)
raised_far zero tens = Prim.rw (zero-mul (10 ^ min tens 19), zero-mul (10 ^ tens)) refl
raised_far (suc s) tens = elim (cases_lt 19 tens) [
  | inl far ↦
      let at : min tens 19 ≡ 19 = Prim.omega arith in
      let one : 2 ^ 63 ≤ suc s * 10 ^ 19 = at_limit (suc s) 19 (Prim.omega arith) (Prim.omega arith) in
      let other : 2 ^ 63 ≤ suc s * 10 ^ tens = at_limit (suc s) tens (Prim.omega arith) (Prim.omega arith) in
      ap (λ k. min (suc s * 10 ^ k) (2 ^ 63)) at ∙ Prim.omega arith
  | inr near ↦ let at : min tens 19 ≡ tens = Prim.omega arith in ap (λ k. min (suc s * 10 ^ k) (2 ^ 63)) at
]

pub whole_exact : (negative : Bool) (q bottom top : ℕ) → 0 < bottom → top ≡ q * bottom → whole_number negative top bottom ≡ in_range negative q
unfolding whole_number
whole_exact negative q bottom top h e = Prim.rw e (Prim.rw (mul-mod_left q bottom, mul-div_cancel q h) refl)

pub whole_not : (negative : Bool) (top bottom : ℕ) → top % bottom ≢ 0 → whole_number negative top bottom ≡ Err TooFine
unfolding whole_number
whole_not negative top bottom h = Prim.rw (ne_eqb (top % bottom) 0 h) refl

-- a number that ends in no zero is no multiple of ten
pub fine : (exact above under : ℕ) → exact % 10 ≢ 0 → above < under → (exact * 10 ^ above) % 10 ^ under ≢ 0
fine exact above under h lt e =
    let q : ℕ = (exact * 10 ^ above) / 10 ^ under in
    let j : ℕ = under - above - 1 in
    let at : under ≡ suc j + above = Prim.omega arith in
    let split : 10 ^ under ≡ 10 ^ j * 10 * 10 ^ above = ap (λ k. 10 ^ k) at ∙ (pow-add 10 (suc j) above ∙ ap (λ t. t * 10 ^ above) (pow-suc 10 j)) in
    let whole : q * 10 ^ under ≡ exact * 10 ^ above = Prim.omega (arith, div-add-mod' (exact * 10 ^ above) (10 ^ under)) in
    let times : q * 10 ^ j * 10 * 10 ^ above ≡ exact * 10 ^ above = Prim.omega (arith, ap (λ t. q * t) split, whole) in
    let same : q * 10 ^ j * 10 ≡ exact = sym (mul-div_cancel (q * 10 ^ j * 10) (ten_above above)) ∙ (ap (λ t. t / 10 ^ above) times ∙ mul-div_cancel exact (ten_above above)) in
    h (ap (λ t. t % 10) (sym same) ∙ mul-mod_left (q * 10 ^ j) 10)

pub shifted_zero : (negative : Bool) (above under : ℕ) → whole_number negative (0 * 10 ^ above) (10 ^ under) ≡ Ok (pos 0)
shifted_zero negative above under = whole_exact negative 0 (10 ^ under) (0 * 10 ^ above) (ten_above under) (Prim.omega arith) ∙ elim negative as (λ b. in_range b 0 ≡ Ok (pos 0)) [ true ↦ refl | false ↦ refl ]

pub shifted_fine : (negative : Bool) (exact above under : ℕ) → exact % 10 ≢ 0 → above < under → whole_number negative (exact * 10 ^ above) (10 ^ under) ≡ Err TooFine
shifted_fine negative exact above under h lt = whole_not negative (exact * 10 ^ above) (10 ^ under) (fine exact above under h lt)

pub shifted_by : (negative : Bool) (exact above under : ℕ) → under ≤ above → whole_number negative (exact * 10 ^ above) (10 ^ under) ≡ in_range negative (exact * 10 ^ (above - under))
shifted_by negative exact above under le =
    let at : above ≡ (above - under) + under = Prim.omega arith in
    whole_exact negative (exact * 10 ^ (above - under)) (10 ^ under) (exact * 10 ^ above) (ten_above under)
    (ap (λ k. exact * 10 ^ k) at ∙ (ap (λ t. exact * t) (pow-add 10 (above - under) under) ∙ sym (mul_assoc exact (10 ^ (above - under)) (10 ^ under))))

pub in_range_yes : (negative : Bool) (size : ℕ) → size < 2 ^ 63 → in_range negative size ≡ Ok (with_sign negative size)
in_range_yes negative size h = Prim.rw (lt-ltb size (2 ^ 63) h) refl

pub in_range_no : (negative : Bool) (size : ℕ) → 2 ^ 63 ≤ size → in_range negative size ≡ Err OutOfRange
in_range_no negative size h = Prim.rw (le-ltb size (2 ^ 63) h) refl

pub shifted_far : (negative : Bool) (exact above under : ℕ) → 0 < exact → under + 19 ≤ above → whole_number negative (exact * 10 ^ above) (10 ^ under) ≡ Err OutOfRange
shifted_far negative exact above under p h =
    shifted_by negative exact above under (Prim.omega arith) ∙ in_range_no negative (exact * 10 ^ (above - under)) (at_limit exact (above - under) (Prim.omega arith) p)

-- a size that is cut off before it is raised is as one that is cut off behind
pub raised_cut : (exact size p : ℕ) → 0 < p → size ≡ min exact (2 ^ 63) → min (size * p) (2 ^ 63) ≡ min (exact * p) (2 ^ 63)
raised_cut exact size p h e = elim (cases_lt exact (2 ^ 63)) [
  | inl low ↦ let same : size ≡ exact = Prim.omega arith in ap (λ t. min (t * p) (2 ^ 63)) same
  | inr high ↦
      let a : exact * 1 ≤ exact * p = mul-le-mul_left exact h in
      let at : size ≡ 2 ^ 63 = Prim.omega arith in
      let b : size * 1 ≤ size * p = mul-le-mul_left size h in
      Prim.omega arith
]

pub digit_zero : (n size zeros digit : ℕ) → digit ≡ 0 → IsSignificand n size zeros → IsSignificand (n * 10 + digit) size (zeros + 1)
digit_zero n size zeros digit z s = record {
  exact = s.exact;
  number = Prim.omega (arith, s.number, ap (λ t. s.exact * t) (pow_more 10 zeros));
  cut_off = s.cut_off;
  ends = s.ends;
}

pub digit_more : (n size zeros digit next : ℕ) → digit < 10 → digit ≢ 0 → IsSignificand n size zeros → next ≡ min (min (size * 10 ^ (zeros + 1)) (2 ^ 63) + digit) (2 ^ 63) → IsSignificand (n * 10 + digit) next 0
digit_more n size zeros digit next lt ne s e =
    let raised : s.exact * 10 ^ (zeros + 1) ≡ s.exact * 10 ^ zeros * 10 = ap (λ t. s.exact * t) (pow_more 10 zeros) ∙ sym (mul_assoc s.exact (10 ^ zeros) 10) in
    let cut : min (size * 10 ^ (zeros + 1)) (2 ^ 63) ≡ min (s.exact * 10 ^ (zeros + 1)) (2 ^ 63) = raised_cut s.exact size (10 ^ (zeros + 1)) (ten_above (zeros + 1)) s.cut_off in
    record {
      exact = s.exact * 10 ^ zeros * 10 + digit;
      number = Prim.omega (arith, s.number);
      cut_off = Prim.omega arith;
      ends = inr (λ z. ne (sym (mod-mul-add (s.exact * 10 ^ zeros) 10 digit lt) ∙ z));
    }

pub digits_value_after-append : (n : ℕ) (xs ys : List ℕ) → digits_value_after 10 n (xs ++ ys) ≡ digits_value_after 10 (digits_value_after 10 n xs) ys
digits_value_after-append n [] ys = refl
digits_value_after-append n (x ∷ xs) ys = digits_value_after-append (n * 10 + digit_value x) xs ys

pub digits_value_after_more : (n : ℕ) (ds : List ℕ) (i : ℕ) → i < length ds → digits_value_after 10 n (take (i + 1) ds) ≡ digits_value_after 10 n (take i ds) * 10 + digit_value (get_or ds i 0)
digits_value_after_more n ds i h = ap (digits_value_after 10 n) (take_more ds i 0 h) ∙ digits_value_after-append n (take i ds) (get_or ds i 0 ∷ [])

-- a far exponent, cut off, gives the same answer
pub same_above : (negative : Bool) (n exact zeros places shift exponent length : ℕ) → n ≡ exact * 10 ^ zeros → shift ≡ min exponent (2 ^ 100) → length < 2 ^ 64
    → whole_number negative (exact * 10 ^ (places + zeros + shift)) (10 ^ length) ≡ whole_number negative (n * 10 ^ (exponent + places)) (10 ^ length)
same_above negative n exact zeros places shift exponent length e s short =
    let exponents : places + zeros + exponent ≡ zeros + (exponent + places) = Prim.omega arith in
    let top : exact * 10 ^ (places + zeros + exponent) ≡ n * 10 ^ (exponent + places) =
    ap (λ k. exact * 10 ^ k) exponents ∙ (ap (λ t. exact * t) (pow-add 10 zeros (exponent + places)) ∙ (sym (mul_assoc exact (10 ^ zeros) (10 ^ (exponent + places))) ∙ ap (λ t. t * 10 ^ (exponent + places)) (sym e))) in
    let goes_on : whole_number negative (exact * 10 ^ (places + zeros + exponent)) (10 ^ length) ≡ whole_number negative (n * 10 ^ (exponent + places)) (10 ^ length) = ap (λ t. whole_number negative t (10 ^ length)) top in
    elim (cases_lt exponent (2 ^ 100)) [
      | inl near ↦ let same : shift ≡ exponent = Prim.omega arith in ap (λ k. whole_number negative (exact * 10 ^ (places + zeros + k)) (10 ^ length)) same ∙ goes_on
      | inr far ↦ elim (cases_lt 0 exact) [
        | inl p ↦ shifted_far negative exact (places + zeros + shift) length p (Prim.omega arith) ∙ (sym (shifted_far negative exact (places + zeros + exponent) length p (Prim.omega arith)) ∙ goes_on)
        | inr none ↦
            let at : exact ≡ 0 = Prim.omega arith in
            ap (λ t. whole_number negative (t * 10 ^ (places + zeros + shift)) (10 ^ length)) at ∙ (shifted_zero negative (places + zeros + shift) length
            ∙ (sym (shifted_zero negative (places + zeros + exponent) length) ∙ (ap (λ t. whole_number negative (t * 10 ^ (places + zeros + exponent)) (10 ^ length)) (sym at) ∙ goes_on)))
      ]
    ]

pub same_under : (negative : Bool) (n exact zeros places shift exponent length : ℕ) → n ≡ exact * 10 ^ zeros → shift ≡ min exponent (2 ^ 100) → EndsInNoZero exact → places ≤ 18 → zeros < 2 ^ 64
    → whole_number negative (exact * 10 ^ (places + zeros)) (10 ^ (length + shift)) ≡ whole_number negative (n * 10 ^ (0 + places)) (10 ^ (length + exponent))
same_under negative n exact zeros places shift exponent length e s ends few short =
    let exponents : places + zeros ≡ zeros + (0 + places) = Prim.omega arith in
    let top : exact * 10 ^ (places + zeros) ≡ n * 10 ^ (0 + places) =
    ap (λ k. exact * 10 ^ k) exponents ∙ (ap (λ t. exact * t) (pow-add 10 zeros (0 + places)) ∙ (sym (mul_assoc exact (10 ^ zeros) (10 ^ (0 + places))) ∙ ap (λ t. t * 10 ^ (0 + places)) (sym e))) in
    let goes_on : whole_number negative (exact * 10 ^ (places + zeros)) (10 ^ (length + exponent)) ≡ whole_number negative (n * 10 ^ (0 + places)) (10 ^ (length + exponent)) = ap (λ t. whole_number negative t (10 ^ (length + exponent))) top in
    elim (cases_lt exponent (2 ^ 100)) [
      | inl near ↦ let same : shift ≡ exponent = Prim.omega arith in ap (λ k. whole_number negative (exact * 10 ^ (places + zeros)) (10 ^ (length + k))) same ∙ goes_on
      | inr far ↦ elim ends [
        | inr none ↦ shifted_fine negative exact (places + zeros) (length + shift) none (Prim.omega arith) ∙ (sym (shifted_fine negative exact (places + zeros) (length + exponent) none (Prim.omega arith)) ∙ goes_on)
        | inl at ↦
            ap (λ t. whole_number negative (t * 10 ^ (places + zeros)) (10 ^ (length + shift))) at ∙ (shifted_zero negative (places + zeros) (length + shift)
            ∙ (sym (shifted_zero negative (places + zeros) (length + exponent)) ∙ (ap (λ t. whole_number negative (t * 10 ^ (places + zeros)) (10 ^ (length + exponent))) (sym at) ∙ goes_on)))
      ]
    ]

pub units_up : (d : Decimal) (places size zeros shift : ℕ) → d.exponent_negative ≡ false → (s : IsSignificand (digits_number d) size zeros) → shift ≡ min (digits_value 10 d.exponent) (2 ^ 100) → length d.part < 2 ^ 64
    → whole_number d.negative (s.exact * 10 ^ (places + zeros + shift)) (10 ^ length d.part) ≡ units_in places d
unfolding units_in
units_up d places size zeros shift up s e short =
    let at : length d.part + 0 ≡ length d.part = Prim.omega arith in
    Prim.rw up (Prim.rw at (same_above d.negative (digits_number d) s.exact zeros places shift (digits_value 10 d.exponent) (length d.part) s.number e short))

pub units_down : (d : Decimal) (places size zeros shift : ℕ) → d.exponent_negative ≡ true → (s : IsSignificand (digits_number d) size zeros) → shift ≡ min (digits_value 10 d.exponent) (2 ^ 100) → places ≤ 18 → zeros < 2 ^ 64
    → whole_number d.negative (s.exact * 10 ^ (places + zeros)) (10 ^ (length d.part + shift)) ≡ units_in places d
unfolding units_in
units_down d places size zeros shift down s e few short =
    Prim.rw down (same_under d.negative (digits_number d) s.exact zeros places shift (digits_value 10 d.exponent) (length d.part) s.number e s.ends few short)

pub zero_together : (n size zeros : ℕ) → IsSignificand n size zeros → (size == 0) ≡ (n == 0)
zero_together n size zeros s = elim (cases_lt 0 s.exact) [
  | inl p ↦
      let more : 1 * 10 ^ zeros ≤ s.exact * 10 ^ zeros = mul-le-mul_right (10 ^ zeros) p in
      let ten : 0 < 10 ^ zeros = ten_above zeros in
      let a : size ≢ 0 = λ z. Prim.omega (arith, s.cut_off) in
      let b : n ≢ 0 = λ z. Prim.omega (arith, s.number) in
      ne_eqb size 0 a ∙ sym (ne_eqb n 0 b)
  | inr none ↦
      let at : s.exact ≡ 0 = Prim.omega arith in
      let a : size ≡ 0 = Prim.omega (arith, s.cut_off) in
      let b : n ≡ 0 = s.number ∙ (ap (λ t. t * 10 ^ zeros) at ∙ zero-mul (10 ^ zeros)) in
      eq-eqb size 0 a ∙ sym (eq-eqb n 0 b)
]

pub shifted_none : (negative : Bool) (exact size above under : ℕ) → size ≡ min exact (2 ^ 63) → size ≡ 0 → whole_number negative (exact * 10 ^ above) (10 ^ under) ≡ Ok (pos 0)
shifted_none negative exact size above under cut z =
    let at : exact ≡ 0 = Prim.omega arith in
    ap (λ t. whole_number negative (t * 10 ^ above) (10 ^ under)) at ∙ shifted_zero negative above under

pub shifted_over : (negative : Bool) (exact size above under : ℕ) → size ≡ min exact (2 ^ 63) → EndsInNoZero exact → size ≢ 0 → above < under → whole_number negative (exact * 10 ^ above) (10 ^ under) ≡ Err TooFine
shifted_over negative exact size above under cut ends p lt = elim ends [
  | inl z ↦ absurd (p (Prim.omega arith))
  | inr none ↦ shifted_fine negative exact above under none lt
]

pub shifted_out : (negative : Bool) (exact size above under raised : ℕ) → size ≡ min exact (2 ^ 63) → under ≤ above → raised ≡ min (size * 10 ^ (above - under)) (2 ^ 63) → raised ≡ 2 ^ 63
    → whole_number negative (exact * 10 ^ above) (10 ^ under) ≡ Err OutOfRange
shifted_out negative exact size above under raised cut le e full =
    let same = raised_cut exact size (10 ^ (above - under)) (ten_above (above - under)) cut in
    shifted_by negative exact above under le ∙ in_range_no negative (exact * 10 ^ (above - under)) (Prim.omega (arith, same))

pub shifted_in : (negative : Bool) (exact size above under raised : ℕ) → size ≡ min exact (2 ^ 63) → under ≤ above → raised ≡ min (size * 10 ^ (above - under)) (2 ^ 63) → raised ≢ 2 ^ 63
    → (raised < 2 ^ 63) × (whole_number negative (exact * 10 ^ above) (10 ^ under) ≡ Ok (with_sign negative raised))
shifted_in negative exact size above under raised cut le e full =
    let same = raised_cut exact size (10 ^ (above - under)) (ten_above (above - under)) cut in
    let low : exact * 10 ^ (above - under) < 2 ^ 63 = Prim.omega (arith, same) in
    let at : exact * 10 ^ (above - under) ≡ raised = Prim.omega (arith, same) in
    (Prim.omega arith, shifted_by negative exact above under le ∙ (in_range_yes negative (exact * 10 ^ (above - under)) low ∙ ap (λ t. Ok (with_sign negative t)) at))

pub sign_zero : (negative : Bool) (n size zeros : ℕ) → IsSignificand n size zeros → size ≡ 0 → Zero ≡ sign_of_int (with_sign negative n)
sign_zero negative n size zeros s z =
    let at : n ≡ 0 = eqb-true n 0 (sym (zero_together n size zeros s) ∙ eq-eqb size 0 z) in
    Prim.rw at (elim negative as (λ b. Zero ≡ sign_of_int (with_sign b 0)) [ true ↦ refl | false ↦ refl ])

below : (n : ℕ) → 0 < n → Below ≡ sign_of_int (with_sign true n)
below zero h = absurd (Prim.omega arith)
below (suc n) h = refl

above : (n : ℕ) → 0 < n → Above ≡ sign_of_int (with_sign false n)
above zero h = absurd (Prim.omega arith)
above (suc n) h = refl

not_zero : (n size zeros : ℕ) → IsSignificand n size zeros → size ≢ 0 → 0 < n
not_zero n size zeros s p = let q : n ≢ 0 = λ z. p (eqb-true size 0 (zero_together n size zeros s ∙ eq-eqb n 0 z)) in Prim.omega arith

pub sign_below : (negative : Bool) (n size zeros : ℕ) → IsSignificand n size zeros → size ≢ 0 → negative ≡ true → Below ≡ sign_of_int (with_sign negative n)
sign_below negative n size zeros s p e = Prim.rw e (below n (not_zero n size zeros s p))

pub sign_above : (negative : Bool) (n size zeros : ℕ) → IsSignificand n size zeros → size ≢ 0 → negative ≡ false → Above ≡ sign_of_int (with_sign negative n)
sign_above negative n size zeros s p e = Prim.rw e (above n (not_zero n size zeros s p))
