-- The numbers that are written are read back.
use Rattle.std.proofs.Common.{◌≡◌, ℕ, zero, suc, ◌+◌, ◌*◌, ◌/◌, ◌%◌, ◌^◌, ◌<◌, ◌≤◌, ℤ, pos, negsuc, ◌*ℤ◌, Bool, true, false, cond, List, [], ◌∷◌, ◌++◌, length, arith, refl, sym, ap, subst, ◌∙◌, inl, inr, Ok, append_assoc}
use Rattle.std.specs.Prelude.{◌⊎◌, ◌&&◌, decimal, nat_eq, nat_lt, unsigned_abs}
use Rattle.std.specs.Char.{digit_value, is_ascii_digit}
use Rattle.std.specs.List.{list_all}
use Rattle.std.specs.Str.Parse.{AllDigits, digits_value}
use Rattle.std.proofs.Math.Nat.{add-mul, div-le_self, mul_assoc, mul_right_comm, pow-suc}
use Rattle.std.proofs.lemmas.Bool.{and_from, and_parts, le-leb, leb-true, lt-ltb}
use Rattle.std.proofs.lemmas.Bool.Decides.{nat_tests}
use Rattle.std.proofs.lemmas.Fmt.{decimal_is_IsNumeral}
use Rattle.std.proofs.lemmas.Int.Digits.{digits_value_push}
use Rattle.std.proofs.lemmas.List.{append-nil, length-append}
use Rattle.std.proofs.lemmas.List.Folds.{list_all-append}
use Rattle.std.proofs.lemmas.List.Sums.{AllPass-from_list_all}
use Rattle.std.proofs.lemmas.Nat.{div-add-mod'}
use Rattle.std.proofs.lemmas.Str.{digit_value_digit}
use Rattle.std.proofs.lemmas.Str.Parse.{digit_from_value}
use Rattle.fraction_theory.specs.Fraction.{over}
use Rattle.exact_fraction.specs.Written.{last_digits, number_text, sign_text, trimmed_places}
use Rattle.exact_fraction.proofs.Digits.{decimal_short, front_below, length-last_digits}
use Rattle.scaled_decimal.specs.Decimal.{Decimal, Denotes, IsMantissa, IsSign, tens_above, tens_under, value_of, with_sign}
use Rattle.scaled_decimal.specs.Reading.{units_of}
use Rattle.scaled_decimal.proofs.AmountLemmas.{ten_above}
use Rattle.scaled_decimal.proofs.ReadingLaws.{units_of-Reads}
use Rattle.scaled_decimal.proofs.ScaleLemmas.{over_from_cross, signed_times}
use Rattle.line_text.specs.Decimals.{decimal_text}

-- ---- digits
digit-from : (c : ℕ) → 48 ≤ c → c ≤ 57 → is_ascii_digit c ≡ true
digit-from c low high = and_from _ _ (le-leb 48 c low) (le-leb c 57 high)

digit-value : (d : ℕ) → d < 10 → digit_value (48 + d) ≡ d
digit-value d h = let e = digit_value_digit (48 + d) (omega arith, omega arith) in omega (arith, e)

all-digits : (cs : List ℕ) → AllDigits 10 cs → list_all is_ascii_digit cs ≡ true
all-digits [] are = refl
all-digits (c ∷ cs) are = let range = digit_from_value c are.0 in and_from _ _ (digit-from c range.0 range.1) (all-digits cs are.1)

-- the last digits of a number, and what they write behind others
last-are-digits : (k n : ℕ) → list_all is_ascii_digit (last_digits k n) ≡ true
last-are-digits zero n = refl
last-are-digits (suc k) n =
    let low : 48 ≤ 48 + n % 10 = omega arith in
    let high : 48 + n % 10 ≤ 57 = omega arith in
    list_all-append is_ascii_digit (last_digits k (n / 10)) ((48 + n % 10) ∷ []) ∙ and_from _ _ (last-are-digits k (n / 10)) (and_from _ _ (digit-from (48 + n % 10) low high) refl)

value-behind : (xs : List ℕ) (k n : ℕ) → n < 10 ^ k → digits_value 10 (xs ++ last_digits k n) ≡ digits_value 10 xs * 10 ^ k + n
value-behind xs zero n h = let same : digits_value 10 xs ≡ digits_value 10 xs * 10 ^ 0 + n = omega (arith, h) in ap (digits_value 10) (append-nil xs) ∙ same
value-behind xs (suc k) n h =
    let front : digits_value 10 (xs ++ last_digits k (n / 10)) ≡ digits_value 10 xs * 10 ^ k + n / 10 = value-behind xs k (n / 10) (front_below k n h) in
    let small : n % 10 < 10 = omega arith in
    let last : digit_value (48 + n % 10) ≡ n % 10 = digit-value (n % 10) small in
    let more : digits_value 10 xs * 10 ^ suc k ≡ digits_value 10 xs * 10 ^ k * 10 = ap (λ (t : ℕ). digits_value 10 xs * t) (pow-suc 10 k) ∙ sym (mul_assoc (digits_value 10 xs) (10 ^ k) 10) in
    let sum : digits_value 10 (xs ++ last_digits k (n / 10)) * 10 + digit_value (48 + n % 10) ≡ digits_value 10 xs * 10 ^ suc k + n = omega (arith, front, last, more) in
    ap (digits_value 10) (sym (append_assoc xs (last_digits k (n / 10)) ((48 + n % 10) ∷ []))) ∙ (digits_value_push 10 (xs ++ last_digits k (n / 10)) (48 + n % 10) ∙ sum)

-- ---- whole numbers
record IsNumeralOf (text : List ℕ) (n : ℕ) : Type 0 where
  some : 0 < length text
  digits : list_all is_ascii_digit text ≡ true
  value : digits_value 10 text ≡ n

numeral : (n : ℕ) → n < 2 ^ 64 → IsNumeralOf (decimal n) n
numeral n h = let d = decimal_is_IsNumeral n h in record { some = d.0.0; digits = all-digits (decimal n) d.0.1; value = d.1 }

numeral-text : (n : ℕ) → n < 2 ^ 64 → IsNumeralOf (number_text n) n
numeral-text n h = let wide : n < 2 ^ 128 = omega (arith, h) in subst (λ t. IsNumeralOf t n) (decimal_short n wide) (numeral n h)

-- ---- a sign, digits and a point among them
denotes : (bytes sign mantissa whole part : List ℕ) (negative : Bool) (places : ℕ) (n : ℤ) → IsSign sign negative → IsMantissa mantissa whole part → bytes ≡ sign ++ mantissa
    → n *ℤ pos (10 ^ length part) ≡ with_sign negative (digits_value 10 (whole ++ part) * 10 ^ places) → Denotes bytes (over n (10 ^ places))
unfolding value_of
denotes bytes sign mantissa whole part negative places n signs is text cross =
    let d : Decimal = record { negative = negative; whole = whole; part = part; exponent_negative = false; exponent = [] } in
    let number : ℕ = digits_value 10 (whole ++ part) in
    let above : number * 10 ^ tens_above d ≡ number = omega arith in
    let under : tens_under d ≡ length part = omega arith in
    let scaled : n *ℤ pos (10 ^ tens_under d) ≡ with_sign negative (number * 10 ^ tens_above d) *ℤ pos (10 ^ places) =
    ap (λ (k : ℕ). n *ℤ pos (10 ^ k)) under ∙ (cross ∙ (sym (signed_times negative number (10 ^ places)) ∙ ap (λ (k : ℕ). with_sign negative k *ℤ pos (10 ^ places)) (sym above))) in (
      d,
      record {
        sign = sign;
        mantissa = mantissa;
        tail = [];
        text_is = text ∙ ap (λ t. sign ++ t) (sym (append-nil mantissa));
        signs = signs;
        mantissas = is;
        exponents = inl (refl, refl, refl);
      },
      over_from_cross n (with_sign negative (number * 10 ^ tens_above d)) (10 ^ places) (10 ^ tens_under d) (ten_above places) (ten_above (tens_under d)) scaled,
    )

-- a number of a cell is read back
pub number-read : (n : ℕ) → n < 2 ^ 63 → units_of 0 (decimal n) ≡ Ok (pos n)
number-read n h =
    let wide : n < 2 ^ 64 = omega (arith, h) in
    let d = numeral n wide in
    let mantissa : IsMantissa (decimal n) (decimal n) [] = record {
      text_is = inl (refl, refl);
      whole_digits = AllPass-from_list_all is_ascii_digit (decimal n) d.digits;
      part_digits = AllPass-from_list_all is_ascii_digit [] refl;
      some_digit = let s = d.some in omega (arith, s);
    } in
    let value : digits_value 10 (decimal n ++ []) ≡ n = ap (digits_value 10) (append-nil (decimal n)) ∙ d.value in
    let same : n * 10 ^ 0 ≡ digits_value 10 (decimal n ++ []) * 10 ^ 0 = omega (arith, value) in
    units_of-Reads 0 (decimal n) (Ok (pos n)) (denotes (decimal n) [] (decimal n) (decimal n) [] false 0 (pos n) (inl (refl, refl)) mantissa refl (ap pos same), h)

-- ---- places behind a point
record ArePlaces (k n : ℕ) (text : List ℕ) : Type 0 where
  count : ℕ
  number : ℕ
  text_is : ((text ≡ []) × (count ≡ 0)) ⊎ (text ≡ 46 ∷ last_digits count number)
  below : number < 10 ^ count
  value : number * 10 ^ k ≡ n * 10 ^ count

trimmed-by : (k n : ℕ) → n < 10 ^ suc k → ArePlaces k (n / 10) (trimmed_places k (n / 10)) → (t : Bool) → nat_eq (n % 10) 0 ≡ t
    → ArePlaces (suc k) n (cond t (trimmed_places k (n / 10)) (46 ∷ last_digits (suc k) n))
trimmed-by k n h i false e = record { count = suc k; number = n; text_is = inr refl; below = h; value = refl }
trimmed-by k n h i true e =
    let none : n % 10 ≡ 0 = grind (arith, nat_tests) in
    let whole : n / 10 * 10 ≡ n = omega (arith, none) in
    let more : i.number * 10 ^ suc k ≡ i.number * 10 ^ k * 10 = ap (λ (t : ℕ). i.number * t) (pow-suc 10 k) ∙ sym (mul_assoc i.number (10 ^ k) 10) in
    record {
      count = i.count;
      number = i.number;
      text_is = i.text_is;
      below = i.below;
      value = more ∙ (ap (λ (t : ℕ). t * 10) i.value ∙ (sym (mul_right_comm (n / 10) 10 (10 ^ i.count)) ∙ ap (λ (t : ℕ). t * 10 ^ i.count) whole));
    }

trimmed-are : (k n : ℕ) → n < 10 ^ k → ArePlaces k n (trimmed_places k n)
trimmed-are zero n h = record { count = 0; number = 0; text_is = inl (refl, refl); below = omega arith; value = let z : 0 * 10 ^ 0 ≡ n * 10 ^ 0 = omega (arith, h) in z }
trimmed-are (suc k) n h = trimmed-by k n h (trimmed-are k (n / 10) (front_below k n h)) (nat_eq (n % 10) 0) refl

-- ---- decimals
abbrev below : ℤ → Bool
below (pos n) = false
below (negsuc n) = true

sign-is : (z : ℤ) → IsSign (sign_text z) (below z)
sign-is (pos n) = inl (refl, refl)
sign-is (negsuc n) = inr (inr (refl, refl))

with-sign : (z : ℤ) → with_sign (below z) (unsigned_abs z) ≡ z
with-sign (pos n) = refl
with-sign (negsuc n) = refl

crossed : (q r m size p t : ℕ) → q * t + r ≡ size → m * t ≡ r * p → size * p ≡ (q * p + m) * t
crossed q r m size p t is value =
    ap (λ (k : ℕ). k * p) (sym is) ∙ (add-mul (q * t) r p ∙ (ap (λ (k : ℕ). k + r * p) (mul_right_comm q t p) ∙ (ap (λ (k : ℕ). q * p * t + k) (sym value) ∙ sym (add-mul (q * p) m t))))

module _ (places : ℕ) (z : ℤ) (small : unsigned_abs z < 2 ^ 63) where
  abbrev whole : ℕ
  whole = unsigned_abs z / 10 ^ places

  abbrev rest : ℕ
  rest = unsigned_abs z % 10 ^ places

  behind : ArePlaces places rest (trimmed_places places rest)
  behind = let some = ten_above places in let lt : rest < 10 ^ places = omega (arith, some) in trimmed-are places rest lt

  abbrev part : List ℕ
  part = last_digits behind.count behind.number

  numeral-whole : IsNumeralOf (number_text whole) whole
  numeral-whole = let le = div-le_self (unsigned_abs z) (10 ^ places) in let lt : whole < 2 ^ 64 = omega (arith, small, le) in numeral-text whole lt

  mantissa : IsMantissa (number_text whole ++ trimmed_places places rest) (number_text whole) part
  mantissa = record {
    text_is = elim behind.text_is [
      | inl a ↦ inl (ap (λ t. number_text whole ++ t) a.0 ∙ append-nil (number_text whole), ap (λ (k : ℕ). last_digits k behind.number) a.1)
      | inr a ↦ inr (ap (λ t. number_text whole ++ t) a)
    ];
    whole_digits = AllPass-from_list_all is_ascii_digit (number_text whole) numeral-whole.digits;
    part_digits = AllPass-from_list_all is_ascii_digit part (last-are-digits behind.count behind.number);
    some_digit = let s = numeral-whole.some in omega (arith, s);
  }

  cross : z *ℤ pos (10 ^ length part) ≡ with_sign (below z) (digits_value 10 (number_text whole ++ part) * 10 ^ places)
  cross =
      let size : length part ≡ behind.count = length-last_digits behind.count behind.number in
      let value : digits_value 10 (number_text whole ++ part) ≡ whole * 10 ^ behind.count + behind.number =
      value-behind (number_text whole) behind.count behind.number behind.below ∙ ap (λ (k : ℕ). k * 10 ^ behind.count + behind.number) numeral-whole.value in
      let split : whole * 10 ^ places + rest ≡ unsigned_abs z = div-add-mod' (unsigned_abs z) (10 ^ places) in
      let same : unsigned_abs z * 10 ^ length part ≡ digits_value 10 (number_text whole ++ part) * 10 ^ places =
      ap (λ (k : ℕ). unsigned_abs z * 10 ^ k) size ∙ (crossed whole rest behind.number (unsigned_abs z) (10 ^ behind.count) (10 ^ places) split behind.value ∙ ap (λ (k : ℕ). k * 10 ^ places) (sym value)) in
      ap (λ (y : ℤ). y *ℤ pos (10 ^ length part)) (sym (with-sign z)) ∙ (signed_times (below z) (unsigned_abs z) (10 ^ length part) ∙ ap (with_sign (below z)) same)

  decimal-denotes : Denotes (decimal_text places z) (over z (10 ^ places))
  unfolding decimal_text
  decimal-denotes =
      denotes (decimal_text places z) (sign_text z) (number_text whole ++ trimmed_places places rest) (number_text whole) part (below z) places z (sign-is z) mantissa
      (append_assoc (sign_text z) (number_text whole) (trimmed_places places rest)) cross

  -- a datum of so many places is read back
  pub decimal-read : units_of places (decimal_text places z) ≡ Ok z
  decimal-read = units_of-Reads places (decimal_text places z) (Ok z) (decimal-denotes, small)

-- ---- bytes of cells: none of them is a comma, a quote, a line end or of a byte order mark
abbrev pub is_cell_byte : ℕ → Bool
is_cell_byte byte = nat_lt 44 byte && nat_lt byte 128

-- a cell has some bytes, and these are such
pub record IsCellText (text : List ℕ) : Type 0 where
  pub some : 0 < length text
  pub bytes : list_all is_cell_byte text ≡ true

pub word : (text : List ℕ) → 0 < length text → list_all is_cell_byte text ≡ true → IsCellText text
word text some bytes = record { some = some; bytes = bytes }

digit-is-byte : (c : ℕ) → is_ascii_digit c ≡ true → is_cell_byte c ≡ true
digit-is-byte c h =
    let both = and_parts _ _ h in
    let low : 48 ≤ c = leb-true 48 c both.0 in
    let high : c ≤ 57 = leb-true c 57 both.1 in
    let above : 44 < c = omega (arith, low) in
    let under : c < 128 = omega (arith, high) in
    and_from _ _ (lt-ltb 44 c above) (lt-ltb c 128 under)

digits-are-bytes : (cs : List ℕ) → list_all is_ascii_digit cs ≡ true → list_all is_cell_byte cs ≡ true
digits-are-bytes [] h = refl
digits-are-bytes (c ∷ cs) h = let both = and_parts _ _ h in and_from _ _ (digit-is-byte c both.0) (digits-are-bytes cs both.1)

pub number-cell : (n : ℕ) → n < 2 ^ 63 → IsCellText (decimal n)
number-cell n h =
    let wide : n < 2 ^ 64 = omega (arith, h) in
    let d = numeral n wide in
    record { some = d.some; bytes = digits-are-bytes (decimal n) d.digits }

sign-bytes : (z : ℤ) → list_all is_cell_byte (sign_text z) ≡ true
sign-bytes (pos n) = refl
sign-bytes (negsuc n) = refl

both-bytes : (xs ys : List ℕ) → list_all is_cell_byte xs ≡ true → list_all is_cell_byte ys ≡ true → list_all is_cell_byte (xs ++ ys) ≡ true
both-bytes xs ys h k = list_all-append is_cell_byte xs ys ∙ and_from _ _ h k

places-bytes : (k n : ℕ) (text : List ℕ) → ArePlaces k n text → list_all is_cell_byte text ≡ true
places-bytes k n text are = elim are.text_is [
  | inl a ↦ ap (list_all is_cell_byte) a.0
  | inr a ↦ ap (list_all is_cell_byte) a ∙ digits-are-bytes (last_digits are.count are.number) (last-are-digits are.count are.number)
]

pub decimal-cell : (places : ℕ) (z : ℤ) → unsigned_abs z < 2 ^ 63 → IsCellText (decimal_text places z)
unfolding decimal_text
decimal-cell places z small =
    let numeral-part = numeral-whole places z small in
    let some : 0 < length (number_text (whole places z small)) = numeral-part.some in
    record {
      some = simp length-append (omega (arith, some));
      bytes = both-bytes (sign_text z ++ number_text (whole places z small)) (trimmed_places places (rest places z small))
          (both-bytes (sign_text z) (number_text (whole places z small)) (sign-bytes z) (digits-are-bytes (number_text (whole places z small)) numeral-part.digits))
          (places-bytes places (rest places z small) (trimmed_places places (rest places z small)) (behind places z small));
    }
