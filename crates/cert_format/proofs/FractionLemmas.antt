-- The text of a fraction is taken apart at its `/`, and its digits give the numbers again.
use Rattle.std.specs.Prelude.{◌≡◌, ℕ, ◌<◌, ◌+◌, ◌==◌, ◌&&◌, ℤ, pos, negsuc, neg_ℤ, unsigned_abs, slice_index, List, [], ◌∷◌, ◌++◌, length, map, take, drop, position, Bool, true, false, cond, Option, Some, None}
use Rattle.std.specs.List.{AllByRecursion, before_first, after_first, position_or_len}
use Rattle.std.specs.Int.{IsInRange}
use Rattle.std.specs.Int.Digits.{digits_of}
use Rattle.std.specs.Char.{digit_value}
use Rattle.std.specs.Str.{bytes_eq}
use Rattle.std.specs.Str.Parse.{digits_value, signed_digits_value, starts_with_minus}
use Rattle.std.proofs.Common.{zero, suc, arith, ap, sym, ◌∙◌, subst, refl, append_assoc, length-append}
use Rattle.std.proofs.lemmas.Bool.{and_parts, and_from, ne_eqb, lt-ltb, le-leb, leb-true}
use Rattle.std.proofs.lemmas.Int.Digits.{all_below_base_digits_of, digits_value_is, number_digits_of}
use Rattle.std.proofs.lemmas.List.{take_at, drop_at, length_push}
use Rattle.std.proofs.lemmas.Option.{cond_some}
use Rattle.std.proofs.lemmas.Slice.Eq.{bytes_eq-Decides}
use Rattle.std.proofs.lemmas.Str.{digit_value_digit}
use Rattle.fraction_theory.specs.Code.{over_parts}
use Rattle.fraction_theory.specs.Fraction.{Fraction}
use Rattle.exact_fraction.specs.Written.{number_text, sign_text, parts_text}
use Rattle.cert_format.specs.Certificates.{Fits}
use Rattle.cert_format.specs.FractionTexts.{Spells, fits, fraction_of_text, is_slash, quotient_of}

-- ---- digits
abbrev pub IsDigit : ℕ → Type 0
IsDigit c = IsInRange 48 57 c

abbrev pub OnlyDigits : List ℕ → Type 0
OnlyDigits cs = AllByRecursion IsDigit cs

OnlyDigits-map : (ds : List ℕ) → AllByRecursion (λ d. d < 10) ds → OnlyDigits (map (λ d. 48 + d) ds)
OnlyDigits-map [] h = tt
OnlyDigits-map (d ∷ ds) h = ((omega (arith, h.0), omega (arith, h.0)), OnlyDigits-map ds h.1)

pub OnlyDigits-number_text : (n : ℕ) → OnlyDigits (number_text n)
unfolding number_text
OnlyDigits-number_text zero = ((omega arith, omega arith), tt)
OnlyDigits-number_text (suc n) = OnlyDigits-map (digits_of 10 (suc n)) (all_below_base_digits_of 10 (suc n) (omega arith))

value_of_digit : (d : ℕ) → d < 10 → digit_value (48 + d) ≡ d
value_of_digit d h = let e = digit_value_digit (48 + d) (omega arith, omega arith) in omega (arith, e)

values_of_digits : (ds : List ℕ) → AllByRecursion (λ d. d < 10) ds → map digit_value (map (λ d. 48 + d) ds) ≡ ds
values_of_digits [] h = refl
values_of_digits (d ∷ ds) h = let first = value_of_digit d h.0 in let rest = values_of_digits ds h.1 in cc

-- the digits of a number give it again
pub digits_value-number_text : (n : ℕ) → digits_value 10 (number_text n) ≡ n
unfolding number_text
digits_value-number_text zero = refl
digits_value-number_text (suc n) =
    digits_value_is 10 (map (λ d. 48 + d) (digits_of 10 (suc n)))
    ∙ rw (values_of_digits (digits_of 10 (suc n)) (all_below_base_digits_of 10 (suc n) (omega arith))) (number_digits_of 10 (suc n) (omega arith))

-- ---- the parts of a text at its `/`
abbrev pub NoSlash : List ℕ → Type 0
NoSlash cs = AllByRecursion (λ c. is_slash c ≡ false) cs

pub NoSlash-digits : (cs : List ℕ) → OnlyDigits cs → NoSlash cs
NoSlash-digits [] h = tt
NoSlash-digits (c ∷ cs) h = (ne_eqb c 47 (λ e. omega (arith, h.0)), NoSlash-digits cs h.1)

pub NoSlash-signed : (z : ℤ) (cs : List ℕ) → OnlyDigits cs → NoSlash (sign_text z ++ cs)
NoSlash-signed (pos n) cs h = NoSlash-digits cs h
NoSlash-signed (negsuc n) cs h = (refl, NoSlash-digits cs h)

slash_behind : (xs ys : List ℕ) → NoSlash xs → position_or_len is_slash (xs ++ 47 ∷ ys) ≡ length xs
slash_behind [] ys h = refl
slash_behind (x ∷ xs) ys h = let rest = slash_behind xs ys h.1 in rw h.0 (omega arith)

pub before-slash : (xs ys : List ℕ) → NoSlash xs → before_first is_slash (xs ++ 47 ∷ ys) ≡ xs
before-slash xs ys h = ap (λ n. take n (xs ++ 47 ∷ ys)) (slash_behind xs ys h) ∙ take_at xs (47 ∷ ys) (length xs) refl

pub behind-slash : (xs ys : List ℕ) → NoSlash xs → after_first is_slash (xs ++ 47 ∷ ys) ≡ ys
behind-slash xs ys h =
    ap (λ n. drop (n + 1) (xs ++ 47 ∷ ys)) (slash_behind xs ys h)
    ∙ (ap (drop (length xs + 1)) (sym (append_assoc xs (47 ∷ []) ys)) ∙ drop_at (xs ++ 47 ∷ []) ys (length xs + 1) (length_push xs 47))

pub place-slash : (xs ys : List ℕ) → NoSlash xs → position is_slash (xs ++ 47 ∷ ys) ≡ Some (length xs)
place-slash xs ys h =
    let lt : length xs < length (xs ++ 47 ∷ ys) = omega (arith, length-append xs (47 ∷ ys)) in
    rw (slash_behind xs ys h, lt-ltb _ _ lt) refl

-- ---- the sign
no_minus : (cs : List ℕ) → OnlyDigits cs → starts_with_minus cs ≡ false
no_minus [] h = refl
no_minus (c ∷ cs) h = ne_eqb c 45 (λ e. omega (arith, h.0))

no_plus : (cs : List ℕ) → OnlyDigits cs → (slice_index cs 0 == 43) ≡ false
no_plus [] h = refl
no_plus (c ∷ cs) h = ne_eqb c 43 (λ e. omega (arith, h.0))

abbrev pub is_below : ℤ → Bool
is_below (pos n) = false
is_below (negsuc n) = true

pub minus-signed : (z : ℤ) (cs : List ℕ) → OnlyDigits cs → starts_with_minus (sign_text z ++ cs) ≡ is_below z
minus-signed (pos n) cs h = no_minus cs h
minus-signed (negsuc n) cs h = refl

-- what stands behind the sign
pub rest-signed : (z : ℤ) (cs : List ℕ) → OnlyDigits cs → drop (cond (starts_with_minus (sign_text z ++ cs)) 1 0) (sign_text z ++ cs) ≡ cs
rest-signed (pos n) cs h = rw (no_minus cs h) refl
rest-signed (negsuc n) cs h = refl

value-signed : (z : ℤ) → signed_digits_value 10 (sign_text z ++ number_text (unsigned_abs z)) ≡ z
value-signed (pos n) =
    let digits = OnlyDigits-number_text n in
    rw (no_minus (number_text n) digits, no_plus (number_text n) digits) (ap pos (digits_value-number_text n))
value-signed (negsuc n) = ap (λ m. neg_ℤ (pos m)) (digits_value-number_text (suc n))

-- ---- the fraction of a text
-- the text of a fraction gives it again
pub quotient-parts_text : (x : Fraction) → quotient_of (parts_text x) ≡ x
unfolding quotient_of parts_text
quotient-parts_text x =
    let front = NoSlash-signed x.num (number_text (unsigned_abs x.num)) (OnlyDigits-number_text (unsigned_abs x.num)) in
    rw (
      before-slash (sign_text x.num ++ number_text (unsigned_abs x.num)) (number_text x.den) front,
      behind-slash (sign_text x.num ++ number_text (unsigned_abs x.num)) (number_text x.den) front,
      value-signed x.num,
      digits_value-number_text x.den,
    ) (over_parts x)

fits-Fits : (most : ℕ) (x : Fraction) → fits most x ≡ true → Fits most x
fits-Fits most x h = let p = and_parts _ _ h in record { num = leb-true _ _ p.0; den = leb-true _ _ p.1 }

Fits-fits : (most : ℕ) (x : Fraction) → Fits most x → fits most x ≡ true
Fits-fits most x h = and_from _ _ (le-leb _ _ h.num) (le-leb _ _ h.den)

-- what is read is spelled by the text
pub fraction_of_text-spells : (most : ℕ) (text : List ℕ) (x : Fraction) → fraction_of_text most text ≡ Some x → Spells most text x
unfolding fraction_of_text
fraction_of_text-spells most text x h =
    let found = cond_some (bytes_eq (parts_text (quotient_of text)) text && fits most (quotient_of text)) (quotient_of text) x h in
    let both = and_parts _ _ found.0 in
    let text_is = (bytes_eq-Decides (parts_text (quotient_of text)) text).0 both.0 in
    subst (Spells most text) found.1 (record { spelling = sym text_is; fits = fits-Fits most (quotient_of text) both.1 })

-- what is spelled is read
pub fraction_of_text-read : (most : ℕ) (text : List ℕ) (x : Fraction) → Spells most text x → fraction_of_text most text ≡ Some x
unfolding fraction_of_text
fraction_of_text-read most text x h =
    let is : quotient_of text ≡ x = ap quotient_of h.spelling ∙ quotient-parts_text x in
    let same = (bytes_eq-Decides (parts_text x) text).1 (sym h.spelling) in
    rw (is, same, Fits-fits most x h.fits) refl

-- and a text that spells nothing is read as nothing
pub fraction_of_text-none : (most : ℕ) (text : List ℕ) → ((x : Fraction) → ¬ (Spells most text x)) → fraction_of_text most text ≡ None
fraction_of_text-none most text none = by (fraction_of_text most text) refl
  where
    by : (o : Option Fraction) → fraction_of_text most text ≡ o → fraction_of_text most text ≡ None
    by None e = e
    by (Some x) e = absurd (none x (fraction_of_text-spells most text x e))
