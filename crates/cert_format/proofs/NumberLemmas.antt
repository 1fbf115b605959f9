-- A number is read digit by digit, and an operation on the way is refused only where the whole number passes the bound.
use Rattle.std.specs.Prelude.{◌≡◌, ℕ, ◌<◌, ◌≤◌, ◌+◌, ◌*◌, ℤ, pos, ◌+ℤ◌, unsigned_abs, List, [], ◌∷◌, ◌++◌, length, take, drop, get_or, ◌-◌, ◌⊎◌}
use Rattle.std.specs.Char.{digit_value}
use Rattle.std.specs.Str.Parse.{digits_value, digits_value_after}
use Rattle.std.proofs.Common.{arith, ap, sym, ◌∙◌, subst, refl, inl, inr, w64}
use Rattle.std.proofs.lemmas.Int.Digits.{digits_value_more}
use Rattle.std.proofs.lemmas.List.{take-append-drop, take_all}
use Rattle.std.proofs.lemmas.List.Elements.{All-from_recursion}
use Rattle.std.proofs.lemmas.Int.{ints, to_z-of_z}
use mir.Val.{SFits, to_z, of_z}
use Rattle.std.proofs.lemmas.Str.{digit_value_digit}
use Rattle.exact_fraction.specs.Written.{number_text}
use Rattle.cert_format.proofs.FractionLemmas.{IsDigit, OnlyDigits, OnlyDigits-number_text, digits_value-number_text}
use Rattle.fraction_theory.specs.Fraction.{Fraction, over, whole, ◌+ℚ◌, ◌*ℚ◌}
use Rattle.fraction_theory.proofs.FieldLaws.{over-one, whole-+ℚ, whole-*ℚ}
use Rattle.exact_fraction.specs.Passes.{SumPasses, ProductPasses}
use Rattle.exact_fraction.proofs.Whole.{alike_fits}

-- ---- digits in front of others
after_append : (n : ℕ) (xs ys : List ℕ) → digits_value_after 10 n (xs ++ ys) ≡ digits_value_after 10 (digits_value_after 10 n xs) ys
after_append n [] ys = refl
after_append n (x ∷ xs) ys = after_append (n * 10 + digit_value x) xs ys

after_ge : (n : ℕ) (cs : List ℕ) → n ≤ digits_value_after 10 n cs
after_ge n [] = omega arith
after_ge n (c ∷ cs) = let rest = after_ge (n * 10 + digit_value c) cs in omega (arith, rest)

-- the number of the first digits is at most that of all
pub front_le : (i : ℕ) (cs : List ℕ) → digits_value 10 (take i cs) ≤ digits_value 10 cs
front_le i cs =
    let parts : take i cs ++ drop i cs ≡ cs = take-append-drop i cs in
    let all = ap (digits_value 10) (sym parts) ∙ after_append 0 (take i cs) (drop i cs) in
    omega (arith, all, after_ge (digits_value 10 (take i cs)) (drop i cs))

-- ---- one digit more
num_of_whole : (z : ℤ) → (whole z).num ≡ z
unfolding whole
num_of_whole z = refl

den_of_whole : (z : ℤ) → (whole z).den ≡ 1
unfolding whole
den_of_whole z = refl

num_by : (x : Fraction) (v : ℕ) → x ≡ whole (pos v) → x.num ≡ pos v
num_by x v e = ap (λ (u : Fraction). u.num) e ∙ num_of_whole (pos v)

den_by : (x : Fraction) (v : ℕ) → x ≡ whole (pos v) → x.den ≡ 1
den_by x v e = ap (λ (u : Fraction). u.den) e ∙ den_of_whole (pos v)

pub ten_is : (t : Fraction) → t ≡ over (pos 10) 1 → t ≡ whole (pos 10)
ten_is t e = e ∙ over-one (pos 10)

pub shifted_is : (v : ℕ) (x t r : Fraction) → x ≡ whole (pos v) → t ≡ over (pos 10) 1 → r ≡ x *ℚ t → r ≡ whole (pos (v * 10))
shifted_is v x t r ex et er = er ∙ ap (λ u. u *ℚ t) ex ∙ ap (λ u. whole (pos v) *ℚ u) (ten_is t et) ∙ sym (whole-*ℚ (pos v) (pos 10))

pub next_is : (v d : ℕ) (x t r : Fraction) → x ≡ whole (pos v) → t ≡ whole (pos d) → r ≡ x +ℚ t → r ≡ whole (pos (v + d))
next_is v d x t r ex et er = er ∙ ap (λ u. u +ℚ t) ex ∙ ap (λ u. whole (pos v) +ℚ u) et ∙ sym (whole-+ℚ (pos v) (pos d))

-- the bound of a type that has the number 10
pub bound_from_ten : (bound : ℕ) (t : Fraction) → t ≡ over (pos 10) 1 → unsigned_abs t.num ≤ bound → 10 ≤ bound
bound_from_ten bound t e h = subst (λ (z : ℤ). unsigned_abs z ≤ bound) (num_by t 10 (ten_is t e)) h

-- where ten times a number is refused, it passes the bound
pub shift_refused : (bound v : ℕ) (x t : Fraction) → 10 ≤ bound → x ≡ whole (pos v) → t ≡ over (pos 10) 1 → ProductPasses bound x t → bound < v * 10
unfolding ProductPasses
shift_refused bound v x t ten ex et passes =
    let is : x *ℚ t ≡ whole (pos (v * 10)) = shifted_is v x t (x *ℚ t) ex et refl in
    let num = ap unsigned_abs (num_by (x *ℚ t) (v * 10) is) in
    let den = den_by (x *ℚ t) (v * 10) is in
    elim passes [ inl h ↦ omega (arith, num, h) | inr h ↦ absurd (omega (arith, den, h)) ]

-- and so it is where a digit more is refused
pub digit_refused : (bound v d : ℕ) (x t : Fraction) → 10 ≤ bound → x ≡ whole (pos v) → t ≡ whole (pos d) → SumPasses bound x t → ¬ (v + d ≤ bound)
digit_refused bound v d x t ten ex et passes le =
    let left = num_by x v ex in
    let right = num_by t d et in
    let sum : unsigned_abs (x.num +ℤ t.num) ≡ v + d = ap (λ z. unsigned_abs (z +ℤ t.num)) left ∙ ap (λ z. unsigned_abs (pos v +ℤ z)) right in
    let size_left = ap unsigned_abs left in
    let size_right = ap unsigned_abs right in
    let den = den_by t d et in
    alike_fits bound x t (pos t.den) (x.num +ℤ t.num) (den_by x v ex ∙ sym den) refl refl (omega (arith, size_left)) (omega (arith, size_right)) (omega (arith, den)) (omega (arith, sum)) passes

-- ---- the digits of a number, from the place of a loop on
module _ (n : ℕ) (cs : List ℕ) (are : cs ≡ number_text n) where
  digit_at : (i : ℕ) → i < length cs → IsDigit (get_or cs i 0)
  digit_at i lt = All-from_recursion IsDigit cs (subst OnlyDigits (sym are) (OnlyDigits-number_text n)) i 0 lt

  -- every byte is a digit
  pub no_other : {P : Type 0} (i : ℕ) → i < length cs → ((get_or cs i 0 < 48) ⊎ (57 < get_or cs i 0)) → P
  no_other i lt other = let d = digit_at i lt in elim other [ inl h ↦ absurd (omega (arith, h, d.0)) | inr h ↦ absurd (omega (arith, h, d.1)) ]

  one_more : (i : ℕ) → i < length cs → digits_value 10 (take i cs) * 10 + digit_value (get_or cs i 0) ≤ n
  one_more i lt = omega (arith, digits_value_more 10 cs i lt, front_le (i + 1) cs, ap (digits_value 10) are, digits_value-number_text n)

  module _ (bound : ℕ) (le : n ≤ bound) (x t : Fraction) (ten : 10 ≤ bound) where
    -- so no operation on the way is refused
    pub shift_goes : {P : Type 0} (i : ℕ) → i < length cs → x ≡ whole (pos (digits_value 10 (take i cs))) → t ≡ over (pos 10) 1 → ProductPasses bound x t → P
    shift_goes i lt ex et passes = absurd (omega (arith, le, one_more i lt, shift_refused bound (digits_value 10 (take i cs)) x t ten ex et passes))

    pub digit_goes : {P : Type 0} (i : ℕ) → i < length cs → x ≡ whole (pos (digits_value 10 (take i cs) * 10)) → t ≡ whole (pos (get_or cs i 0 - 48)) → SumPasses bound x t → P
    digit_goes i lt ex et passes =
        let d = digit_at i lt in
        let same = digit_value_digit (get_or cs i 0) d in
        let fits : digits_value 10 (take i cs) * 10 + (get_or cs i 0 - 48) ≤ bound = omega (arith, le, one_more i lt, same) in
        absurd (digit_refused bound (digits_value 10 (take i cs) * 10) (get_or cs i 0 - 48) x t ten ex et passes fits)

  -- and the whole is read
  pub all_read : (i : ℕ) (x : Fraction) → length cs ≤ i → x ≡ whole (pos (digits_value 10 (take i cs))) → x ≡ whole (pos n)
  all_read i x le e = e ∙ ap (λ ds. whole (pos (digits_value 10 ds))) (take_all i cs le ∙ are) ∙ ap (λ (m : ℕ). whole (pos m)) (digits_value-number_text n)

-- one digit more is read
pub digit_read : (cs : List ℕ) (i : ℕ) (x : Fraction) → i < length cs → 48 ≤ get_or cs i 0 → get_or cs i 0 ≤ 57 → x ≡ whole (pos (digits_value 10 (take i cs) * 10 + (get_or cs i 0 - 48))) → x ≡ whole (pos (digits_value 10 (take (i + 1) cs)))
digit_read cs i x lt low high e =
    let same = digit_value_digit (get_or cs i 0) (low, high) in
    let d : get_or cs i 0 - 48 ≡ digit_value (get_or cs i 0) = omega (arith, same) in
    e ∙ ap (λ (k : ℕ). whole (pos (digits_value 10 (take i cs) * 10 + k))) d ∙ ap (λ (m : ℕ). whole (pos m)) (sym (digits_value_more 10 cs i lt))

small_fits : (d : ℕ) → d < 10 → SFits w64 (pos d)
small_fits d h = omega (arith, ints)

-- the number of a digit
pub digit_is : (d : ℕ) (z : ℤ) (x : Fraction) → z ≡ pos d → d < 10 → x ≡ over (to_z w64 (of_z w64 z)) 1 → x ≡ whole (pos d)
digit_is d z x e small is = is ∙ ap (λ (y : ℤ). over (to_z w64 (of_z w64 y)) 1) e ∙ ap (λ (y : ℤ). over y 1) (to_z-of_z w64 (pos d) (small_fits d small)) ∙ over-one (pos d)
