-- The quotient of the sizes of a fraction's parts, with its sign, is the fraction.
use Rattle.std.specs.Prelude.{◌≡◌, ◌≢◌, ◌⊎◌, ℕ, ◌<◌, ◌*◌, ℤ, pos, negsuc, neg_ℤ, ◌*ℤ◌, unsigned_abs, Bool, true, false, cond, List, [], ◌∷◌, ◌++◌, ◌+◌, ◌-◌, length, take, drop, position, Option, Some, None, option_map}
use Rattle.std.specs.Str.Parse.{starts_with_minus}
use Rattle.std.proofs.Common.{arith, ap, sym, ◌∙◌, subst, refl, append_assoc, inl, inr}
use Rattle.std.proofs.lemmas.List.{take_all, take_at, drop_at, length-drop, length_push}
use Rattle.std.proofs.lemmas.Option.{none-some, same_Some}
use Rattle.std.proofs.lemmas.Bool.{true≢false}
use Rattle.fraction_theory.specs.declared.Sign.TheVariants.{Above, Below, Zero}
use Rattle.fraction_theory.specs.declared.Sign.{Sign}
use Rattle.fraction_theory.specs.Fraction.{Fraction, over, same_fraction, whole, ◌*ℚ◌, neg_ℚ, recip_ℚ}
use Rattle.fraction_theory.specs.Signs.{sign_of}
use Rattle.fraction_theory.proofs.FieldLaws.{whole_is}
use Rattle.fraction_theory.proofs.FractionLaws.{Is, itself, over_is, same_value, times_is}
use Rattle.fraction_theory.proofs.IntegerLaws.{*ℤ-pos_one}
use Rattle.fraction_theory.proofs.SignLaws.{not_nil_by_sign, sign_of_is}
use Rattle.exact_fraction.specs.Written.{number_text, parts_text, sign_text}
use Rattle.exact_fraction.specs.Passes.{ProductPasses}
use Rattle.exact_fraction.proofs.Whole.{product_is_fits}
use Rattle.cert_format.specs.Certificates.{Fits}
use Rattle.cert_format.specs.FractionTexts.{Spells, is_slash, without_sign}
use Rattle.cert_format.proofs.FractionLemmas.{NoSlash, NoSlash-signed, OnlyDigits-number_text, is_below, minus-signed, place-slash, rest-signed}

recip_of_whole : (d : ℕ) → recip_ℚ (whole (pos d)) ≡ over (pos 1) d
unfolding recip_ℚ whole
recip_of_whole d = refl

pub not_nil : (d : ℕ) → 0 < d → whole (pos d) ≢ whole (pos 0)
unfolding whole
not_nil d h e = let n : pos d ≡ pos 0 = ap (λ (u : Fraction). u.num) e in let m = ap unsigned_abs n in omega (arith, m)

-- the sign of a number above 0 is not that of 0
pub sign_not_zero : (d : ℕ) (s : Sign) (x : Fraction) → 0 < d → x ≡ whole (pos d) → s ≡ sign_of x → s ≢ Zero
sign_not_zero d s x h e is z = not_nil d h (sym e ∙ sign_of_is x Zero (sym z ∙ is))

restated : (x : Fraction) (n m : ℤ) (d e : ℕ) → n ≡ m → d ≡ e → Is x n d → Is x m e
restated x n m d e p q h = subst (λ t. Is x t e) p (subst (λ t. Is x n t) q h)

-- numerator over denominator
pub quotient_is : (x n d t : Fraction) → n ≡ whole (pos (unsigned_abs x.num)) → d ≡ whole (pos x.den) → t ≡ n *ℚ recip_ℚ d → t ≡ without_sign x
quotient_is x n d t en ed et =
    let m = unsigned_abs x.num in
    let parts : n *ℚ recip_ℚ d ≡ whole (pos m) *ℚ over (pos 1) x.den = ap (λ u. u *ℚ recip_ℚ d) en ∙ ap (λ u. whole (pos m) *ℚ recip_ℚ u) ed ∙ ap (λ u. whole (pos m) *ℚ u) (recip_of_whole x.den) in
    let is = times_is (whole (pos m)) (over (pos 1) x.den) (pos m) (pos 1) 1 x.den (whole_is (pos m)) (over_is (pos 1) x.den x.above) in
    et ∙ parts ∙ same_value (whole (pos m) *ℚ over (pos 1) x.den) (without_sign x) (pos m) x.den x.above
    (restated (whole (pos m) *ℚ over (pos 1) x.den) (pos m *ℤ pos 1) (pos m) (1 * x.den) x.den (*ℤ-pos_one (pos m)) (omega arith) is)
    (itself (without_sign x))

-- it passes no bound that the fraction's parts are within
pub quotient_fits : (bound : ℕ) (x n d : Fraction) → Fits bound x → n ≡ whole (pos (unsigned_abs x.num)) → d ≡ whole (pos x.den) → ¬ (ProductPasses bound n (recip_ℚ d))
quotient_fits bound x n d fits en ed = product_is_fits bound n (recip_ℚ d) (without_sign x) (sym (quotient_is x n d (n *ℚ recip_ℚ d) en ed refl)) fits.num fits.den

below : (z : ℤ) → is_below z ≡ true → neg_ℤ (pos (unsigned_abs z)) ≡ z
below (pos n) h = absurd (true≢false (sym h))
below (negsuc n) h = refl

above : (z : ℤ) → is_below z ≡ false → pos (unsigned_abs z) ≡ z
above (pos n) h = refl
above (negsuc n) h = absurd (true≢false h)

-- and with its sign it is the fraction
pub signed-without_sign : (x t : Fraction) → t ≡ without_sign x → cond (is_below x.num) (neg_ℚ t) t ≡ x
unfolding neg_ℚ
signed-without_sign x t e = ap (λ u. cond (is_below x.num) (neg_ℚ u) u) e ∙ by (is_below x.num) refl
  where
    by : (b : Bool) → is_below x.num ≡ b → cond b (neg_ℚ (without_sign x)) (without_sign x) ≡ x
    by true h = same_fraction (neg_ℚ (without_sign x)) x (below x.num h) refl
    by false h = same_fraction (without_sign x) x (above x.num h) refl

-- ---- a text that spells a fraction, cut at its `/`
abbrev front : Fraction → List ℕ
front x = sign_text x.num ++ number_text (unsigned_abs x.num)

module _ (most : ℕ) (text : List ℕ) (x : Fraction) (spells : Spells most text x) where
  cut : text ≡ front x ++ 47 ∷ number_text x.den
  unfolding parts_text
  cut = spells.spelling

  front-no_slash : NoSlash (front x)
  front-no_slash = NoSlash-signed x.num (number_text (unsigned_abs x.num)) (OnlyDigits-number_text (unsigned_abs x.num))

  pub place_is : position is_slash text ≡ Some (length (front x))
  place_is = ap (position is_slash) cut ∙ place-slash (front x) (number_text x.den) front-no_slash

  module _ (place : ℕ) (at : position is_slash text ≡ Some place) where
    there : place ≡ length (front x)
    there = same_Some _ _ (sym at ∙ place_is)

    front_is : take place text ≡ front x
    front_is = ap (λ t. take place t) cut ∙ ap (λ n. take n (front x ++ 47 ∷ number_text x.den)) there ∙ take_at (front x) (47 ∷ number_text x.den) (length (front x)) refl

    pub below_is : starts_with_minus (take place text) ≡ is_below x.num
    below_is = ap starts_with_minus front_is ∙ minus-signed x.num (number_text (unsigned_abs x.num)) (OnlyDigits-number_text (unsigned_abs x.num))

    pub num_is : drop (cond (starts_with_minus (take place text)) 1 0) (take place text) ≡ number_text (unsigned_abs x.num)
    num_is = ap (λ t. drop (cond (starts_with_minus t) 1 0) t) front_is ∙ rest-signed x.num (number_text (unsigned_abs x.num)) (OnlyDigits-number_text (unsigned_abs x.num))

    behind_is : drop (place + 1) text ≡ number_text x.den
    behind_is =
        ap (λ t. drop (place + 1) t) cut ∙ ap (λ n. drop (n + 1) (front x ++ 47 ∷ number_text x.den)) there
        ∙ (ap (drop (length (front x) + 1)) (sym (append_assoc (front x) (47 ∷ []) (number_text x.den)))
        ∙ drop_at (front x ++ 47 ∷ []) (number_text x.den) (length (front x) + 1) (length_push (front x) 47))

    pub den_is : take (length text - (place + 1)) (drop (place + 1) text) ≡ number_text x.den
    den_is = take_all (length text - (place + 1)) (drop (place + 1) text) (omega (arith, length-drop (place + 1) text)) ∙ behind_is

-- ---- what an option under a view says of it
pub value_by : {A B : Type 0} (f : A → B) (o : Option A) (x : A) (y : B) → option_map f o ≡ Some y → o ≡ Some x → f x ≡ y
value_by f o x y e is = same_Some _ _ (ap (option_map f) (sym is) ∙ e)

pub not_none : {A B P : Type 0} (f : A → B) (o : Option A) (y : B) → option_map f o ≡ Some y → o ≡ None → P
not_none f o y e is = absurd (none-some y (ap (option_map f) (sym is) ∙ e))

-- the sign of a number that isn't 0
pub not_nil_by_either : (x : Fraction) (s : Sign) → s ≡ sign_of x → (s ≡ Below) ⊎ (s ≡ Above) → x ≢ whole (pos 0)
not_nil_by_either x s is h = not_nil_by_sign x s is (λ z. elim h [ inl e ↦ absurd (cc (e, z)) | inr e ↦ absurd (cc (e, z)) ])
