-- What cutting a text at a byte gives.
use Rattle.std.proofs.Common.{◌≡◌, ℕ, ◌+◌, ◌<◌, ◌≤◌, ◌==◌, Bool, true, false, List, [], ◌∷◌, ◌++◌, length, take, drop, refl, sym, ap, subst, ◌∙◌, arith, unwrap_or, inl, inr, not, codes}
use Rattle.std.specs.Prelude.{slice_index}
use Rattle.std.specs.List.{position, position_or_len, before_first, after_first, list_all}
use Rattle.std.specs.Char.{is_ascii_digit}
use Rattle.std.proofs.lemmas.List.{take_at, drop_at, take_all, drop_all, append_assoc, length_push, length-append}
use Rattle.std.proofs.lemmas.List.Sums.{prefix_len-le-length, AllPass-from_list_all}
use Rattle.std.proofs.lemmas.Bool.{cases_lt, lt-ltb, le-ltb, and_parts, or_from, or_parts, ne_eqb, leb-true, cases_Bool, eqb-true}
use Rattle.scaled_decimal.specs.Decimal.{Decimal, is_mark, is_point, IsSign}
use Rattle.scaled_decimal.specs.Reading.{is_well_formed, is_sign, is_negative, without_sign}
use Rattle.scaled_decimal.specs.View.{HasDigits}

pub place_or_length : (p : ℕ → Bool) (xs : List ℕ) → unwrap_or (position p xs) (length xs) ≡ position_or_len p xs
place_or_length p xs = elim (cases_lt (position_or_len p xs) (length xs)) [
  | inl h ↦ Prim.rw (lt-ltb (position_or_len p xs) (length xs) h) refl
  | inr h ↦ Prim.rw (le-ltb (position_or_len p xs) (length xs) h) (let most : position_or_len p xs ≤ length xs = prefix_len-le-length (λ x. not (p x)) xs in Prim.omega arith)
]

pub digits_if_well_formed : (marked : Bool) (d : Decimal) → is_well_formed marked d ≡ true → HasDigits d
digits_if_well_formed marked d h =
    let a = and_parts _ _ (and_parts _ _ h).0 in
    let b = and_parts _ _ a.0 in
    let c = and_parts _ _ b.0 in
    record {
      whole = AllPass-from_list_all is_ascii_digit d.whole c.0;
      part = AllPass-from_list_all is_ascii_digit d.part c.1;
      exponent = AllPass-from_list_all is_ascii_digit d.exponent b.1;
    }

-- no element passes
abbrev pub Lacks : (ℕ → Bool) → List ℕ → Type 0
Lacks p [] = Unit {0}
Lacks p (x ∷ xs) = (p x ≡ false) × Lacks p xs

pub Lacks-append : (p : ℕ → Bool) (xs ys : List ℕ) → Lacks p xs → Lacks p ys → Lacks p (xs ++ ys)
Lacks-append p [] ys h k = k
Lacks-append p (x ∷ xs) ys h k = (h.0, Lacks-append p xs ys h.1 k)

position-Lacks : (p : ℕ → Bool) (xs : List ℕ) → Lacks p xs → position_or_len p xs ≡ length xs
position-Lacks p [] h = refl
position-Lacks p (x ∷ xs) h = let rest = position-Lacks p xs h.1 in Prim.rw h.0 (Prim.omega arith)

position-at : (p : ℕ → Bool) (xs : List ℕ) (y : ℕ) (ys : List ℕ) → Lacks p xs → p y ≡ true → position_or_len p (xs ++ y ∷ ys) ≡ length xs
position-at p [] y ys h at = Prim.rw at refl
position-at p (x ∷ xs) y ys h at = let rest = position-at p xs y ys h.1 at in Prim.rw h.0 (Prim.omega arith)

pub before-Lacks : (p : ℕ → Bool) (xs : List ℕ) → Lacks p xs → before_first p xs ≡ xs
before-Lacks p xs h = ap (λ n. take n xs) (position-Lacks p xs h) ∙ take_all (length xs) xs (Prim.omega arith)

pub before-at : (p : ℕ → Bool) (xs : List ℕ) (y : ℕ) (ys : List ℕ) → Lacks p xs → p y ≡ true → before_first p (xs ++ y ∷ ys) ≡ xs
before-at p xs y ys h at = ap (λ n. take n (xs ++ y ∷ ys)) (position-at p xs y ys h at) ∙ take_at xs (y ∷ ys) (length xs) refl

pub after-Lacks : (p : ℕ → Bool) (xs : List ℕ) → Lacks p xs → after_first p xs ≡ []
after-Lacks p xs h = ap (λ n. drop (n + 1) xs) (position-Lacks p xs h) ∙ drop_all (length xs + 1) xs (Prim.omega arith)

pub after-at : (p : ℕ → Bool) (xs : List ℕ) (y : ℕ) (ys : List ℕ) → Lacks p xs → p y ≡ true → after_first p (xs ++ y ∷ ys) ≡ ys
after-at p xs y ys h at =
    ap (λ n. drop (n + 1) (xs ++ y ∷ ys)) (position-at p xs y ys h at)
    ∙ (ap (drop (length xs + 1)) (sym (append_assoc xs (y ∷ []) ys)) ∙ drop_at (xs ++ y ∷ []) ys (length xs + 1) (length_push xs y))

pub passed-at : (p : ℕ → Bool) (xs : List ℕ) (y : ℕ) (ys : List ℕ) → Lacks p xs → p y ≡ true → position_or_len p (xs ++ y ∷ ys) < length (xs ++ y ∷ ys)
passed-at p xs y ys h at = Prim.simp length-append (Prim.omega (arith, position-at p xs y ys h at))

pub passed-Lacks : (p : ℕ → Bool) (xs : List ℕ) → Lacks p xs → length xs ≤ position_or_len p xs
passed-Lacks p xs h = Prim.omega (arith, position-Lacks p xs h)

-- digits are no marks, points or signs
digit_range : (c : ℕ) → is_ascii_digit c ≡ true → (48 ≤ c) × (c ≤ 57)
digit_range c h = let b = and_parts _ _ h in (leb-true 48 c b.0, leb-true c 57 b.1)

pub digit_no_mark : (c : ℕ) → is_ascii_digit c ≡ true → is_mark c ≡ false
digit_no_mark c h = let r = digit_range c h in or_from _ _ (ne_eqb c 101 (λ e. Prim.omega arith)) (ne_eqb c 69 (λ e. Prim.omega arith))

pub digit_no_point : (c : ℕ) → is_ascii_digit c ≡ true → is_point c ≡ false
digit_no_point c h = let r = digit_range c h in ne_eqb c 46 (λ e. Prim.omega arith)

pub digit_no_sign : (c : ℕ) → is_ascii_digit c ≡ true → is_sign c ≡ false
digit_no_sign c h = let r = digit_range c h in or_from _ _ (ne_eqb c 43 (λ e. Prim.omega arith)) (ne_eqb c 45 (λ e. Prim.omega arith))

pub Lacks-digits : (p : ℕ → Bool) → ((c : ℕ) → is_ascii_digit c ≡ true → p c ≡ false) → (xs : List ℕ) → list_all is_ascii_digit xs ≡ true → Lacks p xs
Lacks-digits p f [] h = tt
Lacks-digits p f (x ∷ xs) h = let b = and_parts _ _ h in (f x b.0, Lacks-digits p f xs b.1)

-- a sign in front of what begins with none
pub sign_cut : (sign : List ℕ) (negative : Bool) (rest : List ℕ) → IsSign sign negative → is_sign (slice_index rest 0) ≡ false → (without_sign (sign ++ rest) ≡ rest) × (is_negative (sign ++ rest) ≡ negative)
sign_cut sign negative rest s none = elim s [
  | inl a ↦ Prim.rw (a.0, a.1) (Prim.rw none refl, (or_parts _ _ none).1)
  | inr s ↦ elim s [
    | inl a ↦ Prim.rw (a.0, a.1) (refl, refl)
    | inr a ↦ Prim.rw (a.0, a.1) (refl, refl)
  ]
]

pub record StartsWithSign (text : List ℕ) : Type 0 where
  pub sign : List ℕ
  pub text_is : text ≡ sign ++ without_sign text
  pub signs : IsSign sign (is_negative text)

-- every text is a sign and what is behind it
pub sign_in_front : (text : List ℕ) → StartsWithSign text
sign_in_front [] = record { sign = []; text_is = refl; signs = inl (refl, refl) }
sign_in_front (c ∷ cs) = elim (cases_Bool (c == 43)) [
  | inl plus ↦ let P : ℕ → Type 0 = λ x. StartsWithSign (x ∷ cs) in subst P (sym (eqb-true c 43 plus)) (record { sign = codes "+"; text_is = refl; signs = inr (inl (refl, refl)) })
  | inr no_plus ↦ elim (cases_Bool (c == 45)) [
    | inl minus ↦ let P : ℕ → Type 0 = λ x. StartsWithSign (x ∷ cs) in subst P (sym (eqb-true c 45 minus)) (record { sign = codes "-"; text_is = refl; signs = inr (inr (refl, refl)) })
    | inr no_minus ↦ record { sign = []; text_is = Prim.rw (no_plus, no_minus) refl; signs = inl (refl, no_minus) }
  ]
]
