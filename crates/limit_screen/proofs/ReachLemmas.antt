-- What is told of limits that are reached and rooms that are used up, and lists of those with one more.
use Rattle.std.specs.Prelude.{◌≡◌, ◌≢◌, ◌⊎◌, ◌&&◌, ℕ, ◌+◌, negsuc, Bool, true, false, List, [], ◌∷◌, ◌++◌, cond, filter, not, refl}
use Rattle.std.specs.Ordering.{MatchOrdering}
use Rattle.std.proofs.Common.{Ordering, Less, Equal, Greater, arith, ap, sym, ◌∙◌, subst, inl, inr}
use Rattle.std.proofs.lemmas.Int.{ints}
use Rattle.std.proofs.lemmas.List.{append-nil}
use Rattle.std.proofs.lemmas.List.Elements.{filter-append}
use Rattle.fraction_theory.specs.Fraction.{Fraction, whole, ◌-ℚ◌}
use Rattle.fraction_theory.specs.Order.{◌<ℚ◌, ◌≤ℚ◌}
use Rattle.fraction_theory.specs.Signs.{abs_ℚ, sign_of}
use Rattle.fraction_theory.specs.declared.Sign.{Sign}
use Rattle.fraction_theory.specs.declared.Sign.TheVariants.{Below, Zero, Above}
use Rattle.fraction_theory.proofs.FieldLaws.{ring_ℚ}
use Rattle.fraction_theory.proofs.OrderLaws.{<ℚ-not-≤ℚ, <ℚ-≤ℚ, <ℚ_irrefl, NonNeg-one, by_le1, not-≤ℚ, ≤ℚ_of_same, ≤ℚ_trans}
use Rattle.fraction_theory.proofs.Ring.{by_ring, by_ring1, at, pnil, pone, pneg, ◌⊕◌}
use Rattle.fraction_theory.proofs.SignLaws.{sign_of_is}
use Rattle.market_model.specs.Dispatch.{places, zero}
use Rattle.market_model.proofs.MorePlaces.{places_more}
use Rattle.limit_screen.specs.Reaching.{are_same, is_below, is_negative, is_zero, reaches}

-- ---- tests
-- whether a number is 0
pub nil_tells : (x : Fraction) → ((is_zero (sign_of x) ≡ true) × (x ≡ zero)) ⊎ ((is_zero (sign_of x) ≡ false) × (x ≢ zero))
nil_tells x = by (sign_of x) refl
  where
    by : (s : Sign) → s ≡ sign_of x → ((is_zero s ≡ true) × (x ≡ zero)) ⊎ ((is_zero s ≡ false) × (x ≢ zero))
    by Below e = inr (refl, λ n. <ℚ_irrefl zero (subst (λ t. t <ℚ zero) n (sign_of_is x Below e)))
    by Zero e = inl (refl, sign_of_is x Zero e)
    by Above e = inr (refl, λ n. <ℚ_irrefl zero (subst (λ t. zero <ℚ t) n (sign_of_is x Above e)))

less_nil : (x y : Fraction) → x -ℚ y ≡ zero → x ≡ y
less_nil x y e = by_ring1 ring_ℚ (x ∷ y ∷ []) (at 0) (at 1) pone (at 0 ⊕ pneg (at 1)) pnil e refl

nil_less : (x y : Fraction) → x ≡ y → x -ℚ y ≡ zero
nil_less x y e = ap (λ t. t -ℚ y) e ∙ by_ring ring_ℚ (y ∷ []) (at 0 ⊕ pneg (at 0)) pnil refl

pub same_tells : (x y : Fraction) → ((are_same x y ≡ true) × (x ≡ y)) ⊎ ((are_same x y ≡ false) × (x ≢ y))
same_tells x y = elim (nil_tells (x -ℚ y)) [ inl t ↦ inl (t.0, less_nil x y t.1) | inr t ↦ inr (t.0, λ e. t.1 (nil_less x y e)) ]

pub below_tells : (x y : Fraction) → ((is_below x y ≡ true) × (x <ℚ y)) ⊎ ((is_below x y ≡ false) × (y ≤ℚ x))
below_tells x y = by (sign_of (x -ℚ y)) refl
  where
    not_less : zero ≤ℚ (x -ℚ y) → y ≤ℚ x
    not_less h = by_le1 (x ∷ y ∷ []) (at 1) (at 0) pone pnil (at 0 ⊕ pneg (at 1)) NonNeg-one h refl

    not_more : y ≤ℚ x → zero ≤ℚ (x -ℚ y)
    not_more h = by_le1 (x ∷ y ∷ []) pnil (at 0 ⊕ pneg (at 1)) pone (at 1) (at 0) NonNeg-one h refl

    by : (s : Sign) → s ≡ sign_of (x -ℚ y) → ((is_negative s ≡ true) × (x <ℚ y)) ⊎ ((is_negative s ≡ false) × (y ≤ℚ x))
    by Below e = inl (refl, not-≤ℚ y x (λ h. <ℚ-not-≤ℚ (x -ℚ y) zero (sign_of_is (x -ℚ y) Below e) (not_more h)))
    by Zero e = inr (refl, ≤ℚ_of_same y x (sym (less_nil x y (sign_of_is (x -ℚ y) Zero e))))
    by Above e = inr (refl, not_less (<ℚ-≤ℚ zero (x -ℚ y) (sign_of_is (x -ℚ y) Above e)))

pub not_reached : (flow limit : Fraction) → abs_ℚ flow <ℚ limit → false ≡ reaches flow limit
not_reached f l less = elim (below_tells (abs_ℚ f) l) [ inl t ↦ ap not (sym t.0) | inr t ↦ absurd (<ℚ-not-≤ℚ (abs_ℚ f) l less t.1) ]

pub is_reached : (flow limit : Fraction) → limit ≤ℚ abs_ℚ flow → true ≡ reaches flow limit
is_reached f l more = elim (below_tells (abs_ℚ f) l) [ inl t ↦ absurd (<ℚ-not-≤ℚ (abs_ℚ f) l t.1 more) | inr t ↦ ap not (sym t.0) ]

pub are_one : (x y : Fraction) → x ≡ y → are_same x y ≡ true
are_one x y e = elim (same_tells x y) [ inl t ↦ t.0 | inr t ↦ absurd (t.1 e) ]

pub are_two : (x y : Fraction) → x ≢ y → are_same x y ≡ false
are_two x y n = elim (same_tells x y) [ inl t ↦ absurd (n t.1) | inr t ↦ t.0 ]

-- two tests at once
pub both_hold : (a b : Bool) → a ≡ true → b ≡ true → true ≡ a && b
both_hold true true e f = refl
both_hold true false e f = absurd Prim.cc
both_hold false b e f = absurd Prim.cc

pub first_fails : (a b : Bool) → a ≡ false → false ≡ a && b
first_fails true b e = absurd Prim.cc
first_fails false b e = refl

pub second_fails : (a b : Bool) → b ≡ false → false ≡ a && b
second_fails true b e = sym e
second_fails false b e = refl

-- ---- one more
pub filter_with : {X : Type 0} (p : X → Bool) (xs : List X) (x : X) → true ≡ p x → filter p (xs ++ x ∷ []) ≡ filter p xs ++ x ∷ []
filter_with p xs x e = filter-append p xs (x ∷ []) ∙ ap (λ (b : Bool). filter p xs ++ cond b (x ∷ []) []) (sym e)

pub filter_past : {X : Type 0} (p : X → Bool) (xs : List X) (x : X) → false ≡ p x → filter p (xs ++ x ∷ []) ≡ filter p xs
filter_past p xs x e = filter-append p xs (x ∷ []) ∙ ap (λ (b : Bool). filter p xs ++ cond b (x ∷ []) []) (sym e) ∙ append-nil (filter p xs)

-- one test after another is both
pub filter_both : {X : Type 0} (p q : X → Bool) (xs : List X) → filter (λ x. p x && q x) xs ≡ filter q (filter p xs)
filter_both p q [] = refl
filter_both {X} p q (x ∷ xs) = by (p x) (filter_both p q xs)
  where
    by : (b : Bool) → filter (λ y. p y && q y) xs ≡ filter q (filter p xs)
        → cond (b && q x) (x ∷ filter (λ y. p y && q y) xs) (filter (λ y. p y && q y) xs) ≡ filter q (cond b (x ∷ filter p xs) (filter p xs))
    by true e = ap (λ (ys : List X). cond (q x) (x ∷ ys) ys) e
    by false e = e

-- the places before one, with that one
module _ (p : ℕ → Bool) (k : ℕ) (found : List ℕ) (before : found ≡ filter p (places k)) where
  pub place_with : true ≡ p k → found ++ k ∷ [] ≡ filter p (places (k + 1))
  place_with e = ap (λ (ys : List ℕ). ys ++ k ∷ []) before ∙ sym (ap (filter p) (places_more k) ∙ filter_with p (places k) k e)

  pub place_past : false ≡ p k → found ≡ filter p (places (k + 1))
  place_past e = before ∙ sym (ap (filter p) (places_more k) ∙ filter_past p (places k) k e)

-- ---- what an order tells
pub not_less : (o : Ordering) (x y : Fraction) → MatchOrdering o (x <ℚ y) (x ≡ y) (y <ℚ x) → (o ≡ Equal) ⊎ (o ≡ Greater) → y ≤ℚ x
not_less Less x y h (inl e) = absurd Prim.cc
not_less Less x y h (inr e) = absurd Prim.cc
not_less Equal x y h is = ≤ℚ_of_same y x (sym h)
not_less Greater x y h is = <ℚ-≤ℚ y x h

pub not_same : (o : Ordering) (x y : Fraction) → MatchOrdering o (x <ℚ y) (x ≡ y) (y <ℚ x) → (o ≡ Less) ⊎ (o ≡ Greater) → x ≢ y
not_same Less x y h is = λ e. <ℚ_irrefl y (subst (λ t. t <ℚ y) e h)
not_same Equal x y h (inl e) = absurd Prim.cc
not_same Equal x y h (inr e) = absurd Prim.cc
not_same Greater x y h is = λ e. <ℚ_irrefl y (subst (λ t. y <ℚ t) e h)

minus_one : whole (negsuc 0) <ℚ zero
unfolding whole
minus_one = record { cross = Prim.omega (arith, ints) }

-- a flow that passes its limit by -1 at the most is below it
pub one_less : (flow limit : Fraction) → (abs_ℚ flow -ℚ limit) ≤ℚ whole (negsuc 0) → abs_ℚ flow <ℚ limit
one_less f l h = not-≤ℚ l (abs_ℚ f)
    (λ n. <ℚ-not-≤ℚ (whole (negsuc 0)) zero minus_one
    (≤ℚ_trans zero (abs_ℚ f -ℚ l) (whole (negsuc 0)) (by_le1 (l ∷ abs_ℚ f ∷ []) pnil (at 1 ⊕ pneg (at 0)) pone (at 0) (at 1) NonNeg-one n refl) h))
