-- What tests of numbers and of lists mean.
use Rattle.std.specs.Prelude.{◌≡◌, ◌⊎◌, ◌||◌, ◌&&◌, ◌+◌, ◌<◌, ℤ, ◌<ℤ◌, int_lt, Bool, true, false, not, cond, List, [], ◌∷◌, ◌++◌, All, Contains, Option, Some, None, option_map, refl}
use Rattle.std.specs.Option.{option_or}
use Rattle.std.specs.List.{find, list_any}
use Rattle.std.specs.Ordering.{MatchOrdering}
use Rattle.std.proofs.Common.{arith, inl, inr, ap, sym, subst, ◌∙◌, get_or, Ordering, Less, Equal, Greater}
use Rattle.std.proofs.lemmas.Bool.{true≢false, or_parts, or_cases}
use Rattle.std.proofs.lemmas.Int.{ints}
use Rattle.fraction_theory.specs.Fraction.{Fraction}
use Rattle.market_model.specs.declared.participants.Side.{Side}
use Rattle.fraction_theory.specs.Order.{◌≤ℚ◌, ◌<ℚ◌}
use Rattle.fraction_theory.proofs.ListSums.{Contains-head, Contains-cons, Contains-cases}
use Rattle.fraction_theory.proofs.OrderLaws.{<ℚ-≤ℚ, <ℚ-not-≤ℚ, ≤ℚ-or-<ℚ, ≤ℚ_antisym, ≤ℚ_of_same}
use Rattle.market_model.proofs.ChangeLemmas.{same_default}
use Rattle.cert_verify.specs.declared.verdicts.Reason.{Reason}
use Rattle.cert_verify.specs.Reasons.{NoneOf, breaks_support, is_below, is_outside, differ, of_first, where_so, first_of, verdict_of}
use Rattle.cert_verify.specs.declared.verdicts.Verdict.TheVariants.{Yes}

-- ---- numbers
pub int_lt-true : (a b : ℤ) → int_lt a b ≡ true → a <ℤ b
int_lt-true a b e = Prim.grind (arith, ints)

int_lt-of : (a b : ℤ) → a <ℤ b → int_lt a b ≡ true
int_lt-of a b h = Prim.grind (arith, ints)

pub below_true : (x y : Fraction) → is_below x y ≡ true → x <ℚ y
unfolding is_below
below_true x y e = record { cross = int_lt-true _ _ e }

pub below_of : (x y : Fraction) → x <ℚ y → is_below x y ≡ true
unfolding is_below
below_of x y h = int_lt-of _ _ h.cross

pub not_below : (x y : Fraction) → is_below x y ≡ false → y ≤ℚ x
not_below x y e = by (≤ℚ-or-<ℚ y x)
  where
    by : (y ≤ℚ x) ⊎ (x <ℚ y) → y ≤ℚ x
    by (inl h) = h
    by (inr h) = absurd (true≢false (sym (below_of x y h) ∙ e))

pub below_not : (x y : Fraction) → y ≤ℚ x → is_below x y ≡ false
below_not x y h = by (is_below x y) refl
  where
    by : (b : Bool) → is_below x y ≡ b → b ≡ false
    by true e = absurd (<ℚ-not-≤ℚ x y (below_true x y e) h)
    by false e = refl

pub same_by : (x y : Fraction) → differ x y ≡ false → x ≡ y
same_by x y e = let parts = or_parts (is_below x y) (is_below y x) e in ≤ℚ_antisym x y (not_below y x parts.1) (not_below x y parts.0)

pub same_not : (x y : Fraction) → x ≡ y → differ x y ≡ false
same_not x y e = Prim.rw (below_not x y (≤ℚ_of_same y x (sym e)), below_not y x (≤ℚ_of_same x y e)) refl

-- by an order
pub not_less : (o : Ordering) (x y : Fraction) → MatchOrdering o (x <ℚ y) (x ≡ y) (y <ℚ x) → (o ≡ Equal) ⊎ (o ≡ Greater) → y ≤ℚ x
not_less Greater x y h is = <ℚ-≤ℚ y x h
not_less Equal x y h is = ≤ℚ_of_same y x (sym h)
not_less Less x y h (inl e) = absurd Prim.cc
not_less Less x y h (inr e) = absurd Prim.cc

pub not_equal : (o : Ordering) (x y : Fraction) → MatchOrdering o (x <ℚ y) (x ≡ y) (y <ℚ x) → (o ≡ Less) ⊎ (o ≡ Greater) → differ x y ≡ true
not_equal Less x y h is = Prim.rw (below_of x y h) refl
not_equal Greater x y h is = Prim.rw (below_not x y (<ℚ-≤ℚ y x h), below_of y x h) refl
not_equal Equal x y h (inl e) = absurd Prim.cc
not_equal Equal x y h (inr e) = absurd Prim.cc

-- ---- two tests at once
pub neither : (a b : Bool) → a ≡ false → b ≡ false → (a || b) ≡ false
neither a b e f = Prim.rw (e, f) refl

-- a test that is made only where another passes
pub not_both : (a b : Bool) → (a ≡ true → b ≡ false) → (a && b) ≡ false
not_both true b h = h refl
not_both false b h = refl

pub then_not : (a b : Bool) → (a && b) ≡ false → a ≡ true → b ≡ false
then_not true b e h = e
then_not false b e h = absurd (true≢false (sym h))

pub not_false : (b : Bool) → not b ≡ false → b ≡ true
not_false true e = refl
not_false false e = absurd (true≢false e)

pub not_true : (b : Bool) → b ≡ true → not b ≡ false
not_true b e = Prim.rw e refl

-- ---- what a list has
pub any_true : {X : Type 0} (p : X → Bool) (xs : List X) → list_any p xs ≡ true → (x : X) × Contains xs x × (p x ≡ true)
any_true p [] e = absurd (true≢false (sym e))
any_true {X} p (x ∷ xs) e = by (any_true p xs) (or_cases (p x) (list_any p xs) e)
  where
    by : (list_any p xs ≡ true → (y : X) × Contains xs y × (p y ≡ true)) → (p x ≡ true) ⊎ (list_any p xs ≡ true) → (y : X) × Contains (x ∷ xs) y × (p y ≡ true)
    by more (inl h) = (x, Contains-head x xs, h)
    by more (inr h) = let r = more h in (r.0, Contains-cons x xs r.0 r.1, r.2)

pub any_false : {X : Type 0} (p : X → Bool) (xs : List X) → list_any p xs ≡ false → (x : X) → Contains xs x → p x ≡ false
any_false p [] e x (k, lt, at) = absurd (Prim.omega (arith, lt))
any_false p (y ∷ ys) e x c = by (λ f d. any_false p ys f x d) (Contains-cases y ys x c)
  where
    by : (list_any p ys ≡ false → Contains ys x → p x ≡ false) → (y ≡ x) ⊎ Contains ys x → p x ≡ false
    by more (inl f) = subst (λ z. p z ≡ false) f (or_parts (p y) (list_any p ys) e).0
    by more (inr d) = more (or_parts (p y) (list_any p ys) e).1 d

pub any_of : {X : Type 0} (p : X → Bool) (xs : List X) (x : X) → Contains xs x → p x ≡ true → list_any p xs ≡ true
any_of p xs x c e = by (list_any p xs) refl
  where
    by : (b : Bool) → list_any p xs ≡ b → b ≡ true
    by true f = refl
    by false f = absurd (true≢false (sym e ∙ any_false p xs f x c))

pub any_none : {X : Type 0} (p : X → Bool) (xs : List X) → ((x : X) → Contains xs x → p x ≡ false) → list_any p xs ≡ false
any_none p [] h = refl
any_none p (x ∷ xs) h = neither (p x) (list_any p xs) (h x (Contains-head x xs)) (any_none p xs (λ y c. h y (Contains-cons x xs y c)))

pub all_by : {X : Type 0} (P : X → Type 0) (xs : List X) → ((x : X) → Contains xs x → P x) → All P xs
all_by P xs h k d lt = h (get_or xs k d) (k, lt, same_default xs k (get_or xs k d) d lt)

-- ---- the first that a test finds
pub find_none : {X : Type 0} (p : X → Bool) (xs : List X) → find p xs ≡ None → (x : X) → Contains xs x → p x ≡ false
find_none p [] e x (k, lt, at) = absurd (Prim.omega (arith, lt))
find_none {X} p (y ∷ ys) e x c = by (p y) refl e (λ f d. find_none p ys f x d) (Contains-cases y ys x c)
  where
    by : (b : Bool) → p y ≡ b → cond b (Some y) (find p ys) ≡ None → (find p ys ≡ None → Contains ys x → p x ≡ false) → (y ≡ x) ⊎ Contains ys x → p x ≡ false
    by true t f more d = absurd Prim.cc
    by false t f more (inl g) = subst (λ z. p z ≡ false) g t
    by false t f more (inr d) = more f d

pub none_found : {X : Type 0} (p : X → Bool) (xs : List X) → ((x : X) → Contains xs x → p x ≡ false) → find p xs ≡ None
none_found p [] h = refl
none_found p (x ∷ xs) h = Prim.rw (h x (Contains-head x xs)) (none_found p xs (λ y c. h y (Contains-cons x xs y c)))

-- ---- reasons
mapped_none : {X Y : Type 0} (f : X → Y) (o : Option X) → option_map f o ≡ None → o ≡ None
mapped_none f None e = refl
mapped_none f (Some x) e = absurd Prim.cc

pub none_of : {X : Type 0} (because : X → Reason) (p : X → Bool) (xs : List X) → of_first because p xs ≡ None → (x : X) → Contains xs x → p x ≡ false
none_of because p xs e = find_none p xs (mapped_none because (find p xs) e)

pub of_none : {X : Type 0} (because : X → Reason) (p : X → Bool) (xs : List X) → ((x : X) → Contains xs x → p x ≡ false) → of_first because p xs ≡ None
of_none because p xs h = ap (option_map because) (none_found p xs h)

pub not_so : (b : Bool) (because : Reason) → where_so b because ≡ None → b ≡ false
not_so true because e = absurd Prim.cc
not_so false because e = refl

pub so_none : (b : Bool) (because : Reason) → b ≡ false → where_so b because ≡ None
so_none b because e = Prim.rw e refl

-- no reason comes first where there is none of each kind
abbrev pub AllNone : List (Option Reason) → Type 0
AllNone [] = Unit {0}
AllNone (o ∷ os) = (o ≡ None) × AllNone os

pub all_none : (os : List (Option Reason)) → first_of os ≡ None → AllNone os
all_none [] e = tt
all_none (None ∷ os) e = (refl, all_none os e)
all_none (Some r ∷ os) e = absurd Prim.cc

pub none_first : (os : List (Option Reason)) → AllNone os → first_of os ≡ None
none_first [] h = refl
none_first (o ∷ os) h = Prim.rw h.0 (none_first os h.1)

-- nor of two lists, where there is none of either
pub none_join : (os ps : List (Option Reason)) → NoneOf os → NoneOf ps → NoneOf (os ++ ps)
none_join [] ps e f = f
none_join (None ∷ os) ps e f = none_join os ps e f
none_join (Some r ∷ os) ps e f = absurd Prim.cc

-- the first of two lists
pub first_join : (os ps : List (Option Reason)) → first_of (os ++ ps) ≡ option_or (first_of os) (first_of ps)
first_join [] ps = refl
first_join (None ∷ os) ps = first_join os ps
first_join (Some r ∷ os) ps = refl

-- one that is told behind others of which there is none, and what is told behind these
pub first_at : (os ps : List (Option Reason)) (o : Option Reason) (why : Reason) → NoneOf os → o ≡ Some why → Some why ≡ first_of (os ++ o ∷ ps)
first_at os ps o why none is = sym (first_join os (o ∷ ps) ∙ ap (λ p. option_or p (first_of (o ∷ ps))) none ∙ ap (λ p. option_or p (first_of ps)) is)

pub first_after : (os ps : List (Option Reason)) → NoneOf os → first_of (os ++ ps) ≡ first_of ps
first_after os ps none = first_join os ps ∙ ap (λ p. option_or p (first_of ps)) none

pub or_none : (o : Option Reason) → option_or o None ≡ o
or_none None = refl
or_none (Some r) = refl

pub yes_none : (o : Option Reason) → verdict_of o ≡ Yes → o ≡ None
yes_none None e = refl
yes_none (Some r) e = absurd Prim.cc

pub none_yes : (o : Option Reason) → o ≡ None → verdict_of o ≡ Yes
none_yes o e = Prim.rw e refl

-- ---- blocks
pub outside_same : (y y' q q' : Fraction) → y ≡ y' → q ≡ q' → is_outside y q ≡ is_outside y' q'
outside_same y y' q q' e f = ap (λ z. is_outside z q) e ∙ ap (is_outside y') f

pub support_same : (s s' : Side) (p p' w w' q q' y y' : Fraction) → s ≡ s' → p ≡ p' → w ≡ w' → q ≡ q' → y ≡ y' → breaks_support s p w q y ≡ breaks_support s' p' w' q' y'
support_same s s' p p' w w' q q' y y' a b c d e =
    ap (λ z. breaks_support z p w q y) a ∙ ap (λ z. breaks_support s' z w q y) b ∙ ap (λ z. breaks_support s' p' z q y) c ∙ ap (λ z. breaks_support s' p' w' z y) d ∙ ap (breaks_support s' p' w' q') e
