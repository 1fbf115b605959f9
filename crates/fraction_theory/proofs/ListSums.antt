-- Sums over lists of names: by their members, over what a test keeps, at one name, and in any order.
use Rattle.std.specs.Prelude.{◌≡◌, ◌≢◌, ℕ, ◌==◌, pos, Bool, true, false, cond, List, [], ◌∷◌, ◌⊎◌, filter, refl}
use Rattle.std.specs.List.{Contains, AllPairs}
use Rattle.std.specs.List.Sorted.{IsStrictlyIncreasing}
use Rattle.std.proofs.lemmas.List.Kept.{AllPairs-filter, AllPairs-from_increasing}
use Rattle.std.proofs.Common.{zero, suc, arith, ap, sym, ◌∙◌, subst, inl, inr}
use Rattle.std.proofs.lemmas.Bool.Decides.{eqb_tells}
use mathlib.Core.Path.{ap₂}
use Rattle.fraction_theory.specs.Fraction.{Fraction, whole, ◌+ℚ◌}
use Rattle.fraction_theory.specs.Sums.{sum_by}
use Rattle.fraction_theory.proofs.Ring.{by_ring, at, padd, nil_plus}
use Rattle.fraction_theory.proofs.FieldLaws.{ring_ℚ}
use Rattle.fraction_theory.proofs.SumLaws.{sum_by-nil}

-- x where the test holds, else 0
abbrev pub kept : Bool → Fraction → Fraction
kept b x = cond b x (whole (pos 0))

-- the sum over what a test keeps is that of all, with 0 for the rest
pub sum_by-filter : {T : Type 0} (f : T → Fraction) (test : T → Bool) (xs : List T) → sum_by f (filter test xs) ≡ sum_by (λ x. kept (test x) (f x)) xs
sum_by-filter f test [] = refl
sum_by-filter {T} f test (x ∷ xs) = by_test (test x) (sum_by-filter f test xs)
  where
    by_test : (b : Bool) → sum_by f (filter test xs) ≡ sum_by (λ y. kept (test y) (f y)) xs
        → sum_by f (cond b (x ∷ filter test xs) (filter test xs)) ≡ kept b (f x) +ℚ sum_by (λ y. kept (test y) (f y)) xs
    by_test true e = ap (λ t. f x +ℚ t) e
    by_test false e = e ∙ sym (nil_plus ring_ℚ (sum_by (λ y. kept (test y) (f y)) xs))

pub Contains-head : {T : Type 0} (x : T) (xs : List T) → Contains (x ∷ xs) x
Contains-head x xs = (0, Prim.omega arith, refl)

pub Contains-cons : {T : Type 0} (x : T) (xs : List T) (y : T) → Contains xs y → Contains (x ∷ xs) y
Contains-cons x xs y c = (suc c.0, Prim.omega (arith, c.1), c.2)

pub Contains-cases : {T : Type 0} (x : T) (xs : List T) (y : T) → Contains (x ∷ xs) y → (x ≡ y) ⊎ Contains xs y
Contains-cases x xs y (zero, h, e) = inl e
Contains-cases x xs y (suc k, h, e) = inr (k, Prim.omega arith, e)

-- sums whose terms are the same at each member
pub sum_by-members : {T : Type 0} (f g : T → Fraction) (xs : List T) → ((x : T) → Contains xs x → f x ≡ g x) → sum_by f xs ≡ sum_by g xs
sum_by-members f g [] h = refl
sum_by-members f g (x ∷ xs) h = ap₂ ◌+ℚ◌ (h x (Contains-head x xs)) (sum_by-members f g xs (λ y c. h y (Contains-cons x xs y c)))

-- no name stands twice
abbrev pub Distinct : List ℕ → Type 0
Distinct xs = AllPairs (λ x y. x ≢ y) xs

pub Distinct-tail : (x : ℕ) (xs : List ℕ) → Distinct (x ∷ xs) → Distinct xs
Distinct-tail x xs h i j d p q = h (suc i) (suc j) d (Prim.omega arith) (Prim.omega arith)

pub Distinct-head : (x : ℕ) (xs : List ℕ) → Distinct (x ∷ xs) → ¬ (Contains xs x)
Distinct-head x xs h c = h 0 (suc c.0) x (Prim.omega arith) (Prim.omega (arith, c.1)) (sym c.2)

-- y at the name a, elsewhere what f is
abbrev pub put_at : {T : Type 0} → ℕ → T → (ℕ → T) → ℕ → T
put_at a y f w = cond (w == a) y (f w)

pub put_at-here : {T : Type 0} (a : ℕ) (y : T) (f : ℕ → T) (w : ℕ) → w ≡ a → put_at a y f w ≡ y
put_at-here a y f w e = elim (eqb_tells w a) [ inl t ↦ ap (λ (b : Bool). cond b y (f w)) t.0 | inr t ↦ absurd (t.1 e) ]

pub put_at-elsewhere : {T : Type 0} (a : ℕ) (y : T) (f : ℕ → T) (w : ℕ) → w ≢ a → put_at a y f w ≡ f w
put_at-elsewhere a y f w n = elim (eqb_tells w a) [ inl t ↦ absurd (n t.1) | inr t ↦ ap (λ (b : Bool). cond b y (f w)) t.0 ]

-- a number is a or is not
pub same_or_not : (w a : ℕ) → (w ≡ a) ⊎ (w ≢ a)
same_or_not w a = elim (eqb_tells w a) [ inl t ↦ inl t.1 | inr t ↦ inr t.1 ]

-- what f is, with 0 at the name a
abbrev pub except : ℕ → (ℕ → Fraction) → ℕ → Fraction
except a f w = put_at a (whole (pos 0)) f w

pub sum_by-absent : (f : ℕ → Fraction) (a : ℕ) (y : Fraction) (xs : List ℕ) → ¬ (Contains xs a) → sum_by (put_at a y f) xs ≡ sum_by f xs
sum_by-absent f a y xs n = sum_by-members (put_at a y f) f xs (λ w c. put_at-elsewhere a y f w (λ e. n (subst (λ (t : ℕ). Contains xs t) e c)))

-- the term of one name, and the others
pub sum_by-split : (f : ℕ → Fraction) (a : ℕ) (xs : List ℕ) → Distinct xs → Contains xs a → sum_by f xs ≡ f a +ℚ sum_by (except a f) xs
sum_by-split f a [] d c = absurd (Prim.omega (arith, c.1))
sum_by-split f a (x ∷ xs) d c = elim (same_or_not x a) [
  | inl e ↦ ap₂ ◌+ℚ◌ (ap f e) (sym (nil_plus ring_ℚ (sum_by f xs)))
      ∙ ap (λ t. f a +ℚ t) (sym (ap₂ ◌+ℚ◌ (put_at-here a (whole (pos 0)) f x e) (sum_by-absent f a (whole (pos 0)) xs (λ k. Distinct-head x xs d (subst (λ (t : ℕ). Contains xs t) (sym e) k)))))
  | inr n ↦ ap (λ t. f x +ℚ t) (sum_by-split f a xs (Distinct-tail x xs d) (elim (Contains-cases x xs a c) [ inl e ↦ absurd (n e) | inr k ↦ k ]))
      ∙ by_ring ring_ℚ (f x ∷ f a ∷ sum_by (except a f) xs ∷ []) (padd (at 0) (padd (at 1) (at 2))) (padd (at 1) (padd (at 0) (at 2))) refl
      ∙ ap (λ t. f a +ℚ (t +ℚ sum_by (except a f) xs)) (sym (put_at-elsewhere a (whole (pos 0)) f x n))
]

-- the same sum where only one name's term is not 0
pub sum_by-one : (f : ℕ → Fraction) (a : ℕ) (xs : List ℕ) → Distinct xs → Contains xs a → ((w : ℕ) → Contains xs w → w ≢ a → f w ≡ whole (pos 0)) → sum_by f xs ≡ f a
sum_by-one f a xs d c h =
    sum_by-split f a xs d c
    ∙ ap (λ t. f a +ℚ t)
    (sum_by-members (except a f) (λ _. whole (pos 0)) xs
    (λ w k. elim (same_or_not w a) [ inl e ↦ put_at-here a (whole (pos 0)) f w e | inr n ↦ put_at-elsewhere a (whole (pos 0)) f w n ∙ h w k n ])
    ∙ sum_by-nil xs)
    ∙ ring_ℚ.plus_nil (f a)

-- sums over two lists, where all of the first are in the second, and f is 0 at those of the second that the first lacks
pub sum_by-within : (f : ℕ → Fraction) (xs ys : List ℕ) → Distinct xs → Distinct ys → ((w : ℕ) → Contains xs w → Contains ys w)
    → ((w : ℕ) → Contains ys w → Contains xs w ⊎ (f w ≡ whole (pos 0))) → sum_by f xs ≡ sum_by f ys
sum_by-within f [] ys d e in' out = sym (sum_by-members f (λ _. whole (pos 0)) ys (λ w c. elim (out w c) [ inl k ↦ absurd (Prim.omega (arith, k.1)) | inr z ↦ z ]) ∙ sum_by-nil ys)
sum_by-within f (x ∷ xs) ys d e in' out =
    ap (λ t. f x +ℚ t)
    (sym (sum_by-absent f x (whole (pos 0)) xs (Distinct-head x xs d))
    ∙ sum_by-within (except x f) xs ys (Distinct-tail x xs d) e (λ w c. in' w (Contains-cons x xs w c))
    (λ w c. elim (same_or_not w x) [
      | inl s ↦ inr (put_at-here x (whole (pos 0)) f w s)
      | inr n ↦ elim (out w c) [
        | inl k ↦ elim (Contains-cases x xs w k) [ inl s ↦ absurd (n (sym s)) | inr m ↦ inl m ]
        | inr z ↦ inr (put_at-elsewhere x (whole (pos 0)) f w n ∙ z)
      ]
    ]))
    ∙ sym (sum_by-split f x ys e (in' x (Contains-head x xs)))

-- what a filter keeps
pub Contains-filter : {T : Type 0} (test : T → Bool) (xs : List T) (x : T) → Contains xs x → test x ≡ true → Contains (filter test xs) x
Contains-filter test [] x c t = absurd (Prim.omega (arith, c.1))
Contains-filter {T} test (y ∷ ys) x c t = by_test (test y) refl (λ k. Contains-filter test ys x k t)
  where
    by_test : (b : Bool) → test y ≡ b → (Contains ys x → Contains (filter test ys) x) → Contains (cond b (y ∷ filter test ys) (filter test ys)) x
    by_test true e more = elim (Contains-cases y ys x c) [
      | inl s ↦ subst (λ (z : T). Contains (y ∷ filter test ys) z) s (Contains-head y (filter test ys))
      | inr k ↦ Contains-cons y (filter test ys) x (more k)
    ]
    by_test false e more = elim (Contains-cases y ys x c) [
      | inl s ↦ let wrong : false ≡ true = sym e ∙ ap test s ∙ t in absurd cc
      | inr k ↦ more k
    ]

pub Contains-from_filter : {T : Type 0} (test : T → Bool) (xs : List T) (x : T) → Contains (filter test xs) x → Contains xs x × (test x ≡ true)
Contains-from_filter test [] x c = absurd (Prim.omega (arith, c.1))
Contains-from_filter {T} test (y ∷ ys) x c = by_test (test y) refl c (λ k. Contains-from_filter test ys x k)
  where
    later : Contains ys x × (test x ≡ true) → Contains (y ∷ ys) x × (test x ≡ true)
    later r = (Contains-cons y ys x r.0, r.1)

    by_test : (b : Bool) → test y ≡ b → Contains (cond b (y ∷ filter test ys) (filter test ys)) x → (Contains (filter test ys) x → Contains ys x × (test x ≡ true)) → Contains (y ∷ ys) x × (test x ≡ true)
    by_test true e k more = elim (Contains-cases y (filter test ys) x k) [
      | inl s ↦ (subst (λ (z : T). Contains (y ∷ ys) z) s (Contains-head y ys), sym (ap test s) ∙ e)
      | inr m ↦ later (more m)
    ]
    by_test false e k more = later (more k)

-- tests that agree at each member keep the same
pub filter-members : {T : Type 0} (p q : T → Bool) (xs : List T) → ((x : T) → Contains xs x → p x ≡ q x) → filter p xs ≡ filter q xs
filter-members p q [] h = refl
filter-members {T} p q (x ∷ xs) h =
    ap (λ (b : Bool). cond b (x ∷ filter p xs) (filter p xs)) (h x (Contains-head x xs))
    ∙ ap (λ (zs : List T). cond (q x) (x ∷ zs) zs) (filter-members p q xs (λ y c. h y (Contains-cons x xs y c)))

pub Distinct-filter : (test : ℕ → Bool) (xs : List ℕ) → Distinct xs → Distinct (filter test xs)
Distinct-filter test xs d = AllPairs-filter (λ x y. x ≢ y) test xs d

pub Distinct-increasing : (xs : List ℕ) → IsStrictlyIncreasing xs → Distinct xs
Distinct-increasing xs h i j d p q e = Prim.omega (arith, AllPairs-from_increasing xs h i j d p q, e)
