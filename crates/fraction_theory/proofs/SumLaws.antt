-- The laws of sums.
use Rattle.std.specs.Prelude.{◌≡◌, ℕ, ◌+◌, ◌<◌, pos, List, [], ◌∷◌, ◌++◌, length, map, take, refl}
use Rattle.std.proofs.Common.{get_or, ap, sym, ◌∙◌}
use Rattle.std.proofs.Math.Seq.{take-length}
use Rattle.std.proofs.lemmas.List.{take_more}
use mathlib.Core.Path.{ap₂}
use Rattle.fraction_theory.proofs.Ring.{by_ring, at, padd, nil_plus, times_nil}
use Rattle.fraction_theory.specs.Fraction.{Fraction, whole, ◌+ℚ◌, ◌*ℚ◌}
use Rattle.fraction_theory.proofs.FieldLaws.{ring_ℚ}
use Rattle.fraction_theory.specs.Order.{◌≤ℚ◌}
use Rattle.fraction_theory.specs.Sums.{sum_by, Term, Plain, Product, term_value, total, prefix}
use Rattle.fraction_theory.proofs.OrderLaws.{≤ℚ_refl, +ℚ-≤ℚ}
use Rattle.std.specs.List.{AllByRecursion}

pub sum_by-append : {T : Type 0} (f : T → Fraction) (xs ys : List T) → sum_by f (xs ++ ys) ≡ sum_by f xs +ℚ sum_by f ys
sum_by-append f [] ys = sym (nil_plus ring_ℚ (sum_by f ys))
sum_by-append f (x ∷ xs) ys = ap (λ t. f x +ℚ t) (sum_by-append f xs ys) ∙ sym (ring_ℚ.plus_assoc (f x) (sum_by f xs) (sum_by f ys))

pub sum_by-plus : {T : Type 0} (f g : T → Fraction) (xs : List T) → sum_by (λ x. f x +ℚ g x) xs ≡ sum_by f xs +ℚ sum_by g xs
sum_by-plus f g [] = sym (nil_plus ring_ℚ (whole (pos 0)))
sum_by-plus f g (x ∷ xs) = ap (λ t. (f x +ℚ g x) +ℚ t) (sum_by-plus f g xs)
    ∙ by_ring ring_ℚ (f x ∷ g x ∷ sum_by f xs ∷ sum_by g xs ∷ []) (padd (padd (at 0) (at 1)) (padd (at 2) (at 3))) (padd (padd (at 0) (at 2)) (padd (at 1) (at 3))) refl

pub sum_by-times : {T : Type 0} (k : Fraction) (f : T → Fraction) (xs : List T) → sum_by (λ x. k *ℚ f x) xs ≡ k *ℚ sum_by f xs
sum_by-times k f [] = sym (times_nil ring_ℚ k)
sum_by-times k f (x ∷ xs) = ap (λ t. (k *ℚ f x) +ℚ t) (sum_by-times k f xs) ∙ sym (ring_ℚ.times_plus k (f x) (sum_by f xs))

pub sum_by-nil : {T : Type 0} (xs : List T) → sum_by (λ x. whole (pos 0)) xs ≡ whole (pos 0)
sum_by-nil [] = refl
sum_by-nil (x ∷ xs) = nil_plus ring_ℚ (sum_by (λ y. whole (pos 0)) xs) ∙ sum_by-nil xs

-- sums in either order
pub sum_by-exchange : {S T : Type 0} (f : S → T → Fraction) (xs : List S) (ys : List T) → sum_by (λ x. sum_by (f x) ys) xs ≡ sum_by (λ y. sum_by (λ x. f x y) xs) ys
sum_by-exchange f [] ys = sym (sum_by-nil ys)
sum_by-exchange f (x ∷ xs) ys = ap (λ t. sum_by (f x) ys +ℚ t) (sum_by-exchange f xs ys) ∙ sym (sum_by-plus (f x) (λ y. sum_by (λ x. f x y) xs) ys)

pub sum_by-≤ : {T : Type 0} (f g : T → Fraction) (xs : List T) → AllByRecursion (λ x. f x ≤ℚ g x) xs → sum_by f xs ≤ℚ sum_by g xs
sum_by-≤ f g [] h = ≤ℚ_refl (whole (pos 0))
sum_by-≤ f g (x ∷ xs) h = +ℚ-≤ℚ (f x) (g x) (sum_by f xs) (sum_by g xs) h.0 (sum_by-≤ f g xs h.1)

pub sum_by-same : {T : Type 0} (f g : T → Fraction) (xs : List T) → ((x : T) → f x ≡ g x) → sum_by f xs ≡ sum_by g xs
sum_by-same f g [] h = refl
sum_by-same f g (x ∷ xs) h = ap₂ ◌+ℚ◌ (h x) (sum_by-same f g xs h)

-- sums of named terms
pub total-append : (ts us : List Term) → total (ts ++ us) ≡ total ts +ℚ total us
total-append ts us = sum_by-append term_value ts us

-- the total of a list's terms is the sum of their values
pub total-map : {T : Type 0} (t : T → Term) (xs : List T) → total (map t xs) ≡ sum_by (λ x. term_value (t x)) xs
total-map t [] = refl
total-map t (x ∷ xs) = ap (λ r. term_value (t x) +ℚ r) (total-map t xs)

pub total-Plain : {T : Type 0} (f : T → Fraction) (xs : List T) → total (map (λ x. Plain (f x)) xs) ≡ sum_by f xs
total-Plain f xs = total-map (λ x. Plain (f x)) xs

pub total-Product : {T : Type 0} (f g : T → Fraction) (xs : List T) → total (map (λ x. Product (f x) (g x)) xs) ≡ sum_by (λ x. f x *ℚ g x) xs
total-Product f g xs = total-map (λ x. Product (f x) (g x)) xs

-- prefix sums: of none, of one more, and of all
pub prefix-none : (ts : List Term) → prefix 0 ts ≡ whole (pos 0)
prefix-none ts = refl

pub prefix-more : (k : ℕ) (ts : List Term) (t : Term) → k < length ts → prefix (k + 1) ts ≡ prefix k ts +ℚ term_value (get_or ts k t)
prefix-more k ts t h =
    ap total (take_more ts k t h) ∙ total-append (take k ts) (get_or ts k t ∷ [])
    ∙ ap (λ r. prefix k ts +ℚ r) (ring_ℚ.plus_nil (term_value (get_or ts k t)))

pub prefix-all : (ts : List Term) → prefix (length ts) ts ≡ total ts
prefix-all ts = ap total (take-length ts)
