-- Sums over the places of a list and over filtered lists.
use Rattle.std.specs.Prelude.{ℤ, ◌+ℤ◌, length, slice_index_or, ◌≡◌, ◌≢◌, ℕ, ◌+◌, ◌<◌, ◌≤◌, ◌==◌, pos, Bool, true, false, List, [], ◌∷◌, ◌⊎◌, filter, refl}
use Rattle.std.specs.List.{range_with_len, AllByRecursion}
use Rattle.std.proofs.Common.{add-one, zero, suc, arith, ap, sym, ◌∙◌, inl, inr}
use Rattle.std.proofs.lemmas.Bool.Decides.{eqb_tells}
use mathlib.Core.Path.{ap₂}
use Rattle.fraction_theory.specs.Fraction.{Fraction, whole, ◌+ℚ◌, ◌*ℚ◌}
use Rattle.fraction_theory.specs.Sums.{sum_by}
use Rattle.fraction_theory.proofs.Ring.{nil_plus}
use Rattle.fraction_theory.proofs.FieldLaws.{ring_ℚ, whole-+ℚ}
use Rattle.fraction_theory.proofs.SumLaws.{sum_by-exchange, sum_by-same, sum_by-times}
use Rattle.fraction_theory.proofs.ListSums.{kept, sum_by-filter}
use Rattle.market_model.specs.Dispatch.{places}

-- what holds of each place holds along the list of places
range_all : (P : ℕ → Type 0) (s n : ℕ) → ((j : ℕ) → s ≤ j → j < s + n → P j) → AllByRecursion P (range_with_len s n)
range_all P s zero h = tt
range_all P s (suc n) h = (h s (Prim.omega arith) (Prim.omega arith), range_all P (s + 1) n (λ j p q. h j (Prim.omega arith) (Prim.omega arith)))

pub places_all : (P : ℕ → Type 0) (n : ℕ) → ((j : ℕ) → j < n → P j) → AllByRecursion P (places n)
places_all P n h = range_all P 0 n (λ j p q. h j (Prim.omega arith))

-- sums whose terms are the same along the list
pub sum_by-same_along : {T : Type 0} (f g : T → Fraction) (xs : List T) → AllByRecursion (λ x. f x ≡ g x) xs → sum_by f xs ≡ sum_by g xs
sum_by-same_along f g [] h = refl
sum_by-same_along f g (x ∷ xs) h = ap₂ ◌+ℚ◌ h.0 (sum_by-same_along f g xs h.1)

-- of a list of numbers that has a not, nothing is kept
no_place : (f : ℕ → Fraction) (a s n : ℕ) → a < s → sum_by (λ i. kept (a == i) (f i)) (range_with_len s n) ≡ whole (pos 0)
no_place f a s zero h = refl
no_place f a s (suc n) h = by_test (eqb_tells a s) (no_place f a (s + 1) n (Prim.omega arith))
  where
    by_test : ((a == s ≡ true) × (a ≡ s)) ⊎ ((a == s ≡ false) × (a ≢ s)) → sum_by (λ i. kept (a == i) (f i)) (range_with_len (s + 1) n) ≡ whole (pos 0)
        → kept (a == s) (f s) +ℚ sum_by (λ i. kept (a == i) (f i)) (range_with_len (s + 1) n) ≡ whole (pos 0)
    by_test (inl t) e = absurd (Prim.omega (arith, t.1))
    by_test (inr t) e = ap₂ ◌+ℚ◌ (ap (λ (b : Bool). kept b (f s)) t.0) e ∙ nil_plus ring_ℚ (whole (pos 0))

-- of one that has it, the term at a
one_place : (f : ℕ → Fraction) (a s n : ℕ) → s ≤ a → a < s + n → sum_by (λ i. kept (a == i) (f i)) (range_with_len s n) ≡ f a
one_place f a s zero h k = absurd (Prim.omega arith)
one_place f a s (suc n) h k = by_test (eqb_tells a s) (λ p. one_place f a (s + 1) n (Prim.omega arith) (Prim.omega arith))
  where
    by_test : ((a == s ≡ true) × (a ≡ s)) ⊎ ((a == s ≡ false) × (a ≢ s)) → (s < a → sum_by (λ i. kept (a == i) (f i)) (range_with_len (s + 1) n) ≡ f a)
        → kept (a == s) (f s) +ℚ sum_by (λ i. kept (a == i) (f i)) (range_with_len (s + 1) n) ≡ f a
    by_test (inl t) e = ap₂ ◌+ℚ◌ (ap (λ (b : Bool). kept b (f s)) t.0) (no_place f a (s + 1) n (Prim.omega (arith, t.1))) ∙ ring_ℚ.plus_nil (f s) ∙ ap f (sym t.1)
    by_test (inr t) e = ap₂ ◌+ℚ◌ (ap (λ (b : Bool). kept b (f s)) t.0) (e (Prim.omega (arith, t.1))) ∙ nil_plus ring_ℚ (f a)

pub sum_by-one_place : (f : ℕ → Fraction) (a n : ℕ) → a < n → sum_by (λ i. kept (a == i) (f i)) (places n) ≡ f a
sum_by-one_place f a n h = one_place f a 0 n (Prim.omega arith) (Prim.omega arith)

-- where each element stands at one of n places, the sum over the places of the sums at each is the sum over all
pub gather : {T : Type 0} (f : ℕ → T → Fraction) (at : T → ℕ) (n : ℕ) (xs : List T) → AllByRecursion (λ x. at x < n) xs
    → sum_by (λ i. sum_by (f i) (filter (λ x. at x == i) xs)) (places n) ≡ sum_by (λ x. f (at x) x) xs
gather {T} f at n xs h =
    sum_by-same (λ i. sum_by (f i) (filter (λ x. at x == i) xs)) (λ i. sum_by (λ x. kept (at x == i) (f i x)) xs) (places n) (λ i. sum_by-filter (f i) (λ x. at x == i) xs)
    ∙ sum_by-exchange (λ i x. kept (at x == i) (f i x)) (places n) xs
    ∙ sum_by-same_along (λ x. sum_by (λ i. kept (at x == i) (f i x)) (places n)) (λ x. f (at x) x) xs (each xs h)
  where
    each : (ys : List T) → AllByRecursion (λ x. at x < n) ys → AllByRecursion (λ x. sum_by (λ i. kept (at x == i) (f i x)) (places n) ≡ f (at x) x) ys
    each [] p = tt
    each (y ∷ ys) p = (sum_by-one_place (λ i. f i y) (at y) n p.0, each ys p.1)

-- the same with a factor for each place
pub gather_times : {T : Type 0} (g : ℕ → Fraction) (f : T → Fraction) (at : T → ℕ) (n : ℕ) (xs : List T) → AllByRecursion (λ x. at x < n) xs
    → sum_by (λ i. g i *ℚ sum_by f (filter (λ x. at x == i) xs)) (places n) ≡ sum_by (λ x. g (at x) *ℚ f x) xs
gather_times g f at n xs h =
    sum_by-same (λ i. g i *ℚ sum_by f (filter (λ x. at x == i) xs)) (λ i. sum_by (λ x. g i *ℚ f x) (filter (λ x. at x == i) xs)) (places n)
    (λ i. sym (sum_by-times (g i) f (filter (λ x. at x == i) xs)))
    ∙ gather (λ i x. g i *ℚ f x) at n xs h

-- the places from 1 are those from 0, each one more
range_shift : (f : ℕ → Fraction) (s n : ℕ) → sum_by f (range_with_len (s + 1) n) ≡ sum_by (λ j. f (suc j)) (range_with_len s n)
range_shift f s zero = refl
range_shift f s (suc n) = ap₂ ◌+ℚ◌ (ap f (add-one s)) (range_shift f (s + 1) n)

-- a sum over the places of a list is one over its elements
pub sum_by-places : {T : Type 0} (g : T → Fraction) (d : T) (xs : List T) → sum_by (λ j. g (slice_index_or xs j d)) (places (length xs)) ≡ sum_by g xs
sum_by-places g d [] = refl
sum_by-places g d (x ∷ xs) = ap (λ t. g x +ℚ t) (range_shift (λ j. g (slice_index_or (x ∷ xs) j d)) 0 (length xs) ∙ sum_by-places g d xs)

-- the sum of g over two lists in step
abbrev pub sum_in_step : {S T : Type 0} → (S → T → Fraction) → List S → List T → Fraction
sum_in_step g [] ys = whole (pos 0)
sum_in_step g (x ∷ xs) [] = whole (pos 0)
sum_in_step g (x ∷ xs) (y ∷ ys) = g x y +ℚ sum_in_step g xs ys

pub sum_in_step-places : {S T : Type 0} (g : S → T → Fraction) (d : S) (e : T) (xs : List S) (ys : List T) → length ys ≡ length xs
    → sum_by (λ j. g (slice_index_or xs j d) (slice_index_or ys j e)) (places (length xs)) ≡ sum_in_step g xs ys
sum_in_step-places g d e [] ys h = refl
sum_in_step-places g d e (x ∷ xs) [] h = absurd (Prim.omega (arith, h))
sum_in_step-places g d e (x ∷ xs) (y ∷ ys) h =
    ap (λ t. g x y +ℚ t) (range_shift (λ j. g (slice_index_or (x ∷ xs) j d) (slice_index_or (y ∷ ys) j e)) 0 (length xs) ∙ sum_in_step-places g d e xs ys (Prim.omega (arith, h)))

-- a sum of whole numbers, by any total of them that goes by the list
pub sum_by-whole : {T : Type 0} (f : T → ℤ) (added : List T → ℤ) → added [] ≡ pos 0 → ((x : T) (xs : List T) → added (x ∷ xs) ≡ f x +ℤ added xs)
    → (xs : List T) → sum_by (λ x. whole (f x)) xs ≡ whole (added xs)
sum_by-whole f added none more [] = ap whole (sym none)
sum_by-whole f added none more (x ∷ xs) = ap (λ t. whole (f x) +ℚ t) (sum_by-whole f added none more xs) ∙ sym (whole-+ℚ (f x) (added xs)) ∙ ap whole (sym (more x xs))
