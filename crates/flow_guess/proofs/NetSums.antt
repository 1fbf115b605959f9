-- Sums over links and buses, taken one at a time.
use Rattle.std.specs.Prelude.{◌≡◌, ◌≢◌, ℕ, ◌+◌, ◌<◌, ◌==◌, Bool, true, false, not, ℤ, pos, ◌+ℤ◌, ◌-ℤ◌, neg_ℤ, negsuc, unsigned_abs, List, [], ◌∷◌, ◌++◌, length, map, take, get_or, if◌then◌else◌, Option, None, Some, IfSome, SomeIff, Result, IfOk, refl}
use Rattle.std.specs.List.{range_with_len}
use Rattle.std.proofs.Common.{arith, ap, sym, ◌∙◌, subst, inl, inr}
use Rattle.std.proofs.lemmas.Bool.Decides.{eqb_tells}
use Rattle.std.proofs.lemmas.Int.{ints}
use Rattle.std.proofs.lemmas.List.{take_more}
use Rattle.std.proofs.lemmas.List.FromFn.{map-range_with_len_more}
use Rattle.std.proofs.lemmas.Result.{IfOk-weaker}
use mathlib.Core.Path.{ap₂}
use Rattle.fraction_theory.specs.Fraction.{Fraction, whole, ◌+ℚ◌, ◌-ℚ◌}
use Rattle.fraction_theory.specs.Signs.{abs_ℚ}
use Rattle.fraction_theory.specs.Sums.{sum_by}
use Rattle.fraction_theory.proofs.Ring.{by_ring, at, pnil, pneg, ◌⊕◌}
use Rattle.fraction_theory.proofs.FieldLaws.{ring_ℚ, whole-neg, whole-+ℚ}
use Rattle.fraction_theory.proofs.OrderLaws.{whole-≤ℚ}
use Rattle.fraction_theory.proofs.SignLaws.{abs_above, abs_below}
use Rattle.fraction_theory.proofs.SumLaws.{sum_by-append, sum_by-same}
use Rattle.fraction_theory.proofs.ListSums.{kept, sum_by-filter}
use Rattle.network_theory.specs.Networks.{Branch, Network, net_outflow, places, others}
use Rattle.network_theory.proofs.SignedSums.{sum_by-minus}
use Rattle.flow_guess.specs.Guesses.{link_out}

pub whole_minus : (a b : ℤ) → whole (a -ℤ b) ≡ whole a -ℚ whole b
whole_minus a b = whole-+ℚ a (neg_ℤ b) ∙ ap (λ t. whole a +ℚ t) (whole-neg b)

pub whole_three : (a b c : ℤ) → whole (a +ℤ b -ℤ c) ≡ whole a +ℚ (whole b -ℚ whole c)
whole_three a b c = whole_minus (a +ℤ b) c ∙ ap (λ t. t -ℚ whole c) (whole-+ℚ a b) ∙ by_ring ring_ℚ (whole a ∷ whole b ∷ whole c ∷ []) ((at 0 ⊕ at 1) ⊕ pneg (at 2)) (at 0 ⊕ (at 1 ⊕ pneg (at 2))) refl

-- the size of a whole number
pub whole_size : (a : ℤ) → whole (pos (unsigned_abs a)) ≡ abs_ℚ (whole a)
whole_size (pos n) = sym (abs_above (whole (pos n)) (whole-≤ℚ (pos 0) (pos n) (Prim.omega (arith, ints))))
whole_size (negsuc n) = whole-neg (negsuc n) ∙ sym (abs_below (whole (negsuc n)) (whole-≤ℚ (negsuc n) (pos 0) (Prim.omega (arith, ints))))

-- what is taken where two places are the same, and where they are not
pub where_same : {T : Type 0} (w a : ℕ) (x y : T) → w ≡ a → (if w == a then x else y) ≡ x
where_same w a x y e = elim (eqb_tells w a) [ inl t ↦ ap (λ (b : Bool). if b then x else y) t.0 | inr t ↦ absurd (t.1 e) ]

pub where_other : {T : Type 0} (w a : ℕ) (x y : T) → w ≢ a → (if w == a then x else y) ≡ y
where_other w a x y n = elim (eqb_tells w a) [ inl t ↦ absurd (n t.1) | inr t ↦ ap (λ (b : Bool). if b then x else y) t.0 ]

-- a branch that neither begins nor ends at the bus
pub no_out : (bus : ℕ) (leaves enters : Branch → Fraction) (b : Branch) (x : Fraction) → b.from ≢ bus → b.to ≢ bus → x ≡ x +ℚ link_out bus leaves enters b
no_out bus leaves enters b x d e =
    let zero = whole (pos 0) in
    by_ring ring_ℚ (x ∷ []) (at 0) (at 0 ⊕ (pnil ⊕ pneg pnil)) refl
    ∙ ap₂ (λ s t. x +ℚ (s -ℚ t)) (sym (where_other b.from bus (leaves b) zero d)) (sym (where_other b.to bus (enters b) zero e))

sum_by-map : {S T : Type 0} (f : T → Fraction) (g : S → T) (xs : List S) → sum_by f (map g xs) ≡ sum_by (λ x. f (g x)) xs
sum_by-map f g [] = refl
sum_by-map f g (x ∷ xs) = ap (λ t. f (g x) +ℚ t) (sum_by-map f g xs)

-- one item more
pub sum_more : {S T : Type 0} (f : T → Fraction) (g : S → T) (xs : List S) (k : ℕ) (d : S) → k < length xs
    → sum_by f (map g (take (k + 1) xs)) ≡ sum_by f (map g (take k xs)) +ℚ f (g (get_or xs k d))
sum_more f g xs k d h =
    let x = get_or xs k d in
    sum_by-map f g (take (k + 1) xs)
    ∙ ap (sum_by (λ y. f (g y))) (take_more xs k d h)
    ∙ sum_by-append (λ y. f (g y)) (take k xs) (x ∷ [])
    ∙ ap₂ ◌+ℚ◌ (sym (sum_by-map f g (take k xs))) (ring_ℚ.plus_nil (f (g x)))

-- what leaves a bus over its branches one by one is what leaves it
pub out_is : (n : Network) (leaves enters : Branch → Fraction) (bus : ℕ) → sum_by (link_out bus leaves enters) n.branches ≡ net_outflow n leaves enters bus
out_is n leaves enters bus =
    sum_by-minus (λ (b : Branch). kept (b.from == bus) (leaves b)) (λ (b : Branch). kept (b.to == bus) (enters b)) n.branches
    ∙ ap₂ ◌-ℚ◌ (sym (sum_by-filter leaves (λ (b : Branch). b.from == bus) n.branches)) (sym (sum_by-filter enters (λ (b : Branch). b.to == bus) n.branches))

-- what a checked operation gives
pub of_checked : {X : Type 0} (p : X → Type 0) (o : Option X) (fits : Type 0) (v : X) → SomeIff o fits v → p v → IfSome o p
of_checked p None fits v h q = tt
of_checked p (Some x) fits v h q = subst p (sym h.1) q

-- one place more
range_more : (k : ℕ) → range_with_len 0 (k + 1) ≡ range_with_len 0 k ++ k ∷ []
range_more k =
    sym (map_same (range_with_len 0 (k + 1))) ∙ map-range_with_len_more (λ i. i) 0 k k (Prim.omega arith) ∙ ap (λ xs. xs ++ k ∷ []) (map_same (range_with_len 0 k))
  where
    map_same : (xs : List ℕ) → map (λ i. i) xs ≡ xs
    map_same [] = refl
    map_same (x ∷ xs) = ap (λ ys. x ∷ ys) (map_same xs)

pub sum_places_more : (f : ℕ → Fraction) (k : ℕ) → sum_by f (range_with_len 0 (k + 1)) ≡ sum_by f (range_with_len 0 k) +ℚ f k
sum_places_more f k = ap (sum_by f) (range_more k) ∙ sum_by-append f (range_with_len 0 k) (k ∷ []) ∙ ap (λ t. sum_by f (range_with_len 0 k) +ℚ t) (ring_ℚ.plus_nil (f k))

-- all buses but the reference
pub sum_others : (n : Network) (f : ℕ → Fraction) (reference : ℕ)
    → sum_by (λ bus. if bus == reference then whole (pos 0) else f bus) (places n) ≡ sum_by f (others n reference)
sum_others n f reference =
    sum_by-same (λ bus. if bus == reference then whole (pos 0) else f bus) (λ bus. kept (not (bus == reference)) (f bus)) (places n) (λ bus. turned (bus == reference) (f bus))
    ∙ sym (sum_by-filter f (λ bus. not (bus == reference)) (places n))
  where
    turned : (b : Bool) (x : Fraction) → (if b then whole (pos 0) else x) ≡ kept (not b) x
    turned true x = refl
    turned false x = refl

pub of_ok : {X Y : Type 0} (r : Result X Y) {P Q : X → Type 0} → IfOk r P → ((x : X) → P x → Q x) → IfOk r Q
of_ok r {P} {Q} h f = IfOk-weaker r P Q f h
