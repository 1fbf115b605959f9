-- Operations that are refused where terms are added up, one by one.
use Rattle.std.specs.Prelude.{◌≡◌, ◌⊎◌, ℕ, ◌+◌, ◌<◌, pos, Bool, true, List, [], ◌∷◌, ◌++◌, map, filter, cond, length, refl}
use Rattle.std.specs.List.{range_with_len}
use Rattle.std.proofs.Common.{zero, suc, arith, ap, ap₂, sym, ◌∙◌, subst, subst₂, inl, inr, append_assoc, length-append, take}
use Rattle.std.proofs.Math.Seq.{get_or-append_seam}
use Rattle.std.proofs.lemmas.List.{map-append}
use Rattle.std.proofs.lemmas.List.Elements.{filter-append}
use Rattle.fraction_theory.specs.Fraction.{Fraction, whole, neg_ℚ, unsigned_abs-neg, ◌+ℚ◌, ◌-ℚ◌, ◌*ℚ◌}
use Rattle.fraction_theory.specs.Sums.{Term, Plain, Product, term_value, total, prefix}
use Rattle.fraction_theory.proofs.FieldLaws.{ring_ℚ, +ℚ_nil}
use Rattle.fraction_theory.proofs.Ring.{by_ring, at, pmul, pneg, pnil, ◌⊕◌, neg_neg}
use Rattle.fraction_theory.proofs.SumLaws.{prefix-more}
use Rattle.exact_fraction.specs.declared.Op.{Op}
use Rattle.exact_fraction.specs.declared.Op.TheVariants.{Plus, Minus, Times}
use Rattle.exact_fraction.specs.declared.Passed.{Passed}
use Rattle.exact_fraction.specs.Passes.{IsPassed, IsTooLarge, IsTooLargeAt, ProductPasses, outcome}
use Rattle.exact_fraction.proofs.Shares.{passes_at}
use Rattle.market_model.specs.Dispatch.{places}
use Rattle.market_model.specs.NamedSums.{SameSize, term_at, IsNextTerm, IsSumStep, IsRefusedIn, IsRefusal, IsShareRefusal, two_terms}
use Rattle.market_model.specs.Valued.{passed_at}

-- what a refused operation of numbers is of their values
pub refusal : {N : Type 0} (value : N → Fraction) (bound : ℕ) (op : Op) (l r : N) (x y : Fraction) (e : Passed N) → value l ≡ x → value r ≡ y
    → IsTooLargeAt value bound op l r e → IsRefusal op x y bound (passed_at value e)
refusal value bound op l r x y e left right h =
    record {
      same_op = h.passed.same_op;
      same_left = ap value h.passed.same_left ∙ left;
      same_right = ap value h.passed.same_right ∙ right;
      passes = passes_at value bound op l r e h.passed;
      too_large = subst₂ (λ (a b : Fraction). IsTooLarge bound (outcome op a b)) left right h.too_large;
    }

-- a product that passes the bound is too large
pub product_too_large : {N : Type 0} (value : N → Fraction) (bound : ℕ) (l r : N) (e : Passed N) → IsPassed value bound Times l r e → IsTooLargeAt value bound Times l r e
unfolding ProductPasses
product_too_large value bound l r e h = record { too_large = h.passes; passed = h }

-- the same of sides that have the same values
pub refusal_same : (op : Op) (x y x' y' : Fraction) (bound : ℕ) (p : Passed Fraction) → x ≡ x' → y ≡ y' → IsRefusal op x y bound p → IsRefusal op x' y' bound p
refusal_same op x y x' y' bound p e f h = record {
  same_op = h.same_op;
  same_left = h.same_left ∙ e;
  same_right = h.same_right ∙ f;
  passes = h.passes;
  too_large = subst₂ (λ (a b : Fraction). IsTooLarge bound (outcome op a b)) e f h.too_large;
}

-- a number is too large where its opposite is
too_large_same : (bound : ℕ) (x y : Fraction) → SameSize x y → IsTooLarge bound x → IsTooLarge bound y
unfolding neg_ℚ
too_large_same bound x y (inl e) h = subst (IsTooLarge bound) e h
too_large_same bound x y (inr e) h =
    subst (λ (n : ℕ). (bound < n) ⊎ (bound < y.den)) (unsigned_abs-neg y.num) (subst (IsTooLarge bound) e h)

-- terms with one of them in the middle
module _ (terms front rest : List Term) (t : Term) (split : terms ≡ front ++ t ∷ rest) where
  inside : length front < length terms
  inside = let long : length terms ≡ length front + length (t ∷ rest) = ap length split ∙ length-append front (t ∷ rest) in Prim.omega (arith, long)

  before : prefix (length front) terms ≡ total front
  before = ap (λ ts. prefix (length front) ts) split ∙ ap total (take_front front (t ∷ rest))
    where
      take_front : (xs ys : List Term) → take (length xs) (xs ++ ys) ≡ xs
      take_front [] ys = refl
      take_front (x ∷ xs) ys = ap (λ zs. x ∷ zs) (take_front xs ys)

  here : term_at terms (length front) ≡ t
  here = ap (λ ts. term_at ts (length front)) split ∙ get_or-append_seam front t rest (Plain (whole (pos 0)))

  all_is : prefix (length front + 1) terms ≡ total front +ℚ term_value t
  all_is = prefix-more (length front) terms (Plain (whole (pos 0))) inside ∙ ap₂ ◌+ℚ◌ before (ap term_value here)

  next_is : (op : Op) (l r : Fraction) → SameSize l (total front) → SameSize r (term_value t) → SameSize (outcome op l r) (total front +ℚ term_value t) → IsNextTerm terms op l r (length front)
  next_is op l r left right all = record {
    inside = inside;
    before = subst (SameSize l) (sym before) left;
    next = subst (λ (u : Term). SameSize r (term_value u)) (sym here) right;
    after = subst (SameSize (outcome op l r)) (sym all_is) all;
  }

  module _ (bound : ℕ) (p : Passed Fraction) where
    stepped : (op : Op) (l r : Fraction) → IsSumStep terms op l r (length front) → SameSize (outcome op l r) (prefix (length front + 1) terms) → IsRefusal op l r bound p → IsRefusedIn terms bound p
    stepped op l r step after h = record {
      place = length front;
      step =
          subst (λ (o : Op). IsSumStep terms o p.left p.right (length front)) (sym h.same_op)
          (subst₂ (λ (a b : Fraction). IsSumStep terms op a b (length front)) (sym h.same_left) (sym h.same_right) step);
      passes = h.passes;
      too_large = too_large_same bound (outcome op l r) (prefix (length front + 1) terms) after h.too_large;
    }

    -- the term is added
    pub plus_at : (l r : Fraction) → l ≡ total front → r ≡ term_value t → IsRefusal Plus l r bound p → IsRefusedIn terms bound p
    plus_at l r left right h = let n = next_is Plus l r (inl left) (inl right) (inl (ap₂ ◌+ℚ◌ left right)) in stepped Plus l r n n.after h

    -- its opposite is subtracted
    pub minus_at : (l r : Fraction) → l ≡ total front → r ≡ neg_ℚ (term_value t) → IsRefusal Minus l r bound p → IsRefusedIn terms bound p
    minus_at l r left right h =
        let all = ap₂ ◌-ℚ◌ left right ∙ by_ring ring_ℚ (total front ∷ term_value t ∷ []) (at 0 ⊕ pneg (pneg (at 1))) (at 0 ⊕ at 1) refl in
        let n = next_is Minus l r (inl left) (inr right) (inl all) in
        stepped Minus l r n n.after h

    -- a product is added
    pub share_at : (sum a b : Fraction) → t ≡ Product a b → sum ≡ total front → IsShareRefusal sum a b bound p → IsRefusedIn terms bound p
    share_at sum a b product is h = record {
      place = length front;
      step = by h.way;
      passes = h.passes;
      too_large = subst (IsTooLarge bound) (sym sum_is) h.too_large;
    }
      where
        made : term_value t ≡ a *ℚ b
        made = ap term_value product

        sum_is : prefix (length front + 1) terms ≡ sum +ℚ a *ℚ b
        sum_is = all_is ∙ ap₂ ◌+ℚ◌ (sym is) made

        by : ((p.op ≡ Times) × (p.left ≡ a) × (p.right ≡ b)) ⊎ ((p.op ≡ Plus) × (p.left ≡ sum) × (p.right ≡ a *ℚ b)) → IsSumStep terms p.op p.left p.right (length front)
        by (inl (op, left, right)) =
            subst (λ (o : Op). IsSumStep terms o p.left p.right (length front)) (sym op)
            (a, b, record { inside = inside; product = here ∙ product; sides = inl (inl left, inl right) })
        by (inr (op, left, right)) =
            subst (λ (o : Op). IsSumStep terms o p.left p.right (length front)) (sym op)
            (next_is Plus p.left p.right (inl (left ∙ is)) (inl (right ∙ sym made)) (inl (ap₂ ◌+ℚ◌ (left ∙ is) (right ∙ sym made))))

    -- a product is made where nothing is in front
    pub product_at : (a b : Fraction) → t ≡ Product a b → whole (pos 0) ≡ total front → IsRefusal Times a b bound p → IsRefusedIn terms bound p
    product_at a b product none h =
        share_at (whole (pos 0)) a b product none (record {
          too_large = subst (IsTooLarge bound) (by_ring ring_ℚ (a ∷ b ∷ []) (pmul (at 0) (at 1)) (pnil ⊕ pmul (at 0) (at 1)) refl) h.too_large;
          passes = h.passes;
          way = inl (h.same_op, h.same_left, h.same_right);
        })

-- two numbers are added, or one is subtracted from the other
pub two_refused : (x y l r : Fraction) (bound : ℕ) (p : Passed Fraction) → l ≡ x → r ≡ y → IsRefusal Plus l r bound p → IsRefusedIn (two_terms x y) bound p
two_refused x y l r bound p left right h = plus_at (two_terms x y) (Plain x ∷ []) [] (Plain y) refl bound p l r (left ∙ sym (+ℚ_nil x)) right h

pub difference_refused : (x y l r : Fraction) (bound : ℕ) (p : Passed Fraction) → l ≡ x → r ≡ y → IsRefusal Minus l r bound p → IsRefusedIn (two_terms x (neg_ℚ y)) bound p
difference_refused x y l r bound p left right h = minus_at (two_terms x (neg_ℚ y)) (Plain x ∷ []) [] (Plain (neg_ℚ y)) refl bound p l r (left ∙ sym (+ℚ_nil x)) (right ∙ sym (neg_neg ring_ℚ y)) h

-- the places from one on
range_at : (a n k : ℕ) → k < n → (rest : List ℕ) × (range_with_len a n ≡ range_with_len a k ++ (a + k) ∷ rest)
range_at a zero k h = absurd (Prim.omega (arith, h))
range_at a (suc n) zero h = let e : a + 0 ≡ a = Prim.omega arith in (range_with_len (a + 1) n, ap (λ (i : ℕ). i ∷ range_with_len (a + 1) n) (sym e))
range_at a (suc n) (suc k) h =
    let more = range_at (a + 1) n k (Prim.omega (arith, h)) in
    let e : (a + 1) + k ≡ a + suc k = Prim.omega arith in
    (more.0, ap (λ is. a ∷ is) (more.1 ∙ ap (λ (i : ℕ). range_with_len (a + 1) k ++ i ∷ more.0) e))

pub places_at : (n k : ℕ) → k < n → (rest : List ℕ) × (places n ≡ places k ++ k ∷ rest)
places_at n k h = let r = range_at 0 n k h in let e : 0 + k ≡ k = Prim.omega arith in (r.0, r.1 ∙ ap (λ (i : ℕ). places k ++ i ∷ r.0) e)

-- terms by place
pub terms_at : (f : ℕ → Term) (n k : ℕ) → k < n → (rest : List Term) × (map f (places n) ≡ map f (places k) ++ f k ∷ rest)
terms_at f n k h = let r = places_at n k h in (map f r.0, ap (map f) r.1 ∙ map-append f (places k) (k ∷ r.0))

-- terms of the places that pass a test
pub tested_at : (p : ℕ → Bool) (f : ℕ → Term) (n k : ℕ) → k < n → p k ≡ true → (rest : List Term) × (map f (filter p (places n)) ≡ map f (filter p (places k)) ++ f k ∷ rest)
tested_at p f n k h e =
    let r = places_at n k h in (
      map f (filter p r.0),
      ap (λ is. map f (filter p is)) r.1
          ∙ ap (map f) (filter-append p (places k) (k ∷ r.0) ∙ ap (λ (b : Bool). filter p (places k) ++ cond b (k ∷ filter p r.0) (filter p r.0)) e)
          ∙ map-append f (filter p (places k)) (k ∷ filter p r.0),
    )

-- more terms in front and behind
pub behind : (front' terms front rest : List Term) (t : Term) → terms ≡ front ++ t ∷ rest → front' ++ terms ≡ (front' ++ front) ++ t ∷ rest
behind front' terms front rest t e = ap (λ ts. front' ++ ts) e ∙ sym (append_assoc front' front (t ∷ rest))

pub in_front : (terms front rest rest' : List Term) (t : Term) → terms ≡ front ++ t ∷ rest → terms ++ rest' ≡ front ++ t ∷ (rest ++ rest')
in_front terms front rest rest' t e = ap (λ ts. ts ++ rest') e ∙ append_assoc front (t ∷ rest) rest'
