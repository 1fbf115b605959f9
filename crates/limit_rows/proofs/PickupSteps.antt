-- Steps of the factors of what is picked up.
use Rattle.std.specs.Prelude.{◌≡◌, ℕ, ◌+◌, ◌<◌, ◌≤◌, pos, Bool, true, false, cond, if◌then◌else◌, List, [], ◌∷◌, ◌++◌, map, filter, length, take, refl}
use Rattle.std.proofs.Common.{arith, ap, ap₂, sym, subst, ◌∙◌, get_or, drop}
use Rattle.std.proofs.lemmas.List.{get_or_append_left, length-append, map-append, take-append-drop, take-append-le, take_more, drop_more}
use Rattle.std.proofs.lemmas.List.Elements.{filter-append}
use Rattle.fraction_theory.specs.Fraction.{Fraction, whole, over, neg_ℚ, ◌+ℚ◌, ◌-ℚ◌}
use Rattle.fraction_theory.specs.Sums.{Term, Plain, Product, term_value, prefix, total}
use Rattle.fraction_theory.proofs.FieldLaws.{ring_ℚ, +ℚ_nil, over-same, over-one}
use Rattle.market_data.specs.Scales.{factor_one}
use Rattle.fraction_theory.proofs.SumLaws.{total-append}
use Rattle.exact_fraction.specs.declared.Op.{Op}
use Rattle.exact_fraction.specs.declared.Op.TheVariants.{Plus, Minus, Times}
use Rattle.exact_fraction.specs.declared.Passed.{Passed}
use Rattle.exact_fraction.specs.Passes.{IsTooLarge}
use Rattle.market_model.specs.NamedSums.{IsNextTerm, IsRefusal, IsRefusedIn, IsShareRefusal, IsSumStep, SameSize, term_at}
use Rattle.market_model.proofs.SumSteps.{minus_at, share_at}
use Rattle.fraction_theory.proofs.Ring.{by_ring, at, pneg}
use Rattle.std.proofs.lemmas.Bool.{eq-eqb}
use Rattle.market_model.specs.declared.limits.Cause.{Cause}
use Rattle.market_model.specs.declared.limits.Cause.TheVariants.{Base, Branch, UnitOutage}
use Rattle.market_model.specs.declared.limits.Row.{Row}
use Rattle.market_model.specs.declared.participants.Parts.{Parts}
use Rattle.market_model.specs.Dispatch.{unit_at}
use Rattle.market_model.specs.LimitRows.{loses_unit, lost_unit, pickup_factor, pickup_terms, row_factor, shift_factor, taker_factor, taker_terms, unit_factor, unit_factor_under}

-- a factor of 0
pub no_factor : over (pos 0) factor_one ≡ whole (pos 0)
no_factor = over-same (pos 0) (pos 0) factor_one 1 (Prim.omega arith) (Prim.omega arith) refl ∙ over-one (pos 0)

-- ---- terms of what passes a test, one element more
module _ {T : Type 0} (test : T → Bool) (term : T → Term) (xs : List T) (i : ℕ) (x : T) (inside : i < length xs) (at : x ≡ get_or xs i x) where
  one_more : take (i + 1) xs ≡ take i xs ++ x ∷ []
  one_more = take_more xs i x inside ∙ ap (λ (y : T). take i xs ++ y ∷ []) (sym at)

  passing_more : (sum : Fraction) → test x ≡ true → sum ≡ total (map term (filter test (take i xs))) +ℚ term_value (term x) → sum ≡ total (map term (filter test (take (i + 1) xs)))
  passing_more sum passes e =
      e ∙ ap (λ t. total (map term (filter test (take i xs))) +ℚ t) (sym (+ℚ_nil (term_value (term x))))
      ∙ sym (total-append (map term (filter test (take i xs))) (term x ∷ []))
      ∙ ap total (sym (ap (map term) kept ∙ map-append term (filter test (take i xs)) (x ∷ [])))
    where
      kept : filter test (take (i + 1) xs) ≡ filter test (take i xs) ++ x ∷ []
      kept = ap (filter test) one_more ∙ filter-append test (take i xs) (x ∷ []) ∙ ap (λ (b : Bool). filter test (take i xs) ++ cond b (x ∷ []) []) passes

  failing_more : test x ≡ false → map term (filter test (take i xs)) ≡ map term (filter test (take (i + 1) xs))
  failing_more fails =
      sym (ap (map term) (ap (filter test) one_more ∙ filter-append test (take i xs) (x ∷ []) ∙ ap (λ (b : Bool). filter test (take i xs) ++ cond b (x ∷ []) []) fails)
      ∙ map-append term (filter test (take i xs)) [] ∙ none (map term (filter test (take i xs))))
    where
      none : (ts : List Term) → ts ++ [] ≡ ts
      none [] = refl
      none (t ∷ ts) = ap (λ us. t ∷ us) (none ts)

  pub tested_more : (b : Bool) → test x ≡ b → (old new : Fraction) → old ≡ total (map term (filter test (take i xs))) → new ≡ old +ℚ (if b then term_value (term x) else whole (pos 0))
      → new ≡ total (map term (filter test (take (i + 1) xs)))
  tested_more true is old new before e = passing_more new is (e ∙ ap (λ t. t +ℚ term_value (term x)) before)
  tested_more false is old new before e = e ∙ +ℚ_nil old ∙ before ∙ ap total (failing_more is)

  -- all terms, with its own at its place
  all_at : test x ≡ true → map term (filter test xs) ≡ map term (filter test (take i xs)) ++ term x ∷ map term (filter test (drop (i + 1) xs))
  all_at passes =
      ap (λ (ys : List T). map term (filter test ys)) (split ∙ ap (λ (y : T). take i xs ++ y ∷ drop (i + 1) xs) (sym at))
      ∙ ap (map term) (filter-append test (take i xs) (x ∷ drop (i + 1) xs) ∙ ap (λ (b : Bool). filter test (take i xs) ++ cond b (x ∷ filter test (drop (i + 1) xs)) (filter test (drop (i + 1) xs))) passes)
      ∙ map-append term (filter test (take i xs)) (x ∷ filter test (drop (i + 1) xs))
    where
      split : xs ≡ take i xs ++ get_or xs i x ∷ drop (i + 1) xs
      split = sym (take-append-drop i xs) ∙ ap (λ (ys : List T). take i xs ++ ys) (drop_more xs i x inside)

  pub passing_refused : (a b sum : Fraction) (bound : ℕ) (p : Passed Fraction) → test x ≡ true → term x ≡ Product a b → sum ≡ total (map term (filter test (take i xs))) → IsShareRefusal sum a b bound p
      → IsRefusedIn (map term (filter test xs)) bound p
  passing_refused a b sum bound p passes product before why =
      share_at (map term (filter test xs)) (map term (filter test (take i xs))) (map term (filter test (drop (i + 1) xs))) (term x) (all_at passes) bound p sum a b product before why

-- ---- what is refused in the first terms is refused in all
module _ (front rest : List Term) (bound : ℕ) (p : Passed Fraction) where
  prefix_same : (k : ℕ) → k ≤ length front → prefix k front ≡ prefix k (front ++ rest)
  prefix_same k h = ap total (sym (take-append-le k front rest h))

  term_same : (k : ℕ) → k < length front → term_at front k ≡ term_at (front ++ rest) k
  term_same k h = sym (get_or_append_left front rest (Plain (whole (pos 0))) k h)

  pub refused_in_front : IsRefusedIn front bound p → IsRefusedIn (front ++ rest) bound p
  refused_in_front h = record {
    place = h.place;
    step = by p.op h.step;
    passes = h.passes;
    too_large = subst (IsTooLarge bound) (prefix_same (h.place + 1) (Prim.omega (arith, inside p.op h.step))) h.too_large;
  }
    where
      inside : (op : Op) → IsSumStep front op p.left p.right h.place → h.place < length front
      inside Plus s = s.inside
      inside Minus s = s.inside
      inside Times s = s.2.inside

      longer : h.place < length front → h.place < length (front ++ rest)
      longer lt = Prim.omega (arith, lt, length-append front rest)

      next : {op : Op} → IsNextTerm front op p.left p.right h.place → IsNextTerm (front ++ rest) op p.left p.right h.place
      next {op} n = record {
        inside = longer n.inside;
        before = subst (SameSize p.left) (prefix_same h.place (Prim.omega (arith, n.inside))) n.before;
        next = subst (λ t. SameSize p.right (term_value t)) (term_same h.place n.inside) n.next;
        after = subst (SameSize (Rattle.exact_fraction.specs.Passes.outcome op p.left p.right)) (prefix_same (h.place + 1) (Prim.omega (arith, n.inside))) n.after;
      }

      by : (op : Op) → IsSumStep front op p.left p.right h.place → IsSumStep (front ++ rest) op p.left p.right h.place
      by Plus s = next s
      by Minus s = next s
      by Times s = (s.0, s.1, record { inside = longer s.2.inside; product = sym (term_same h.place s.2.inside) ∙ s.2.product; sides = s.2.sides })

-- ---- the factor of a unit
module _ (m : Parts) (r : Row) (u : ℕ) where
  pub factor_not_lost : loses_unit m u r.cause ≡ false → row_factor m r (unit_at m u).bus ≡ unit_factor m r u
  factor_not_lost none = by r.cause none
    where
      by : (c : Cause) → loses_unit m u c ≡ false → row_factor m r (unit_at m u).bus ≡ unit_factor_under m r.line c u (row_factor m r (unit_at m u).bus)
      by Base e = refl
      by (Branch k) e = refl
      by (UnitOutage k) e = Prim.rw e refl

  pub factor_lost : (k : ℕ) → r.cause ≡ UnitOutage k → lost_unit m k ≡ u → taker_factor m r.line k ≡ unit_factor m r u
  factor_lost k is e =
      ap (λ (b : Bool). if b then taker_factor m r.line k else row_factor m r (unit_at m u).bus) (sym (eq-eqb (lost_unit m k) u e))
      ∙ ap (λ (c : Cause). unit_factor_under m r.line c u (row_factor m r (unit_at m u).bus)) (sym is)

-- ---- the pickup factor: that of the takers, less that of the lost unit's own bus
module _ (m : Parts) (l k : ℕ) (taken own : Fraction) (taken_is : taken ≡ taker_factor m l k) (own_is : own ≡ shift_factor m l (unit_at m (lost_unit m k)).bus) where
  pub less_own : (left : Fraction) → left ≡ taken -ℚ own → left ≡ pickup_factor m l k
  unfolding taker_factor pickup_factor
  less_own left e =
      e ∙ ap₂ ◌-ℚ◌ taken_is own_is
      ∙ ap (λ t. taker_factor m l k +ℚ t) (sym (+ℚ_nil (neg_ℚ (shift_factor m l (unit_at m (lost_unit m k)).bus))))
      ∙ sym (total-append (taker_terms m l k) (Plain (neg_ℚ (shift_factor m l (unit_at m (lost_unit m k)).bus)) ∷ []))

  pub less_refused : (bound : ℕ) (p : Passed Fraction) → IsRefusal Minus taken own bound p → IsRefusedIn (pickup_terms m l k) bound p
  unfolding taker_factor
  less_refused bound p why =
      minus_at (pickup_terms m l k) (taker_terms m l k) [] (Plain (neg_ℚ (shift_factor m l (unit_at m (lost_unit m k)).bus))) refl bound p taken own taken_is
      (own_is ∙ by_ring ring_ℚ (shift_factor m l (unit_at m (lost_unit m k)).bus ∷ []) (at 0) (pneg (pneg (at 0))) refl) why
