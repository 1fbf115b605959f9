-- The discrete maximum principle: a least angle is the neighbours' too, along each chain to the reference.
use Rattle.std.specs.Prelude.{◌≡◌, ℕ, ◌<◌, ◌==◌, pos, true, List, [], ◌∷◌, filter, refl}
use Rattle.std.specs.List.{Contains}
use Rattle.std.proofs.Common.{zero, suc, arith, ap, sym, subst, inl, inr}
use Rattle.std.proofs.lemmas.Bool.Decides.{eqb_tells}
use Rattle.fraction_theory.specs.Fraction.{Fraction, whole, neg_ℚ}
use Rattle.fraction_theory.specs.Order.{◌≤ℚ◌}
use Rattle.fraction_theory.specs.Sums.{sum_by}
use Rattle.fraction_theory.proofs.Ring.{at, pnil, pone, pneg, ◌⊕◌}
use Rattle.fraction_theory.proofs.OrderLaws.{≤ℚ_of_same, ≤ℚ_trans, ≤ℚ_total, by_le1, by_le2, NonNeg-one}
use Rattle.fraction_theory.proofs.ListSums.{Contains-filter, Contains-from_filter, same_or_not}
use Rattle.network_theory.specs.Networks.{Branch, Network, IsTheoryNetwork, flow, leaving, entering, injection, AreNeighbours, Lead, IsConnected}
use Rattle.network_theory.proofs.SignedSums.{sum_above, term_within, sum_by-neg}
use Rattle.network_theory.proofs.FlowSigns.{falls, rises, carried_down, carried_back}

test_holds : (w i : ℕ) → w ≡ i → (w == i) ≡ true
test_holds w i e = elim (eqb_tells w i) [ inl t ↦ t.0 | inr t ↦ absurd (t.1 e) ]

test_tells : (w i : ℕ) → (w == i) ≡ true → w ≡ i
test_tells w i e = elim (eqb_tells w i) [ inl t ↦ t.1 | inr t ↦ absurd (Prim.cc) ]

-- no bus has a lesser angle
pub record IsLeast (n : Network) (angle : ℕ → Fraction) (i : ℕ) : Type 0 where
  pub within : i < n.buses
  pub least : (j : ℕ) → j < n.buses → angle i ≤ℚ angle j

-- of finitely many numbers one is the least
least_of : (angle : ℕ → Fraction) (k : ℕ) → (m : ℕ) × (m < suc k) × ((j : ℕ) → j < suc k → angle m ≤ℚ angle j)
least_of angle zero = (0, Prim.omega arith, λ j h. ≤ℚ_of_same (angle 0) (angle j) (ap angle (Prim.omega (arith, h))))
least_of angle (suc k) = by_order (least_of angle k)
  where
    by_order : (m : ℕ) × (m < suc k) × ((j : ℕ) → j < suc k → angle m ≤ℚ angle j) → (m : ℕ) × (m < suc (suc k)) × ((j : ℕ) → j < suc (suc k) → angle m ≤ℚ angle j)
    by_order r = elim (≤ℚ_total (angle r.0) (angle (suc k))) [
      | inl p ↦ (
        r.0,
        Prim.omega (arith, r.1),
        λ j h. elim (same_or_not j (suc k)) [
          | inl e ↦ subst (λ (t : ℕ). angle r.0 ≤ℚ angle t) (sym e) p
          | inr d ↦ r.2 j (Prim.omega (arith, h, d))
        ],
      )
      | inr p ↦ (
        suc k,
        Prim.omega arith,
        λ j h. elim (same_or_not j (suc k)) [
          | inl e ↦ ≤ℚ_of_same (angle (suc k)) (angle j) (ap angle (sym e))
          | inr d ↦ ≤ℚ_trans (angle (suc k)) (angle r.0) (angle j) p (r.2 j (Prim.omega (arith, h, d)))
        ],
      )
    ]

least_place : (n : Network) (angle : ℕ → Fraction) (i : ℕ) → i < n.buses → (m : ℕ) × IsLeast n angle m
least_place n angle i h = by_count n.buses refl
  where
    by_count : (k : ℕ) → k ≡ n.buses → (m : ℕ) × IsLeast n angle m
    by_count zero e = absurd (Prim.omega (arith, e, h))
    by_count (suc k) e =
        let r = least_of angle k in
        (r.0, record { within = subst (λ (t : ℕ). r.0 < t) e r.1; least = λ j l. r.2 j (subst (λ (t : ℕ). j < t) (sym e) l) })

module _ (n : Network) (angle : ℕ → Fraction) (is : IsTheoryNetwork n) where
  -- at a bus of the least angle, what leaves is at most 0 over each branch from it, and what enters at least 0 over each to it
  module _ (i : ℕ) (l : IsLeast n angle i) (h : whole (pos 0) ≤ℚ injection n angle i) where
    from_here : (b : Branch) → Contains (filter (λ b. b.from == i) n.branches) b → whole (pos 0) ≤ℚ neg_ℚ (flow angle b)
    from_here b c =
        let k = Contains-from_filter (λ b. b.from == i) n.branches b c in
        let one = is.branches b k.0 in
        let low : angle b.from ≤ℚ angle b.to = subst (λ (t : ℕ). angle t ≤ℚ angle b.to) (sym (test_tells b.from i k.1)) (l.least b.to one.to) in
        by_le1 (flow angle b ∷ []) pnil (pneg (at 0)) pone (at 0) pnil NonNeg-one (carried_back b.susceptance (angle b.from) (angle b.to) one.susceptance low) refl

    to_here : (b : Branch) → Contains (filter (λ b. b.to == i) n.branches) b → whole (pos 0) ≤ℚ flow angle b
    to_here b c =
        let k = Contains-from_filter (λ b. b.to == i) n.branches b c in
        let one = is.branches b k.0 in
        let low : angle b.to ≤ℚ angle b.from = subst (λ (t : ℕ). angle t ≤ℚ angle b.from) (sym (test_tells b.to i k.1)) (l.least b.from one.from) in
        carried_down b.susceptance (angle b.from) (angle b.to) one.susceptance low

    none_leaves : leaving n angle i ≤ℚ whole (pos 0)
    unfolding leaving
    none_leaves =
        let s = sum_by (flow angle) (filter (λ b. b.from == i) n.branches) in
        by_le1 (s ∷ []) (at 0) pnil pone pnil (pneg (at 0)) NonNeg-one
        (subst (λ t. whole (pos 0) ≤ℚ t) (sum_by-neg (flow angle) (filter (λ b. b.from == i) n.branches)) (sum_above (λ b. neg_ℚ (flow angle b)) (filter (λ b. b.from == i) n.branches) from_here)) refl

    some_enters : whole (pos 0) ≤ℚ entering n angle i
    unfolding entering
    some_enters = sum_above (flow angle) (filter (λ b. b.to == i) n.branches) to_here

    -- so each of them is 0
    from_rests : (b : Branch) → Contains n.branches b → b.from ≡ i → whole (pos 0) ≤ℚ flow angle b
    unfolding leaving
    from_rests b c e =
        let bs = filter (λ b. b.from == i) n.branches in
        let s = sum_by (flow angle) bs in
        let most : neg_ℚ (flow angle b) ≤ℚ neg_ℚ s = subst (λ t. neg_ℚ (flow angle b) ≤ℚ t) (sum_by-neg (flow angle) bs)
        (term_within (λ b. neg_ℚ (flow angle b)) bs from_here b (Contains-filter (λ b. b.from == i) n.branches b c (test_holds b.from i e))) in
        ≤ℚ_trans (whole (pos 0)) s (flow angle b)
        (by_le2 (s ∷ entering n angle i ∷ []) pnil (at 0) pone pnil (at 0 ⊕ pneg (at 1)) pone pnil (at 1) NonNeg-one h NonNeg-one some_enters refl)
        (by_le1 (s ∷ flow angle b ∷ []) (at 0) (at 1) pone (pneg (at 1)) (pneg (at 0)) NonNeg-one most refl)

    to_rests : (b : Branch) → Contains n.branches b → b.to ≡ i → flow angle b ≤ℚ whole (pos 0)
    unfolding entering
    to_rests b c e =
        let bs = filter (λ b. b.to == i) n.branches in
        let s = sum_by (flow angle) bs in
        ≤ℚ_trans (flow angle b) s (whole (pos 0))
        (term_within (flow angle) bs to_here b (Contains-filter (λ b. b.to == i) n.branches b c (test_holds b.to i e)))
        (by_le2 (leaving n angle i ∷ s ∷ []) (at 1) pnil pone pnil (at 0 ⊕ pneg (at 1)) pone (at 0) pnil NonNeg-one h NonNeg-one none_leaves refl)

    -- and each neighbour has the least angle too
    least_beside : (k : ℕ) → AreNeighbours n i k → IsLeast n angle k
    least_beside k near =
        let b = near.branch in
        let one = is.branches b near.there in
        elim near.ends [
          | inl e ↦ lower k (subst (λ (t : ℕ). t < n.buses) e.1 one.to)
              (at_both (λ (s t : ℕ). angle t ≤ℚ angle s) e.0 e.1 (falls b.susceptance (angle b.from) (angle b.to) one.susceptance (from_rests b near.there e.0)))
          | inr e ↦ lower k (subst (λ (t : ℕ). t < n.buses) e.0 one.from)
              (at_both (λ (s t : ℕ). angle s ≤ℚ angle t) e.0 e.1 (rises b.susceptance (angle b.from) (angle b.to) one.susceptance (to_rests b near.there e.1)))
        ]
      where
        at_both : (P : ℕ → ℕ → Type 0) {s s' t t' : ℕ} → s ≡ s' → t ≡ t' → P s t → P s' t'
        at_both P {s} {s'} {t} {t'} p q x = subst (λ (v : ℕ). P s' v) q (subst (λ (v : ℕ). P v t) p x)

        lower : (k : ℕ) → k < n.buses → angle k ≤ℚ angle i → IsLeast n angle k
        lower k w p = record { within = w; least = λ j q. ≤ℚ_trans (angle k) (angle i) (angle j) p (l.least j q) }

  module _ (r : ℕ) (h : (i : ℕ) → i < n.buses → ¬ (i ≡ r) → whole (pos 0) ≤ℚ injection n angle i) where
    least_along : (chain : List ℕ) (i : ℕ) → Lead n chain i r → IsLeast n angle i → IsLeast n angle r
    least_along [] i e l = subst (λ (t : ℕ). IsLeast n angle t) e l
    least_along (k ∷ ks) i lead l = elim (same_or_not i r) [
      | inl e ↦ subst (λ (t : ℕ). IsLeast n angle t) e l
      | inr d ↦ least_along ks k lead.1 (least_beside i l (h i l.within d) k lead.0)
    ]

    pub least_angle : IsConnected n r → (i : ℕ) → i < n.buses → angle r ≤ℚ angle i
    least_angle c i p =
        let m = least_place n angle i p in
        let j = c.joined m.0 m.1.within in
        (least_along j.chain m.0 j.lead m.1).least i p
