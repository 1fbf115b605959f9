-- Each network falls into parts that its branches join, and within a part 1 can be passed from any bus to any other: by induction over
-- the branches, of which a new one lies within a part or joins two.
use Rattle.std.specs.Prelude.{◌≡◌, ℕ, ◌<◌, ◌==◌, pos, List, [], ◌∷◌, refl}
use Rattle.std.specs.List.{Contains}
use Rattle.std.proofs.Common.{arith, ap, sym, ◌∙◌, subst, inl, inr}
use mathlib.Core.Path.{ap₂}
use Rattle.fraction_theory.specs.Fraction.{Fraction, whole, ◌+ℚ◌, ◌-ℚ◌, ◌*ℚ◌, neg_ℚ, recip_ℚ}
use Rattle.fraction_theory.specs.Order.{◌≤ℚ◌, ◌<ℚ◌}
use Rattle.fraction_theory.specs.Sums.{sum_by}
use Rattle.fraction_theory.proofs.Ring.{by_ring, by_ring1, at, pnil, pone, pneg, ◌⊕◌, ◌⊗◌}
use Rattle.fraction_theory.proofs.FieldLaws.{ring_ℚ, *ℚ-recip}
use Rattle.fraction_theory.proofs.OrderLaws.{<ℚ_irrefl, <ℚ-not-≤ℚ, ≤ℚ_of_same, by_le1, by_le2, NonNeg-one}
use Rattle.fraction_theory.proofs.SumLaws.{sum_by-same, sum_by-nil}
use Rattle.fraction_theory.proofs.ListSums.{kept, sum_by-members, Contains-head, Contains-cases, put_at, put_at-here, put_at-elsewhere, same_or_not}
use Rattle.network_theory.specs.Networks.{Branch, Network, places, IsTheoryNetwork, flow, injection, StandsAt, moved}
use Rattle.network_theory.proofs.ByParts.{taken, injection_taken, by_parts}
use Rattle.network_theory.proofs.FlowSigns.{carried_down}
use Rattle.network_theory.proofs.Outages.{ends, taken_ends, flow_moved, injection_moved, network_without, injection_without, loss, losses_above}
use Rattle.network_theory.proofs.Places.{sum_at}
use Rattle.network_theory.proofs.SignedSums.{sum_above, sum_by-minus}
use Rattle.network_theory.proofs.Solutions.{one_above}

-- 1 at the first place and -1 at the second, and 0 elsewhere or where the two are one
abbrev pub passed : ℕ → ℕ → ℕ → Fraction
passed i j v = kept (i == v) (whole (pos 1)) -ℚ kept (j == v) (whole (pos 1))

-- at these angles 1 is put in at the one place and taken out at the other
pub record Passes (n : Network) (angle : ℕ → Fraction) (i j : ℕ) : Type 0 where
  pub injections : (v : ℕ) → injection n angle v ≡ passed i j v

-- each branch stays within a part, and 1 can be passed between any two places of a part
pub record AreParts (n : Network) (part : ℕ → ℕ) : Type 0 where
  pub along : (b : Branch) → Contains n.branches b → part b.from ≡ part b.to
  pub passing : (i j : ℕ) → part i ≡ part j → (angle : ℕ → Fraction) × Passes n angle i j

-- it is passed down: the difference of the angles is the sum of the losses
passed_down : (n : Network) (angle : ℕ → Fraction) (i j : ℕ) → IsTheoryNetwork n → i < n.buses → j < n.buses → Passes n angle i j → angle j ≤ℚ angle i
passed_down n angle i j is p q h =
    let one = whole (pos 1) in
    let difference : sum_by (loss angle) n.branches ≡ angle i *ℚ one -ℚ angle j *ℚ one =
    sym (by_parts n is angle angle)
    ∙ sum_by-same (λ v. angle v *ℚ injection n angle v) (λ v. angle v *ℚ kept (i == v) one -ℚ angle v *ℚ kept (j == v) one) (places n)
    (λ v. ap (λ t. angle v *ℚ t) (h.injections v)
    ∙ by_ring ring_ℚ (angle v ∷ kept (i == v) one ∷ kept (j == v) one ∷ []) (at 0 ⊗ (at 1 ⊕ pneg (at 2))) ((at 0 ⊗ at 1) ⊕ pneg (at 0 ⊗ at 2)) refl)
    ∙ sum_by-minus (λ v. angle v *ℚ kept (i == v) one) (λ v. angle v *ℚ kept (j == v) one) (places n)
    ∙ ap₂ ◌-ℚ◌ (sum_at n angle i one p) (sum_at n angle j one q) in
    by_le1 (angle i ∷ angle j ∷ []) (at 1) (at 0) pone pnil ((at 0 ⊗ pone) ⊕ pneg (at 1 ⊗ pone)) NonNeg-one
    (subst (λ t. whole (pos 0) ≤ℚ t) difference (sum_above (loss angle) n.branches (losses_above n angle is))) refl

abbrev network_of : ℕ → List Branch → Network
network_of buses bs = record { buses = buses; branches = bs }

-- one branch more
module _ (buses : ℕ) (b : Branch) (bs : List Branch) (is : IsTheoryNetwork (network_of buses (b ∷ bs))) where
  abbrev all : Network
  all = network_of buses (b ∷ bs)

  abbrev fewer : Network
  fewer = network_of buses bs

  stands : StandsAt all 0 b
  stands = record { within = Prim.omega arith; there = refl }

  is_branch : (from : b.from < buses) × (to : b.to < buses) × (whole (pos 0) <ℚ b.susceptance)
  is_branch = let one = is.branches b (Contains-head b bs) in (one.from, one.to, one.susceptance)

  -- Where without the branch some angles put in what is wanted and so many times 1 besides at its ends, so many times others mend this,
  -- which without the branch put in a number of times 1 at its ends, unless with it they put in nothing.
  mended : (angle other : ℕ → Fraction) (wanted : ℕ → Fraction) (besides number : Fraction)
      → ((v : ℕ) → injection fewer angle v ≡ wanted v +ℚ besides *ℚ ends v b) → ((v : ℕ) → injection fewer other v ≡ number *ℚ ends v b)
      → ¬ (number +ℚ flow other b ≡ whole (pos 0)) → (mend : ℕ → Fraction) × ((v : ℕ) → injection all mend v ≡ wanted v)
  mended angle other wanted besides number h k some =
      let each : Fraction = number +ℚ flow other b in
      let times : Fraction = neg_ℚ ((besides +ℚ flow angle b) *ℚ recip_ℚ each) in (
        moved angle times other,
        λ v. injection_without all 0 b stands (moved angle times other) v
            ∙ ap₂ (λ x y. ends v b *ℚ x +ℚ y) (flow_moved angle times other b) (injection_moved fewer angle times other v ∙ ap₂ (λ x y. x +ℚ times *ℚ y) (h v) (k v))
            ∙ by_ring1 ring_ℚ (ends v b ∷ flow angle b ∷ flow other b ∷ wanted v ∷ besides ∷ number ∷ recip_ℚ each ∷ [])
            ((at 0 ⊗ (at 1 ⊕ (pneg ((at 4 ⊕ at 1) ⊗ at 6) ⊗ at 2))) ⊕ ((at 3 ⊕ (at 4 ⊗ at 0)) ⊕ (pneg ((at 4 ⊕ at 1) ⊗ at 6) ⊗ (at 5 ⊗ at 0))))
            (at 3) (pneg (at 0 ⊗ (at 4 ⊕ at 1))) ((at 5 ⊕ at 2) ⊗ at 6) pone (*ℚ-recip each some) refl,
      )

  along_all : (part : ℕ → ℕ) → part b.from ≡ part b.to → ((x : Branch) → Contains bs x → part x.from ≡ part x.to)
      → (x : Branch) → Contains (b ∷ bs) x → part x.from ≡ part x.to
  along_all part here later x c = elim (Contains-cases b bs x c) [ inl e ↦ subst (λ (y : Branch). part y.from ≡ part y.to) e here | inr k ↦ later x k ]

  module _ (part : ℕ → ℕ) (are : AreParts fewer part) where
    -- the branch lies within a part
    module _ (same : part b.from ≡ part b.to) where
      not_nothing : (angle : ℕ → Fraction) → Passes fewer angle b.from b.to → ¬ (whole (pos 1) +ℚ flow angle b ≡ whole (pos 0))
      not_nothing angle p e =
          let down = passed_down fewer angle b.from b.to (network_without all 0 b stands is) is_branch.0 is_branch.1 p in
          let above = carried_down b.susceptance (angle b.from) (angle b.to) is_branch.2 down in
          <ℚ-not-≤ℚ (whole (pos 0)) (whole (pos 1)) one_above
          (by_le2 (flow angle b ∷ []) pone pnil pone (pone ⊕ at 0) pnil pone pnil (at 0) NonNeg-one (≤ℚ_of_same (whole (pos 1) +ℚ flow angle b) (whole (pos 0)) e) NonNeg-one above refl)

      within_part : AreParts all part
      within_part = record {
        along = along_all part same are.along;
        passing = λ i j e.
            let old = are.passing i j e in
            let ours = are.passing b.from b.to same in
            let r = mended old.0 ours.0 (passed i j) (whole (pos 0)) (whole (pos 1))
            (λ v. old.1.injections v ∙ by_ring ring_ℚ (passed i j v ∷ ends v b ∷ []) (at 0) (at 0 ⊕ (pnil ⊗ at 1)) refl)
            (λ v. ours.1.injections v ∙ by_ring ring_ℚ (ends v b ∷ []) (at 0) (pone ⊗ at 0) refl)
            (not_nothing ours.0 ours.1) in
            (r.0, record { injections = r.1 });
      }

    -- the branch joins two parts, which become one
    module _ (apart : ¬ (part b.from ≡ part b.to)) where
      abbrev joined : ℕ → ℕ
      joined v = put_at (part b.to) (part b.from) (λ (p : ℕ). p) (part v)

      -- angles of 1 in the part of its first bus carry nothing over the other branches
      raised : ℕ → Fraction
      raised v = put_at (part b.from) (whole (pos 1)) (λ (p : ℕ). whole (pos 0)) (part v)

      raised_carries : flow raised b ≡ b.susceptance
      unfolding raised
      raised_carries =
          ap₂ (λ x y. b.susceptance *ℚ (x -ℚ y)) (put_at-here (part b.from) (whole (pos 1)) (λ (p : ℕ). whole (pos 0)) (part b.from) refl)
          (put_at-elsewhere (part b.from) (whole (pos 1)) (λ (p : ℕ). whole (pos 0)) (part b.to) (λ e. apart (sym e)))
          ∙ by_ring ring_ℚ (b.susceptance ∷ []) (at 0 ⊗ (pone ⊕ pneg pnil)) (at 0) refl

      raised_rests : (v : ℕ) → injection fewer raised v ≡ whole (pos 0) *ℚ ends v b
      unfolding raised
      raised_rests v =
          injection_taken fewer raised v
          ∙ sum_by-members (taken raised v) (λ _. whole (pos 0)) bs
          (λ x c. taken_ends raised v x
          ∙ ap (λ (p : ℕ). ends v x *ℚ (x.susceptance *ℚ (put_at (part b.from) (whole (pos 1)) (λ (q : ℕ). whole (pos 0)) p -ℚ raised x.to))) (are.along x c)
          ∙ by_ring ring_ℚ (ends v x ∷ x.susceptance ∷ raised x.to ∷ []) (at 0 ⊗ (at 1 ⊗ (at 2 ⊕ pneg (at 2)))) pnil refl)
          ∙ sum_by-nil bs
          ∙ by_ring ring_ℚ (ends v b ∷ []) pnil (pnil ⊗ at 0) refl

      over_branch : (i j : ℕ) (angle : ℕ → Fraction) (besides : Fraction) → ((v : ℕ) → injection fewer angle v ≡ passed i j v +ℚ besides *ℚ ends v b)
          → (mend : ℕ → Fraction) × Passes all mend i j
      over_branch i j angle besides h =
          let r = mended angle raised (passed i j) besides (whole (pos 0)) h raised_rests
          (λ e. <ℚ_irrefl (whole (pos 0)) (subst (λ t. whole (pos 0) <ℚ t) (by_ring ring_ℚ (b.susceptance ∷ []) (at 0) (pnil ⊕ at 0) refl ∙ ap (λ t. whole (pos 0) +ℚ t) (sym raised_carries) ∙ e) is_branch.2)) in
          (r.0, record { injections = r.1 })

      within_old : (i j : ℕ) → part i ≡ part j → (mend : ℕ → Fraction) × Passes all mend i j
      within_old i j e =
          let old = are.passing i j e in
          over_branch i j old.0 (whole (pos 0)) (λ v. old.1.injections v ∙ by_ring ring_ℚ (passed i j v ∷ ends v b ∷ []) (at 0) (at 0 ⊕ (pnil ⊗ at 1)) refl)

      -- to one end of the branch, and from the other
      by_ends : (i k l j : ℕ) → part i ≡ part k → part l ≡ part j
          → (angle : ℕ → Fraction) × ((v : ℕ) → injection fewer angle v ≡ passed i k v +ℚ whole (pos 1) *ℚ passed l j v)
      by_ends i k l j p q =
          let first = are.passing i k p in
          let second = are.passing l j q in
          (moved first.0 (whole (pos 1)) second.0, λ v. injection_moved fewer first.0 (whole (pos 1)) second.0 v ∙ ap₂ (λ x y. x +ℚ whole (pos 1) *ℚ y) (first.1.injections v) (second.1.injections v))

      forward : (i j : ℕ) → part i ≡ part b.from → part b.to ≡ part j → (mend : ℕ → Fraction) × Passes all mend i j
      forward i j p q =
          let both = by_ends i b.from b.to j p q in
          over_branch i j both.0 (neg_ℚ (whole (pos 1)))
          (λ v. both.1 v
          ∙ by_ring ring_ℚ (kept (i == v) (whole (pos 1)) ∷ kept (j == v) (whole (pos 1)) ∷ kept (b.from == v) (whole (pos 1)) ∷ kept (b.to == v) (whole (pos 1)) ∷ [])
          ((at 0 ⊕ pneg (at 2)) ⊕ (pone ⊗ (at 3 ⊕ pneg (at 1)))) ((at 0 ⊕ pneg (at 1)) ⊕ (pneg pone ⊗ (at 2 ⊕ pneg (at 3)))) refl)

      back : (i j : ℕ) → part i ≡ part b.to → part b.from ≡ part j → (mend : ℕ → Fraction) × Passes all mend i j
      back i j p q =
          let both = by_ends i b.to b.from j p q in
          over_branch i j both.0 (whole (pos 1))
          (λ v. both.1 v
          ∙ by_ring ring_ℚ (kept (i == v) (whole (pos 1)) ∷ kept (j == v) (whole (pos 1)) ∷ kept (b.from == v) (whole (pos 1)) ∷ kept (b.to == v) (whole (pos 1)) ∷ [])
          ((at 0 ⊕ pneg (at 3)) ⊕ (pone ⊗ (at 2 ⊕ pneg (at 1)))) ((at 0 ⊕ pneg (at 1)) ⊕ (pone ⊗ (at 2 ⊕ pneg (at 3)))) refl)

      joined_at : (v : ℕ) → part v ≡ part b.to → joined v ≡ part b.from
      joined_at v e = put_at-here (part b.to) (part b.from) (λ (p : ℕ). p) (part v) e

      joined_else : (v : ℕ) → ¬ (part v ≡ part b.to) → joined v ≡ part v
      joined_else v d = put_at-elsewhere (part b.to) (part b.from) (λ (p : ℕ). p) (part v) d

      two_parts : AreParts all joined
      two_parts = record {
        along = along_all joined (joined_else b.from apart ∙ sym (joined_at b.to refl)) (λ x c. ap (λ (p : ℕ). put_at (part b.to) (part b.from) (λ (q : ℕ). q) p) (are.along x c));
        passing = λ i j e. elim (same_or_not (part i) (part b.to)) [
          | inl p ↦ elim (same_or_not (part j) (part b.to)) [
            | inl q ↦ within_old i j (p ∙ sym q)
            | inr q ↦ back i j p (sym (joined_at i p) ∙ e ∙ joined_else j q)
          ]
          | inr p ↦ elim (same_or_not (part j) (part b.to)) [
            | inl q ↦ forward i j (sym (joined_else i p) ∙ e ∙ joined_at j q) (sym q)
            | inr q ↦ within_old i j (sym (joined_else i p) ∙ e ∙ joined_else j q)
          ]
        ];
      }

-- with no branch each bus is a part
no_branches : (buses : ℕ) → AreParts (network_of buses []) (λ v. v)
no_branches buses = record {
  along = λ b c. absurd (Prim.omega (arith, c.1));
  passing = λ i j e. (
    λ _. whole (pos 0),
    record {
      injections = λ v. injection_taken (network_of buses []) (λ _. whole (pos 0)) v
          ∙ by_ring ring_ℚ (kept (j == v) (whole (pos 1)) ∷ []) pnil (at 0 ⊕ pneg (at 0)) refl
          ∙ ap (λ (k : ℕ). passed k j v) (sym e);
    },
  );
}

pub parts : (buses : ℕ) (bs : List Branch) → IsTheoryNetwork (network_of buses bs) → (part : ℕ → ℕ) × AreParts (network_of buses bs) part
parts buses [] is = (λ v. v, no_branches buses)
parts buses (b ∷ bs) is = one_more (parts buses bs (network_without (network_of buses (b ∷ bs)) 0 b (stands buses b bs is) is))
  where
    one_more : (part : ℕ → ℕ) × AreParts (network_of buses bs) part → (part : ℕ → ℕ) × AreParts (network_of buses (b ∷ bs)) part
    one_more r = elim (same_or_not (r.0 b.from) (r.0 b.to)) [
      | inl e ↦ (r.0, within_part buses b bs is r.0 r.1 e)
      | inr d ↦ (joined buses b bs is r.0 r.1 d, two_parts buses b bs is r.0 r.1 d)
    ]
