-- A cut between the two ends of a branch: no branch carries anything back over it, and what crosses it is no more than the injections of
-- all buses but one are in size. So no branch carries more, and of a transfer no more than 1.
use Rattle.std.specs.Prelude.{◌≡◌, ℕ, ◌==◌, pos, [], ◌∷◌, Bool, not, refl}
use Rattle.std.specs.List.{Contains}
use Rattle.std.proofs.Common.{ap, sym, ◌∙◌, subst, subst₂, inl, inr}
use Rattle.std.proofs.lemmas.Bool.Decides.{eqb_tells}
use Rattle.fraction_theory.specs.declared.Sign.{Sign}
use Rattle.fraction_theory.specs.declared.Sign.TheVariants.{Below, Zero, Above}
use Rattle.fraction_theory.specs.Fraction.{Fraction, whole, ◌-ℚ◌, ◌*ℚ◌, neg_ℚ}
use Rattle.fraction_theory.specs.Order.{◌≤ℚ◌, ◌<ℚ◌}
use Rattle.fraction_theory.specs.Signs.{sign_of, abs_ℚ}
use Rattle.fraction_theory.specs.Sums.{sum_by}
use Rattle.fraction_theory.proofs.Ring.{by_ring, at, pnil, pone, pneg, ◌⊕◌, ◌⊗◌}
use Rattle.fraction_theory.proofs.FieldLaws.{ring_ℚ}
use Rattle.fraction_theory.proofs.OrderLaws.{≤ℚ_refl, ≤ℚ_trans, ≤ℚ_of_same, ≤ℚ_total, ≤ℚ-or-<ℚ, <ℚ-≤ℚ, <ℚ-not-≤ℚ, by_rest, by_le1, by_le2, NonNeg-one, NonNeg-times, NonNeg_from, le_to}
use Rattle.fraction_theory.proofs.SignLaws.{IsSign, sign_of_is, abs_above, abs_below, abs_within}
use Rattle.fraction_theory.proofs.ListSums.{kept, sum_by-filter, sum_by-one}
use Rattle.network_theory.specs.Laws.{LawOfTheFactors}
use Rattle.network_theory.specs.Networks.{Branch, Network, places, others, IsTheoryNetwork, flow, injection, IsTransfer}
use Rattle.network_theory.proofs.ByParts.{by_parts}
use Rattle.network_theory.proofs.FlowSigns.{carried_down, carried_back}
use Rattle.network_theory.proofs.Places.{in_places, below_places, distinct_places}
use Rattle.network_theory.proofs.SignedSums.{term_within, sum_within}
use Rattle.network_theory.proofs.Solutions.{zero_within_one, ends_differ}

-- 1 above the level, 0 at it and below
abbrev side_by : Sign → Fraction
side_by Below = whole (pos 0)
side_by Zero = whole (pos 0)
side_by Above = whole (pos 1)

side : Fraction → Fraction → Fraction
side level x = side_by (sign_of (x -ℚ level))

side_above : (level x : Fraction) → level <ℚ x → side level x ≡ whole (pos 1)
unfolding side
side_above level x h = by_sign (sign_of (x -ℚ level)) (sign_of_is (x -ℚ level) (sign_of (x -ℚ level)) refl)
  where
    not_under : ¬ ((x -ℚ level) ≤ℚ whole (pos 0))
    not_under p = <ℚ-not-≤ℚ level x h (by_le1 (x ∷ level ∷ []) (at 0) (at 1) pone (at 0 ⊕ pneg (at 1)) pnil NonNeg-one p refl)

    by_sign : (s : Sign) → IsSign s (x -ℚ level) → side_by s ≡ whole (pos 1)
    by_sign Below p = absurd (not_under (<ℚ-≤ℚ (x -ℚ level) (whole (pos 0)) p))
    by_sign Zero p = absurd (not_under (≤ℚ_of_same (x -ℚ level) (whole (pos 0)) p))
    by_sign Above p = refl

side_below : (level x : Fraction) → x ≤ℚ level → side level x ≡ whole (pos 0)
unfolding side
side_below level x h = by_sign (sign_of (x -ℚ level)) (sign_of_is (x -ℚ level) (sign_of (x -ℚ level)) refl)
  where
    by_sign : (s : Sign) → IsSign s (x -ℚ level) → side_by s ≡ whole (pos 0)
    by_sign Below p = refl
    by_sign Zero p = refl
    by_sign Above p = absurd (<ℚ-not-≤ℚ (whole (pos 0)) (x -ℚ level) p (by_le1 (x ∷ level ∷ []) (at 0 ⊕ pneg (at 1)) pnil pone (at 0) (at 1) NonNeg-one h refl))

side_range : (level x : Fraction) → (whole (pos 0) ≤ℚ side level x) × (side level x ≤ℚ whole (pos 1))
side_range level x = elim (≤ℚ-or-<ℚ x level) [
  | inl h ↦ subst (λ t. (whole (pos 0) ≤ℚ t) × (t ≤ℚ whole (pos 1))) (sym (side_below level x h)) (≤ℚ_refl (whole (pos 0)), zero_within_one)
  | inr h ↦ subst (λ t. (whole (pos 0) ≤ℚ t) × (t ≤ℚ whole (pos 1))) (sym (side_above level x h)) (zero_within_one, ≤ℚ_refl (whole (pos 1)))
]

side_grows : (level x y : Fraction) → x ≤ℚ y → side level x ≤ℚ side level y
side_grows level x y h = elim (≤ℚ-or-<ℚ y level) [
  | inl low ↦ ≤ℚ_of_same (side level x) (side level y) (side_below level x (≤ℚ_trans x y level h low) ∙ sym (side_below level y low))
  | inr high ↦ subst (λ t. side level x ≤ℚ t) (sym (side_above level y high)) (side_range level x).1
]

-- so many times a number, which is no more than its size
pub times_size : (k x : Fraction) → neg_ℚ (whole (pos 1)) ≤ℚ k → k ≤ℚ whole (pos 1) → (k *ℚ x) ≤ℚ abs_ℚ x
times_size k x low high = elim (≤ℚ-or-<ℚ x (whole (pos 0))) [
  | inl h ↦ subst (λ t. (k *ℚ x) ≤ℚ t) (sym (abs_below x h)) (by_le1 (k ∷ x ∷ []) (at 0 ⊗ at 1) (pneg (at 1)) (at 0 ⊕ pneg (pneg pone)) (at 1) pnil (le_to (neg_ℚ (whole (pos 1))) k low) h refl)
  | inr h ↦
      let above = <ℚ-≤ℚ (whole (pos 0)) x h in
      subst (λ t. (k *ℚ x) ≤ℚ t) (sym (abs_above x above)) (by_le1 (k ∷ x ∷ []) (at 0 ⊗ at 1) (at 1) (pone ⊕ pneg (at 0)) pnil (at 1) (le_to k (whole (pos 1)) high) above refl)
]

module _ (n : Network) (angle : ℕ → Fraction) (is : IsTheoryNetwork n) (reference : ℕ) (level : Fraction) where
  -- which side of the cut, against that of the reference
  abbrev weight : ℕ → Fraction
  weight i = side level (angle i) -ℚ side level (angle reference)

  abbrev crossing : Branch → Fraction
  crossing b = (weight b.from -ℚ weight b.to) *ℚ flow angle b

  -- nothing crosses back
  forward : (b : Branch) → Contains n.branches b → whole (pos 0) ≤ℚ crossing b
  forward b c =
      let one = is.branches b c in
      let u = side level (angle b.from) in
      let v = side level (angle b.to) in
      let x = flow angle b in
      let vs = u ∷ v ∷ side level (angle reference) ∷ x ∷ [] in
      elim (≤ℚ_total (angle b.to) (angle b.from)) [
        | inl h ↦ by_rest vs pnil (((at 0 ⊕ pneg (at 2)) ⊕ pneg (at 1 ⊕ pneg (at 2))) ⊗ at 3) ((at 0 ⊕ pneg (at 1)) ⊗ at 3)
            (NonNeg-times (u -ℚ v) x (le_to v u (side_grows level (angle b.to) (angle b.from) h))
            (NonNeg_from x (carried_down b.susceptance (angle b.from) (angle b.to) one.susceptance h))) refl
        | inr h ↦ by_rest vs pnil (((at 0 ⊕ pneg (at 2)) ⊕ pneg (at 1 ⊕ pneg (at 2))) ⊗ at 3) ((at 1 ⊕ pneg (at 0)) ⊗ (pnil ⊕ pneg (at 3)))
            (NonNeg-times (v -ℚ u) (whole (pos 0) -ℚ x) (le_to u v (side_grows level (angle b.from) (angle b.to) h))
            (le_to x (whole (pos 0)) (carried_back b.susceptance (angle b.from) (angle b.to) one.susceptance h))) refl
      ]

  -- what the buses but the reference put in is no less
  put_in : (i : ℕ) → (weight i *ℚ injection n angle i) ≤ℚ kept (not (i == reference)) (abs_ℚ (injection n angle i))
  put_in i =
      let s = side level (angle i) in
      let r = side level (angle reference) in
      let here = side_range level (angle i) in
      let there = side_range level (angle reference) in
      let x = injection n angle i in
      elim (eqb_tells i reference) [
        | inl e ↦ subst₂ (λ (k : Bool) (p : Fraction). ((p -ℚ r) *ℚ x) ≤ℚ kept (not k) (abs_ℚ x)) (sym e.0) (sym (ap (λ (j : ℕ). side level (angle j)) e.1))
            (≤ℚ_of_same ((r -ℚ r) *ℚ x) (whole (pos 0)) (by_ring ring_ℚ (r ∷ x ∷ []) ((at 0 ⊕ pneg (at 0)) ⊗ at 1) pnil refl))
        | inr e ↦ subst (λ (k : Bool). (weight i *ℚ x) ≤ℚ kept (not k) (abs_ℚ x)) (sym e.0)
            (times_size (weight i) x
            (by_le2 (s ∷ r ∷ []) (pneg pone) (at 0 ⊕ pneg (at 1)) pone pnil (at 0) pone (at 1) pone NonNeg-one here.0 NonNeg-one there.1 refl)
            (by_le2 (s ∷ r ∷ []) (at 0 ⊕ pneg (at 1)) pone pone (at 0) pone pone pnil (at 1) NonNeg-one here.1 NonNeg-one there.0 refl))
      ]

  crossing_within : (b : Branch) → Contains n.branches b → crossing b ≤ℚ sum_by (λ i. abs_ℚ (injection n angle i)) (others n reference)
  crossing_within b c = ≤ℚ_trans (crossing b) (sum_by crossing n.branches) (sum_by (λ i. abs_ℚ (injection n angle i)) (others n reference)) (term_within crossing n.branches forward b c)
      (subst₂ ◌≤ℚ◌ (by_parts n is weight angle) (sym (sum_by-filter (λ i. abs_ℚ (injection n angle i)) (λ i. not (i == reference)) (places n)))
      (sum_within (λ i. weight i *ℚ injection n angle i) (λ i. kept (not (i == reference)) (abs_ℚ (injection n angle i))) (places n) (λ i _. put_in i)))

-- The level of the lower end is the cut.
pub flow_within : (n : Network) (angle : ℕ → Fraction) (reference : ℕ) → IsTheoryNetwork n → (b : Branch) → Contains n.branches b
    → abs_ℚ (flow angle b) ≤ℚ sum_by (λ i. abs_ℚ (injection n angle i)) (others n reference)
flow_within n angle reference is b c =
    let one = is.branches b c in
    let x = flow angle b in
    let a = angle b.from in
    let z = angle b.to in
    let r = λ (level : Fraction). side level (angle reference) in
    let most = sum_by (λ i. abs_ℚ (injection n angle i)) (others n reference) in
    let within = λ (level : Fraction). crossing_within n angle is reference level b c in
    let above : whole (pos 0) ≤ℚ most = ≤ℚ_trans (whole (pos 0)) (crossing n angle is reference a b) most (forward n angle is reference a b c) (within a) in
    abs_within x most
    (elim (≤ℚ-or-<ℚ z a) [
      | inl h ↦ by_le2 (x ∷ most ∷ []) (pneg (at 1)) (at 0) pone pnil (at 0) pone pnil (at 1) NonNeg-one (carried_down b.susceptance a z one.susceptance h) NonNeg-one above refl
      | inr h ↦ by_le1 (x ∷ most ∷ r a ∷ []) (pneg (at 1)) (at 0) pone (((pnil ⊕ pneg (at 2)) ⊕ pneg (pone ⊕ pneg (at 2))) ⊗ at 0) (at 1) NonNeg-one
          (subst₂ (λ u v. (((u -ℚ r a) -ℚ (v -ℚ r a)) *ℚ x) ≤ℚ most) (side_below a a (≤ℚ_refl a)) (side_above a z h) (within a)) refl
    ])
    (elim (≤ℚ-or-<ℚ a z) [
      | inl h ↦ ≤ℚ_trans x (whole (pos 0)) most (carried_back b.susceptance a z one.susceptance h) above
      | inr h ↦ by_le1 (x ∷ most ∷ r z ∷ []) (at 0) (at 1) pone (((pone ⊕ pneg (at 2)) ⊕ pneg (pnil ⊕ pneg (at 2))) ⊗ at 0) (at 1) NonNeg-one
          (subst₂ (λ u v. (((u -ℚ r z) -ℚ (v -ℚ r z)) *ℚ x) ≤ℚ most) (side_above z a h) (side_below z z (≤ℚ_refl z)) (within z)) refl
    ])

-- of all buses but the sink the source alone has an injection, which is 1
module _ (n : Network) (angle : ℕ → Fraction) (source sink : ℕ) (t : IsTransfer n angle source sink) where
  abbrev counted : ℕ → Fraction
  counted i = kept (not (i == sink)) (abs_ℚ (injection n angle i))

  at_source : counted source ≡ whole (pos 1)
  at_source = elim (eqb_tells source sink) [
    | inl e ↦ absurd (ends_differ n angle source sink t e.1)
    | inr e ↦ ap (λ (k : Bool). kept (not k) (abs_ℚ (injection n angle source))) e.0 ∙ ap abs_ℚ t.source_has ∙ abs_above (whole (pos 1)) zero_within_one
  ]

  not_source : (i : ℕ) → Contains (places n) i → ¬ (i ≡ source) → counted i ≡ whole (pos 0)
  not_source i c d = elim (eqb_tells i sink) [
    | inl e ↦ ap (λ (k : Bool). kept (not k) (abs_ℚ (injection n angle i))) e.0
    | inr e ↦ ap (λ (k : Bool). kept (not k) (abs_ℚ (injection n angle i))) e.0 ∙ ap abs_ℚ (t.elsewhere i (below_places n i c) d e.1) ∙ abs_above (whole (pos 0)) (≤ℚ_refl (whole (pos 0)))
  ]

  counted_one : sum_by (λ i. abs_ℚ (injection n angle i)) (others n sink) ≡ whole (pos 1)
  counted_one = sum_by-filter (λ i. abs_ℚ (injection n angle i)) (λ i. not (i == sink)) (places n)
      ∙ sum_by-one counted source (places n) (distinct_places n) (in_places n source t.source_is) not_source ∙ at_source

pub law_of_the_factors : LawOfTheFactors
law_of_the_factors n angle source sink is t b c = subst (λ x. abs_ℚ (flow angle b) ≤ℚ x) (counted_one n angle source sink t) (flow_within n angle sink is b c)
