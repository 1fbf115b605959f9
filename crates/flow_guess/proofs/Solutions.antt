-- What a guess and its errors say of each solution.
use Rattle.std.specs.Prelude.{◌≡◌, ℕ, ◌<◌, ◌==◌, ℤ, pos, ◌*ℤ◌, ◌^◌, ◌<ℤ◌, List, [], ◌∷◌, All, filter, length, map, refl}
use Rattle.std.specs.List.{Contains}
use Rattle.std.proofs.Common.{arith, ap, sym, subst, subst₂, ◌∙◌, inl, inr}
use mathlib.Core.Path.{ap₂}
use Rattle.fraction_theory.specs.Fraction.{Fraction, whole, recip_ℚ, ◌+ℚ◌, ◌-ℚ◌, ◌*ℚ◌}
use Rattle.fraction_theory.specs.Order.{◌≤ℚ◌, ◌<ℚ◌}
use Rattle.fraction_theory.specs.Signs.{abs_ℚ}
use Rattle.fraction_theory.specs.Sums.{sum_by}
use Rattle.fraction_theory.proofs.FieldLaws.{ring_ℚ, whole-*ℚ}
use Rattle.fraction_theory.proofs.ListSums.{Contains-head, Contains-cons, Contains-cases}
use Rattle.fraction_theory.proofs.OrderLaws.{NonNeg_from, by_le1, by_le2, NonNeg-one, ≤ℚ-or-<ℚ, ≤ℚ_of_same, <ℚ-≤ℚ, <ℚ-not-≤ℚ}
use Rattle.fraction_theory.proofs.Ring.{by_ring, at, pnil, pone, pneg, ◌⊕◌, ◌⊗◌}
use Rattle.fraction_theory.proofs.SignLaws.{abs_above, abs_below}
use Rattle.fraction_theory.proofs.SumLaws.{sum_by-same, sum_by-times}
use Rattle.network_theory.specs.Carrying.{IsCarried}
use Rattle.network_theory.specs.Networks.{Branch, Network, IsBranchOf, IsTheoryNetwork, flow, leaving, entering, injection, net_outflow, others}
use Rattle.network_theory.proofs.Guesses.{law_of_guessed_bounds}
use Rattle.network_theory.proofs.Solutions.{one_above}
use Rattle.exact_fraction.specs.Nearest.{in_units}
use Rattle.flow_guess.specs.declared.bounds.Guess.{Guess}
use Rattle.flow_guess.specs.declared.bounds.Transfer.{Transfer}
use Rattle.flow_guess.specs.declared.links.Link.{Link}
use Rattle.flow_guess.specs.Links.{link_branch, link_network}
use Rattle.flow_guess.specs.Guesses.{IsGuessOf, low_flow, high_flow, error_at, wanted_at}
use Rattle.flow_guess.specs.Told.{IsWithin}
use Rattle.flow_guess.proofs.Falls.{guessed, least_is_low, most_is_high, whole_above, recip_times}

-- ---- members of what is made of a list
from_map : {S T : Type 0} (g : S → T) (xs : List S) (y : T) → Contains (map g xs) y → (x : S) × Contains xs x × (g x ≡ y)
from_map g [] y c = absurd (Prim.omega (arith, c.1))
from_map g (x ∷ xs) y c = elim (Contains-cases (g x) (map g xs) y c) [
  | inl e ↦ (x, Contains-head x xs, e)
  | inr k ↦ let r = from_map g xs y k in (r.0, Contains-cons x xs r.0 r.1, r.2)
]

pub to_map : {S T : Type 0} (g : S → T) (xs : List S) (x : S) → Contains xs x → Contains (map g xs) (g x)
to_map g [] x c = absurd (Prim.omega (arith, c.1))
to_map {S} {T} g (y ∷ xs) x c = elim (Contains-cases y xs x c) [
  | inl e ↦ subst (λ (z : S). Contains (map g (y ∷ xs)) (g z)) e (Contains-head (g y) (map g xs))
  | inr k ↦ Contains-cons (g y) (map g xs) (g x) (to_map g xs x k)
]

of_member : {T : Type 0} (P : T → Type 0) (xs : List T) (x : T) → All P xs → Contains xs x → P x
of_member P xs x all c = subst P c.2 (all c.0 x c.1)

-- ---- sizes
size_above : (x : Fraction) → x ≤ℚ abs_ℚ x
size_above x = elim (≤ℚ-or-<ℚ (whole (pos 0)) x) [
  | inl h ↦ ≤ℚ_of_same x (abs_ℚ x) (sym (abs_above x h))
  | inr h ↦ let h' = <ℚ-≤ℚ x (whole (pos 0)) h in
      subst (λ y. x ≤ℚ y) (sym (abs_below x h')) (by_le2 (x ∷ []) (at 0) (pneg (at 0)) pone (at 0) pnil pone (at 0) pnil NonNeg-one h' NonNeg-one h' refl)
]

size_not_below : (x : Fraction) → whole (pos 0) ≤ℚ abs_ℚ x
size_not_below x = elim (≤ℚ-or-<ℚ (whole (pos 0)) x) [
  | inl h ↦ subst (λ y. whole (pos 0) ≤ℚ y) (sym (abs_above x h)) h
  | inr h ↦ let h' = <ℚ-≤ℚ x (whole (pos 0)) h in subst (λ y. whole (pos 0) ≤ℚ y) (sym (abs_below x h')) (by_le1 (x ∷ []) pnil (pneg (at 0)) pone (at 0) pnil NonNeg-one h' refl)
]

-- a number is within the bounds that are as far off as it is from both
between : (w low high : Fraction) → ((w -ℚ (abs_ℚ (w -ℚ low) +ℚ abs_ℚ (high -ℚ w))) ≤ℚ low) × (high ≤ℚ (w +ℚ (abs_ℚ (w -ℚ low) +ℚ abs_ℚ (high -ℚ w))))
between w low high =
    let vs = w ∷ low ∷ high ∷ abs_ℚ (w -ℚ low) ∷ abs_ℚ (high -ℚ w) ∷ [] in (
      by_le2 vs (at 0 ⊕ pneg (at 3 ⊕ at 4)) (at 1) pone (at 0 ⊕ pneg (at 1)) (at 3) pone pnil (at 4) NonNeg-one (size_above (w -ℚ low)) NonNeg-one (size_not_below (high -ℚ w)) refl,
      by_le2 vs (at 2) (at 0 ⊕ (at 3 ⊕ at 4)) pone (at 2 ⊕ pneg (at 0)) (at 4) pone pnil (at 3) NonNeg-one (size_above (high -ℚ w)) NonNeg-one (size_not_below (w -ℚ low)) refl,
    )

-- ---- a number of times the angles
module _ (k : Fraction) (angle : ℕ → Fraction) where
  pub flow_times : (b : Branch) → flow (λ j. k *ℚ angle j) b ≡ k *ℚ flow angle b
  flow_times b = by_ring ring_ℚ (b.susceptance ∷ angle b.from ∷ angle b.to ∷ k ∷ []) (at 0 ⊗ ((at 3 ⊗ at 1) ⊕ pneg (at 3 ⊗ at 2))) (at 3 ⊗ (at 0 ⊗ (at 1 ⊕ pneg (at 2)))) refl

  flows_times : (bs : List Branch) → sum_by (flow (λ j. k *ℚ angle j)) bs ≡ k *ℚ sum_by (flow angle) bs
  flows_times bs = sum_by-same (flow (λ j. k *ℚ angle j)) (λ b. k *ℚ flow angle b) bs flow_times ∙ sum_by-times k (flow angle) bs

  pub injection_times : (n : Network) (i : ℕ) → injection n (λ j. k *ℚ angle j) i ≡ k *ℚ injection n angle i
  unfolding leaving entering
  injection_times n i =
      let out = filter (λ (b : Branch). b.from == i) n.branches in
      let into = filter (λ (b : Branch). b.to == i) n.branches in
      ap₂ ◌-ℚ◌ (flows_times out) (flows_times into)
      ∙ by_ring ring_ℚ (k ∷ sum_by (flow angle) out ∷ sum_by (flow angle) into ∷ []) ((at 0 ⊗ at 1) ⊕ pneg (at 0 ⊗ at 2)) (at 0 ⊗ (at 1 ⊕ pneg (at 2))) refl

-- ---- the network of links
susceptance_above : (x : ℤ) → pos 0 <ℤ x → whole (pos 0) <ℚ recip_ℚ (whole x)
susceptance_above x h = elim (≤ℚ-or-<ℚ (recip_ℚ (whole x)) (whole (pos 0))) [
  | inr above ↦ above
  | inl e ↦ absurd (<ℚ-not-≤ℚ (whole (pos 0)) (whole (pos 1)) one_above (subst (λ y. y ≤ℚ whole (pos 0)) (recip_times x h)
      (by_le1 (whole x ∷ recip_ℚ (whole x) ∷ []) (at 0 ⊗ at 1) pnil (at 0) (at 1) pnil (NonNeg_from (whole x) (<ℚ-≤ℚ (whole (pos 0)) (whole x) (whole_above x h))) e refl)))
]

module _ (guess : Guess) (links : List Link) (all : All (IsGuessOf guess) links) where
  network_is : IsTheoryNetwork (link_network (length guess.angles.items) links)
  network_is = record {
    branches = λ b c.
        let r = from_map link_branch links b c in
        let is = of_member (IsGuessOf guess) links r.0 all r.1 in
        subst (IsBranchOf (link_network (length guess.angles.items) links)) r.2 (record { from = is.link_is.from; to = is.link_is.to; susceptance = susceptance_above r.0.reactance is.link_is.reactance });
  }

  flow_is_between : (b : Branch) → Contains (link_network (length guess.angles.items) links).branches b → (low_flow guess b ≤ℚ flow (guessed guess) b) × (flow (guessed guess) b ≤ℚ high_flow guess b)
  flow_is_between b c =
      let r = from_map link_branch links b c in
      let is = of_member (IsGuessOf guess) links r.0 all r.1 in
      subst (λ (x : Branch). (low_flow guess x ≤ℚ flow (guessed guess) x) × (flow (guessed guess) x ≤ℚ high_flow guess x)) r.2 (least_is_low guess r.0 is, most_is_high guess r.0 is)

  -- the parts that a branch carries at any solution
  pub carried_between : (reference : ℕ) (transfer : Transfer) (b : Branch) (carried : Fraction) → Contains (link_network (length guess.angles.items) links).branches b
      → IsCarried (link_network (length guess.angles.items) links) reference transfer.source transfer.sink b carried
      → ((low_flow guess b -ℚ sum_by (error_at (link_network (length guess.angles.items) links) guess transfer) (others (link_network (length guess.angles.items) links) reference)) ≤ℚ (whole transfer.parts *ℚ carried))
      × ((whole transfer.parts *ℚ carried) ≤ℚ (high_flow guess b +ℚ sum_by (error_at (link_network (length guess.angles.items) links) guess transfer) (others (link_network (length guess.angles.items) links) reference)))
  carried_between reference transfer b carried c is =
      let n = link_network (length guess.angles.items) links in
      let p = whole transfer.parts in
      let low = low_flow guess in
      let high = high_flow guess in
      let error = error_at n guess transfer in
      let near : (i : ℕ) → i < n.buses → ¬ (i ≡ reference)
      → ((injection n (λ j. p *ℚ is.angle j) i -ℚ error i) ≤ℚ net_outflow n low high i) × (net_outflow n high low i ≤ℚ (injection n (λ j. p *ℚ is.angle j) i +ℚ error i))
      = λ i h d. subst (λ w. ((w -ℚ error i) ≤ℚ net_outflow n low high i) × (net_outflow n high low i ≤ℚ (w +ℚ error i)))
      (sym (injection_times p is.angle n i ∙ ap (λ t. p *ℚ t) (is.solution.injections i h d))) (between (wanted_at transfer i) (net_outflow n low high i) (net_outflow n high low i)) in
      let it = law_of_guessed_bounds n reference (λ j. p *ℚ is.angle j) (guessed guess) low high error network_is flow_is_between near b c in
      subst (λ f. ((low b -ℚ sum_by error (others n reference)) ≤ℚ f) × (f ≤ℚ (high b +ℚ sum_by error (others n reference)))) (flow_times p is.angle b ∙ ap (λ t. p *ℚ t) is.is) it

  -- so far off is no branch by more than all errors in sum
  pub within_errors : (reference : ℕ) (transfer : Transfer) (part : ℤ) (places : ℕ) (link : Link) (carried : Fraction) (e : ℤ) → Contains links link → transfer.parts ≡ part *ℤ pos (10 ^ places)
      → IsCarried (link_network (length guess.angles.items) links) reference transfer.source transfer.sink (link_branch link) carried
      → whole e ≡ sum_by (error_at (link_network (length guess.angles.items) links) guess transfer) (others (link_network (length guess.angles.items) links) reference)
      → IsWithin guess (link_branch link) part places carried e
  within_errors reference transfer part places link carried e c parts is sum =
      let b = link_branch link in
      let it = carried_between reference transfer b carried (to_map link_branch links link c) is in
      let units : whole transfer.parts *ℚ carried ≡ whole part *ℚ in_units places carried = ap (λ z. whole z *ℚ carried) parts ∙ ap (λ t. t *ℚ carried) (whole-*ℚ part (pos (10 ^ places))) ∙ ring_ℚ.times_assoc (whole part) (whole (pos (10 ^ places))) carried in
      record {
        low = subst₂ (λ x y. (low_flow guess b -ℚ x) ≤ℚ y) (sym sum) units it.0;
        high = subst₂ (λ x y. y ≤ℚ (high_flow guess b +ℚ x)) (sym sum) units it.1;
      }
