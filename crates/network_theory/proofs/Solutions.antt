-- Differences of angles are angles of the differences of injections; with the least angle this gives the greatest one, that there is one
-- solution alone, and how the angles of a transfer fall between its two ends.
use Rattle.std.specs.Prelude.{◌≡◌, ℕ, ◌<◌, ◌==◌, pos, List, [], ◌∷◌, filter, refl}
use Rattle.std.proofs.Common.{arith, ap, sym, ◌∙◌, subst, inl, inr}
use mathlib.Core.Path.{ap₂}
use Rattle.fraction_theory.specs.Fraction.{Fraction, whole, ◌-ℚ◌}
use Rattle.fraction_theory.specs.Order.{◌≤ℚ◌, ◌<ℚ◌}
use Rattle.fraction_theory.specs.Sums.{sum_by}
use Rattle.fraction_theory.proofs.Ring.{by_ring, by_ring1, at, pnil, pone, pneg, ◌⊕◌, ◌⊗◌}
use Rattle.fraction_theory.proofs.FieldLaws.{ring_ℚ}
use Rattle.fraction_theory.proofs.OrderLaws.{≤ℚ_antisym, ≤ℚ_of_same, <ℚ_irrefl, <ℚ-≤ℚ, <ℚ-not-≤ℚ, by_le1, by_le2, NonNeg-one, NonNeg_to}
use Rattle.fraction_theory.proofs.SumLaws.{sum_by-same, sum_by-nil}
use Rattle.fraction_theory.proofs.ListSums.{same_or_not}
use Rattle.network_theory.specs.Laws.{LawOfTheLeastAngle, LawOfTheGreatestAngle, LawOfOneSolution, LawOfRest, LawOfTheTransfer}
use Rattle.network_theory.specs.Networks.{Branch, Network, flow, leaving, entering, injection, IsTransfer}
use Rattle.network_theory.proofs.SignedSums.{sum_by-minus}
use Rattle.network_theory.proofs.LeastAngles.{least_angle}
use Rattle.network_theory.proofs.Chains.{connected_to}

module _ (a b : ℕ → Fraction) where
  pub flow_minus : (br : Branch) → flow (λ j. a j -ℚ b j) br ≡ flow a br -ℚ flow b br
  flow_minus br = by_ring ring_ℚ (br.susceptance ∷ a br.from ∷ a br.to ∷ b br.from ∷ b br.to ∷ [])
      (at 0 ⊗ ((at 1 ⊕ pneg (at 3)) ⊕ pneg (at 2 ⊕ pneg (at 4)))) ((at 0 ⊗ (at 1 ⊕ pneg (at 2))) ⊕ pneg (at 0 ⊗ (at 3 ⊕ pneg (at 4)))) refl

  flows_minus : (bs : List Branch) → sum_by (flow (λ j. a j -ℚ b j)) bs ≡ sum_by (flow a) bs -ℚ sum_by (flow b) bs
  flows_minus bs = sum_by-same (flow (λ j. a j -ℚ b j)) (λ br. flow a br -ℚ flow b br) bs flow_minus ∙ sum_by-minus (flow a) (flow b) bs

  pub injection_minus : (n : Network) (i : ℕ) → injection n (λ j. a j -ℚ b j) i ≡ injection n a i -ℚ injection n b i
  unfolding leaving entering
  injection_minus n i =
      let out = filter (λ (br : Branch). br.from == i) n.branches in
      let into = filter (λ (br : Branch). br.to == i) n.branches in
      ap₂ ◌-ℚ◌ (flows_minus out) (flows_minus into)
      ∙ by_ring ring_ℚ (sum_by (flow a) out ∷ sum_by (flow b) out ∷ sum_by (flow a) into ∷ sum_by (flow b) into ∷ [])
      ((at 0 ⊕ pneg (at 1)) ⊕ pneg (at 2 ⊕ pneg (at 3))) ((at 0 ⊕ pneg (at 2)) ⊕ pneg (at 1 ⊕ pneg (at 3))) refl

-- equal angles carry nothing
flows_level : (c : Fraction) (bs : List Branch) → sum_by (flow (λ _. c)) bs ≡ whole (pos 0)
flows_level c bs = sum_by-same (flow (λ _. c)) (λ _. whole (pos 0)) bs (λ br. by_ring ring_ℚ (br.susceptance ∷ c ∷ []) (at 0 ⊗ (at 1 ⊕ pneg (at 1))) pnil refl) ∙ sum_by-nil bs

pub injection_level : (n : Network) (c : Fraction) (i : ℕ) → injection n (λ _. c) i ≡ whole (pos 0)
unfolding leaving entering
injection_level n c i =
    ap₂ ◌-ℚ◌ (flows_level c (filter (λ (br : Branch). br.from == i) n.branches)) (flows_level c (filter (λ (br : Branch). br.to == i) n.branches))
    ∙ by_ring ring_ℚ [] (pnil ⊕ pneg pnil) pnil refl

pub law_of_the_least_angle : LawOfTheLeastAngle
law_of_the_least_angle n r angle is c h = least_angle n angle is r h c

-- the angles turned over
pub law_of_the_greatest_angle : LawOfTheGreatestAngle
law_of_the_greatest_angle n r angle is c h i p =
    let zero = whole (pos 0) in
    let over : (i : ℕ) → i < n.buses → ¬ (i ≡ r) → zero ≤ℚ injection n (λ j. zero -ℚ angle j) i = λ i p d.
    subst (λ t. zero ≤ℚ t) (sym (injection_minus (λ _. zero) angle n i ∙ ap (λ t. t -ℚ injection n angle i) (injection_level n zero i)))
    (by_le1 (injection n angle i ∷ []) pnil (pnil ⊕ pneg (at 0)) pone (at 0) pnil NonNeg-one (h i p d) refl) in
    by_le1 (angle i ∷ angle r ∷ []) (at 0) (at 1) pone (pnil ⊕ pneg (at 1)) (pnil ⊕ pneg (at 0)) NonNeg-one (law_of_the_least_angle n r (λ j. zero -ℚ angle j) is c over i p) refl

pub law_of_rest : LawOfRest
law_of_rest n r angle is c h i p = ≤ℚ_antisym (angle i) (angle r)
    (law_of_the_greatest_angle n r angle is c (λ i p d. ≤ℚ_of_same (injection n angle i) (whole (pos 0)) (h i p d)) i p)
    (law_of_the_least_angle n r angle is c (λ i p d. ≤ℚ_of_same (whole (pos 0)) (injection n angle i) (sym (h i p d))) i p)

pub law_of_one_solution : LawOfOneSolution
law_of_one_solution n r a b is c same h i p =
    let apart : a i -ℚ b i ≡ a r -ℚ b r = law_of_rest n r (λ j. a j -ℚ b j) is c
    (λ i p d. injection_minus a b n i ∙ ap (λ t. t -ℚ injection n b i) (h i p d) ∙ ring_ℚ.plus_neg (injection n b i)) i p in
    by_ring1 ring_ℚ (a i ∷ b i ∷ []) (at 0) (at 1) pone (at 0 ⊕ pneg (at 1)) pnil (apart ∙ ap (λ t. t -ℚ b r) same ∙ ring_ℚ.plus_neg (b r)) refl

pub one_above : whole (pos 0) <ℚ whole (pos 1)
unfolding whole
one_above = record { cross = Prim.omega arith }

pub apart : ¬ (whole (pos 1) ≡ whole (pos 0))
apart e = <ℚ_irrefl (whole (pos 0)) (subst (λ t. whole (pos 0) <ℚ t) e one_above)

pub zero_within_one : whole (pos 0) ≤ℚ whole (pos 1)
zero_within_one = <ℚ-≤ℚ (whole (pos 0)) (whole (pos 1)) one_above

-- the ends of a transfer are two
pub ends_differ : (n : Network) (angle : ℕ → Fraction) (source sink : ℕ) → IsTransfer n angle source sink → ¬ (source ≡ sink)
ends_differ n angle source sink t e =
    let one : whole (pos 1) ≡ whole (pos 0) -ℚ whole (pos 1) = sym t.source_has ∙ ap (injection n angle) e ∙ t.sink_has ∙ by_ring ring_ℚ [] (pneg pone) (pnil ⊕ pneg pone) refl in
    <ℚ-not-≤ℚ (whole (pos 0)) (whole (pos 1)) one_above (by_le2 [] pone pnil pone pone (pnil ⊕ pneg pone) pone pnil pone NonNeg-one (≤ℚ_of_same (whole (pos 1)) (whole (pos 0) -ℚ whole (pos 1)) one)
    NonNeg-one (NonNeg_to (whole (pos 1)) NonNeg-one) refl)

pub law_of_the_transfer : LawOfTheTransfer
law_of_the_transfer n r angle source sink is c t i p = (
  law_of_the_least_angle n sink angle is (connected_to n r sink c t.sink_is) (λ i p d. elim (same_or_not i source) [
    | inl e ↦ subst (λ x. whole (pos 0) ≤ℚ x) (sym (ap (injection n angle) e ∙ t.source_has)) zero_within_one
    | inr d' ↦ ≤ℚ_of_same (whole (pos 0)) (injection n angle i) (sym (t.elsewhere i p d' d))
  ]) i p,
  law_of_the_greatest_angle n source angle is (connected_to n r source c t.source_is) (λ i p d. elim (same_or_not i sink) [
    | inl e ↦ subst (λ x. x ≤ℚ whole (pos 0)) (sym (ap (injection n angle) e ∙ t.sink_has)) (by_le1 [] (pneg pone) pnil pone pnil pone NonNeg-one zero_within_one refl)
    | inr d' ↦ ≤ℚ_of_same (injection n angle i) (whole (pos 0)) (t.elsewhere i p d d')
  ]) i p,
)
