-- By how much the flows at guessed angles are off, where the angles are known and where only bounds on those flows are.
use Rattle.std.specs.Prelude.{ℕ, ◌==◌, pos, [], ◌∷◌, filter, refl}
use Rattle.std.specs.List.{Contains}
use Rattle.std.proofs.Common.{ap, subst₂}
use Rattle.fraction_theory.specs.Fraction.{Fraction, whole, ◌+ℚ◌, ◌-ℚ◌, neg_ℚ}
use Rattle.fraction_theory.specs.Order.{◌≤ℚ◌}
use Rattle.fraction_theory.specs.Signs.{abs_ℚ}
use Rattle.fraction_theory.specs.Sums.{sum_by}
use Rattle.fraction_theory.proofs.Ring.{at, pnil, pone, pneg, ◌⊕◌, ◌⊗◌}
use Rattle.fraction_theory.proofs.OrderLaws.{≤ℚ_refl, ≤ℚ_trans, by_le2, NonNeg-one}
use Rattle.fraction_theory.proofs.SignLaws.{abs_within}
use Rattle.fraction_theory.proofs.SumLaws.{sum_by-same}
use Rattle.fraction_theory.proofs.ListSums.{Contains-from_filter}
use Rattle.network_theory.specs.Laws.{LawOfTheGuess, LawOfGuessedBounds}
use Rattle.network_theory.specs.Networks.{Branch, Network, others, flow, leaving, entering, injection, net_outflow}
use Rattle.network_theory.proofs.Factors.{times_size, flow_within}
use Rattle.network_theory.proofs.Places.{other_place}
use Rattle.network_theory.proofs.SignedSums.{sum_within}
use Rattle.network_theory.proofs.Solutions.{flow_minus, injection_minus, zero_within_one}

-- the differences of the angles have the differences of the injections
pub law_of_the_guess : LawOfTheGuess
law_of_the_guess n reference angle guess is b c = subst₂ (λ x y. abs_ℚ x ≤ℚ y) (flow_minus guess angle b)
    (sum_by-same (λ i. abs_ℚ (injection n (λ j. guess j -ℚ angle j) i)) (λ i. abs_ℚ (injection n guess i -ℚ injection n angle i)) (others n reference) (λ i. ap abs_ℚ (injection_minus guess angle n i)))
    (flow_within n (λ j. guess j -ℚ angle j) reference is b c)

-- a number whose size is at most a bound is between the bound and its opposite
within_size : (x most : Fraction) → abs_ℚ x ≤ℚ most → (neg_ℚ most ≤ℚ x) × (x ≤ℚ most)
within_size x most h =
    let one = whole (pos 1) in
    let below_one : neg_ℚ one ≤ℚ one = by_le2 [] (pneg pone) pone pone pnil pone pone pnil pone NonNeg-one zero_within_one NonNeg-one zero_within_one refl in
    let vs = x ∷ most ∷ abs_ℚ x ∷ [] in (
      by_le2 vs (pneg (at 1)) (at 0) pone (pneg pone ⊗ at 0) (at 2) pone (at 2) (at 1) NonNeg-one (times_size (neg_ℚ one) x (≤ℚ_refl (neg_ℚ one)) below_one) NonNeg-one h refl,
      by_le2 vs (at 0) (at 1) pone (pone ⊗ at 0) (at 2) pone (at 2) (at 1) NonNeg-one (times_size one x below_one (≤ℚ_refl one)) NonNeg-one h refl,
    )

module _ (n : Network) (guess : ℕ → Fraction) (low high : Branch → Fraction)
    (bounds : (b : Branch) → Contains n.branches b → (low b ≤ℚ flow guess b) × (flow guess b ≤ℚ high b)) where
  -- what a bus puts in is within what the bounds leave possible
  possible : (i : ℕ) → (net_outflow n low high i ≤ℚ injection n guess i) × (injection n guess i ≤ℚ net_outflow n high low i)
  unfolding leaving entering
  possible i =
      let out = filter (λ (b : Branch). b.from == i) n.branches in
      let into = filter (λ (b : Branch). b.to == i) n.branches in
      let out_bounds = λ (b : Branch) (c : Contains out b). bounds b (Contains-from_filter (λ (x : Branch). x.from == i) n.branches b c).0 in
      let into_bounds = λ (b : Branch) (c : Contains into b). bounds b (Contains-from_filter (λ (x : Branch). x.to == i) n.branches b c).0 in
      let vs = sum_by low out ∷ sum_by (flow guess) out ∷ sum_by high out ∷ sum_by low into ∷ sum_by (flow guess) into ∷ sum_by high into ∷ [] in (
        by_le2 vs (at 0 ⊕ pneg (at 5)) (at 1 ⊕ pneg (at 4)) pone (at 0) (at 1) pone (at 4) (at 5) NonNeg-one (sum_within low (flow guess) out (λ b c. (out_bounds b c).0))
            NonNeg-one (sum_within (flow guess) high into (λ b c. (into_bounds b c).1)) refl,
        by_le2 vs (at 1 ⊕ pneg (at 4)) (at 2 ⊕ pneg (at 3)) pone (at 1) (at 2) pone (at 3) (at 4) NonNeg-one (sum_within (flow guess) high out (λ b c. (out_bounds b c).1))
            NonNeg-one (sum_within low (flow guess) into (λ b c. (into_bounds b c).0)) refl,
      )

  off_within : (wanted error : Fraction) (i : ℕ) → ((wanted -ℚ error) ≤ℚ net_outflow n low high i) × (net_outflow n high low i ≤ℚ (wanted +ℚ error))
      → abs_ℚ (injection n guess i -ℚ wanted) ≤ℚ error
  off_within wanted error i h =
      let possible_is = possible i in
      let vs = injection n guess i ∷ wanted ∷ error ∷ net_outflow n low high i ∷ net_outflow n high low i ∷ [] in
      abs_within (injection n guess i -ℚ wanted) error
      (by_le2 vs (pneg (at 2)) (at 0 ⊕ pneg (at 1)) pone (at 1 ⊕ pneg (at 2)) (at 3) pone (at 3) (at 0) NonNeg-one h.0 NonNeg-one possible_is.0 refl)
      (by_le2 vs (at 0 ⊕ pneg (at 1)) (at 2) pone (at 0) (at 4) pone (at 4) (at 1 ⊕ at 2) NonNeg-one possible_is.1 NonNeg-one h.1 refl)

pub law_of_guessed_bounds : LawOfGuessedBounds
law_of_guessed_bounds n reference angle guess low high error is bounds near b c =
    let all : Fraction = sum_by error (others n reference) in
    let off = λ (i : ℕ). abs_ℚ (injection n guess i -ℚ injection n angle i) in
    let off_by = λ (i : ℕ) (k : Contains (others n reference) i). let p = other_place n reference i k in off_within n guess low high bounds (injection n angle i) (error i) i (near i p.0 p.1) in
    let most : abs_ℚ (flow guess b -ℚ flow angle b) ≤ℚ all =
    ≤ℚ_trans (abs_ℚ (flow guess b -ℚ flow angle b)) (sum_by off (others n reference)) all (law_of_the_guess n reference angle guess is b c) (sum_within off error (others n reference) off_by) in
    let both = within_size (flow guess b -ℚ flow angle b) all most in
    let here = bounds b c in
    let vs = low b ∷ high b ∷ flow guess b ∷ flow angle b ∷ all ∷ [] in (
      by_le2 vs (at 0 ⊕ pneg (at 4)) (at 3) pone (at 0) (at 2) pone (at 2 ⊕ pneg (at 3)) (at 4) NonNeg-one here.0 NonNeg-one both.1 refl,
      by_le2 vs (at 3) (at 1 ⊕ at 4) pone (at 2) (at 1) pone (pneg (at 4)) (at 2 ⊕ pneg (at 3)) NonNeg-one here.1 NonNeg-one both.0 refl,
    )
