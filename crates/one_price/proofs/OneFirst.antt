-- At most one set of prices is first.
use Rattle.std.specs.Prelude.{◌≡◌}
use Rattle.std.proofs.Common.{ap, sym, ◌∙◌, subst, inl, inr}
use Rattle.fraction_theory.specs.Fraction.{Fraction}
use Rattle.fraction_theory.proofs.OrderLaws.{<ℚ-not-≤ℚ, three_ways, ≤ℚ_antisym}
use Rattle.market_model.specs.declared.answered.Duals.{Duals}
use Rattle.market_model.specs.declared.participants.Parts.{Parts}
use Rattle.market_model.specs.Dispatch.{Dispatch}
use Rattle.one_price.specs.FirstPrices.{AreFirstDuals, EnergyMayCost, HasNoGreatest, HasNoLeast, IsEnergyPrice, IsGreatest, IsLeast, other_prices, sum_of_prices, with_energy}
use Rattle.one_price.specs.FirstPrices.{by_price, by_sum, greatest, least, neither}
use Rattle.one_price.specs.Laws.{LawOfOnePrice}
use Rattle.one_price.proofs.ListLemmas.{one_list}
use Rattle.one_price.proofs.NamedLemmas.{law_of_other_prices, others_long}

-- ---- one price of energy
module _ (May : Fraction → Type 0) where
  one_least : (p q : Fraction) → IsLeast May p → IsLeast May q → p ≡ q
  one_least p q a b = ≤ℚ_antisym p q (a.least q b.may) (b.least p a.may)

  one_greatest : (p q : Fraction) → IsGreatest May p → IsGreatest May q → p ≡ q
  one_greatest p q a b = ≤ℚ_antisym p q (b.greatest p a.may) (a.greatest q b.may)

  -- where there is a least it is not so that there is none
  some_least : (p : Fraction) → IsLeast May p → ¬ (HasNoLeast May)
  some_least p a none = let (q, may, below) = none p a.may in <ℚ-not-≤ℚ q p below (a.least q may)

  some_greatest : (p : Fraction) → IsGreatest May p → ¬ (HasNoGreatest May)
  some_greatest p a none = let (q, may, above) = none p a.may in <ℚ-not-≤ℚ p q above (a.greatest q may)

  one_energy : (p q : Fraction) → IsEnergyPrice May p → IsEnergyPrice May q → p ≡ q
  one_energy p q (least a) (least b) = one_least p q a b
  one_energy p q (least a) (greatest none b) = absurd (some_least p a none)
  one_energy p q (least a) (neither none not_most b) = absurd (some_least p a none)
  one_energy p q (greatest none a) (least b) = absurd (some_least q b none)
  one_energy p q (greatest none a) (greatest not_least b) = one_greatest p q a b
  one_energy p q (greatest none a) (neither not_least most b) = absurd (some_greatest p a most)
  one_energy p q (neither none not_most a) (least b) = absurd (some_least q b none)
  one_energy p q (neither none not_most a) (greatest most b) = absurd (some_greatest q b not_most)
  one_energy p q (neither none not_most a) (neither most more b) = a ∙ sym b

-- ---- one set of other prices
module _ (m : Parts) (x : Dispatch) (d e : Duals Fraction) (p : AreFirstDuals m x d) (q : AreFirstDuals m x e) where
  one_sum : sum_of_prices m d ≡ sum_of_prices m e
  one_sum = elim (three_ways (sum_of_prices m d) (sum_of_prices m e)) [
    | inl l ↦ absurd (q.first d p.supported p.proper (by_sum l))
    | inr w ↦ elim w [ inl s ↦ s | inr l ↦ absurd (p.first e q.supported q.proper (by_sum l)) ]
  ]

  one_others : other_prices m d ≡ other_prices m e
  one_others = one_list (other_prices m d) (other_prices m e) (others_long m d e)
      (λ k h before less. q.first d p.supported p.proper (by_price k h one_sum before less))
      (λ k h before less. p.first e q.supported q.proper (by_price k h (sym one_sum) before less))

pub law_of_one_price : LawOfOnePrice
law_of_one_price m x d e market p q =
    let known : e ≡ with_energy d e.energy = law_of_other_prices m d e market p.proper q.proper (one_others m x d e p q) in
    let energy : IsEnergyPrice (EnergyMayCost m x d) e.energy = subst (λ (f : Duals Fraction). IsEnergyPrice (EnergyMayCost m x f) e.energy) known q.energy in
    ap (with_energy d) (one_energy (EnergyMayCost m x d) d.energy e.energy p.energy energy) ∙ sym known
