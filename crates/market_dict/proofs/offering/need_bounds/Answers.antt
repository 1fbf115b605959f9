use Rattle.std.proofs.Common.{◌≡◌, ◌∙◌, [], ◌∷◌, ap, sym, subst, subst₂}
use Rattle.fraction_theory.specs.Fraction.{Fraction, whole}
use Rattle.fraction_theory.specs.Order.{◌≤ℚ◌}
use Rattle.fraction_theory.proofs.OrderLaws.{≤ℚ_refl, <ℚ-≤ℚ}
use Rattle.market_model.specs.declared.participants.Reserve.{Reserve}
use Rattle.market_model.specs.Reserves.{reserve_need}
use Rattle.market_system.specs.MarketSystem.{most_reserve, reserve_offered}
use Rattle.market_dict.proofs.OfferLemmas.{need_most, offered_most}
use Rattle.market_dict.proofs.offering.need_bounds.Goals as goal
use Rattle.market_dict.proofs.offering.need_bounds.Goals.{in-Less, in-Equal, in-Greater}

pub returns-clause-bounds : goal.returns-clause-bounds
returns-clause-bounds g c =
    let m = c.args.market.now in
    let value = g.N.Exact.value in
    let need : value c.need_quantity-need.result ≡ reserve_need m = c.need_quantity-need.ensures ∙ ap (λ (r : Reserve). whole r.need) c.reserve.ensures.reserve in
    let offered : value c.in_ok-offered.offered ≡ reserve_offered m = c.in_ok-offered.ensures.offered in
    let most : value c.match-order.high ≡ most_reserve m = elim c.match-order.branch [
      | in-Less w ↦
          let less = <ℚ-≤ℚ (value c.in_ok-offered.offered) (value c.need_quantity-need.result) (rw w.in-Less.is at c.order.ensures) in
          ap value w.high-is ∙ need ∙ need_most m (subst₂ ◌≤ℚ◌ offered need less)
      | in-Equal w ↦
          let same : value c.in_ok-offered.offered ≡ value c.need_quantity-need.result = rw w.in-Equal.is at c.order.ensures in
          ap value w.high-is ∙ offered ∙ offered_most m (subst (λ x. x ≤ℚ reserve_offered m) (sym offered ∙ same ∙ need) (≤ℚ_refl (reserve_offered m)))
      | in-Greater w ↦
          let less = <ℚ-≤ℚ (value c.need_quantity-need.result) (value c.in_ok-offered.offered) (rw w.in-Greater.is at c.order.ensures) in
          ap value w.high-is ∙ offered ∙ offered_most m (subst₂ ◌≤ℚ◌ need offered less)
    ] in
    record { lows = ap (λ (x : Fraction). x ∷ []) need; highs = ap (λ (x : Fraction). x ∷ []) most }
