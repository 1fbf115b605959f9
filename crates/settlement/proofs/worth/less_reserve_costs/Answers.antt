use Rattle.std.proofs.Common.{rules, Err, refl, ◌<◌, ◌≡◌, ◌∙◌, ap, length, pos, arith, sym}
use Rattle.std.specs.Prelude.{List, slice_index_or}
use Rattle.fraction_theory.specs.Fraction.{◌+ℚ◌}
use Rattle.fraction_theory.specs.Sums.{total}
use Rattle.fraction_theory.proofs.FieldLaws.{+ℚ_nil}
use Rattle.exact_fraction.proofs.Shares.{share_refused}
use Rattle.market_model.specs.declared.participants.Reserve.{Reserve}
use Rattle.market_model.specs.declared.participants.ReserveOffer.{ReserveOffer}
use Rattle.market_model.specs.Valued.{passed_at}
use Rattle.settlement.proofs.WorthLemmas.{cost_step, costs_all, costs_to, offer_refused}
use Rattle.settlement.proofs.worth.less_reserve_costs.Goals as goal

pub loop-place-init : goal.loop-place-init
loop-place-init g c = sym (+ℚ_nil (g.N.Exact.value c.args.of_energy))

pub loop-place-preserved : goal.loop-place-preserved
loop-place-preserved g c =
    let value = g.N.Exact.value in
    let k = c.loop-place.place in
    let offers = c.slice-offer-items.ensures ∙ ap (λ (r : Reserve). r.offers) c.reserve.ensures.reserve in
    cost_step value c.args.market.now c.args.reserve.now (value c.args.of_energy) k _ c.index-reserve-place.result (value c.offer_value.result) _ _
    (omega (arith, c.requires, c.loop-place-test.true, ap length offers)) c.index-reserve-place.is
    (ap (λ (os : List ReserveOffer). slice_index_or os k (record { unit = 0; quantity = pos 0; price = pos 0 })) offers)
    c.offer_value.ensures c.loop-place.invariant c.in_ok-sum.ensures.exact

pub returns-clause-worth : goal.returns-clause-worth
returns-clause-worth g c =
    let m = c.args.market.now in
    let value = g.N.Exact.value in
    let offers = c.slice-offer-items.ensures ∙ ap (λ (r : Reserve). r.offers) c.reserve.ensures.reserve in
    let all : c.loop-place.place ≡ length m.reserve.offers = omega (arith, c.loop-place-test.false, c.loop-place.auto.place-end, ap length offers) in
    λ blocks of_energy.
    costs_all value m c.args.reserve.now blocks (value c.args.of_energy) (value c.loop-place.sum) of_energy
    (c.loop-place.invariant ∙ ap (λ n. value c.args.of_energy +ℚ total (costs_to value m c.args.reserve.now n)) all)

pub returns-in_err-sum-clause-stops : goal.returns-in_err-sum-clause-stops
returns-in_err-sum-clause-stops g c =
    let m = c.args.market.now in
    let value = g.N.Exact.value in
    let k = c.loop-place.place in
    let offers = c.slice-offer-items.ensures ∙ ap (λ (r : Reserve). r.offers) c.reserve.ensures.reserve in
    let below : k < length m.reserve.offers = omega (arith, c.loop-place-test.true, ap length offers) in
    let given : c.from_residual.result ≡ Err c.in_err-sum.field-0.0 = search rules in
    λ blocks of_energy. rw given
    (offer_refused value m c.args.reserve.now blocks (value c.args.of_energy) k _ c.index-reserve-place.result (value c.offer_value.result) (value c.loop-place.sum) g.N.Exact.bound (passed_at value c.in_err-sum.field-0.0)
    of_energy below (omega (arith, below, c.requires)) c.index-reserve-place.is
    (ap (λ (os : List ReserveOffer). slice_index_or os k (record { unit = 0; quantity = pos 0; price = pos 0 })) offers)
    c.offer_value.ensures c.loop-place.invariant
    (share_refused value g.N.Exact.bound c.loop-place.sum c.offer_value.result c.index-reserve-place.result c.in_err-sum.field-0.0 _ _ _ c.in_err-sum.ensures refl refl refl))
