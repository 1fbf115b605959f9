use Rattle.std.proofs.Common.{rules, Err, ◌≡◌, ◌∙◌, ◌<◌, List, ap, arith, length, pos, subst, sym}
use Rattle.std.specs.Prelude.{slice_index_or}
use Rattle.fraction_theory.specs.Fraction.{whole}
use Rattle.market_model.specs.declared.participants.Reserve.{Reserve}
use Rattle.market_model.specs.declared.participants.ReserveOffer.{ReserveOffer}
use Rattle.market_model.specs.Optimality.{reserve_worth}
use Rattle.market_model.specs.Valued.{duals_at, passed_at}
use Rattle.market_model.proofs.ReserveSums.{offer_unit-in}
use Rattle.clear_loop.proofs.FarkasSums.{offer_refused, offer_step, offers_all, offers_none, reserve_refused_there}
use Rattle.clear_loop.proofs.bounding_reserve.with_offers.Goals as goal

pub loop-offer-init : goal.loop-offer-init
loop-offer-init g c = offers_none c.args.market.now (duals_at g.N.Exact.value c.args.duals.now) (g.N.Exact.value c.args.of_blocks) c.requires

pub returns-in_err-worth-clause-stops : goal.returns-in_err-worth-clause-stops
returns-in_err-worth-clause-stops g c =
    let m = c.args.market.now in
    let value = g.N.Exact.value in
    let k = c.loop-offer.offer-index in
    let offers = c.slice-offer-items.ensures ∙ ap (λ (r : Reserve). r.offers) c.reserve.ensures.reserve in
    let below : k < length m.reserve.offers = omega (arith, c.loop-offer-test.true, ap length offers) in
    let offer = ap (λ (os : List ReserveOffer). slice_index_or os k (record { unit = 0; quantity = pos 0; price = pos 0 })) offers in
    let inside = subst (λ (o : ReserveOffer). o.unit < length m.units) (sym offer) (offer_unit-in m c.units-units.ensures.market k below) in
    let given : c.from_residual.result ≡ Err c.in_err-worth.field-0.0 = search rules in
    rw given
    (reserve_refused_there m (duals_at value c.args.duals.now) _ inside c.in_err-worth.ensures.offers g.N.Exact.bound (passed_at value c.in_err-worth.field-0.0) c.in_err-worth.ensures.stops)

pub loop-offer-preserved : goal.loop-offer-preserved
loop-offer-preserved g c =
    let m = c.args.market.now in
    let value = g.N.Exact.value in
    let d = duals_at value c.args.duals.now in
    let k = c.loop-offer.offer-index in
    let offers = c.slice-offer-items.ensures ∙ ap (λ (r : Reserve). r.offers) c.reserve.ensures.reserve in
    let offer = ap (λ (os : List ReserveOffer). slice_index_or os k (record { unit = 0; quantity = pos 0; price = pos 0 })) offers in
    offer_step m d k (value c.in_ok-worth.worth) (value c.offer_quantity.result)
    (c.in_ok-worth.ensures.less ∙ ap (λ (o : ReserveOffer). reserve_worth m d o.unit) offer)
    (c.offer_quantity.ensures ∙ ap (λ (o : ReserveOffer). whole o.quantity) offer) (value c.loop-offer.sum) _ c.loop-offer.invariant c.in_ok-sum.ensures.sum

pub returns-in_err-sum-clause-stops : goal.returns-in_err-sum-clause-stops
returns-in_err-sum-clause-stops g c =
    let m = c.args.market.now in
    let value = g.N.Exact.value in
    let d = duals_at value c.args.duals.now in
    let k = c.loop-offer.offer-index in
    let offers = c.slice-offer-items.ensures ∙ ap (λ (r : Reserve). r.offers) c.reserve.ensures.reserve in
    let below : k < length m.reserve.offers = omega (arith, c.loop-offer-test.true, ap length offers) in
    let offer = ap (λ (os : List ReserveOffer). slice_index_or os k (record { unit = 0; quantity = pos 0; price = pos 0 })) offers in
    let given : c.from_residual-in_err-sum.result ≡ Err c.in_err-sum.field-0.0 = search rules in
    rw given
    (offer_refused m d k (value c.in_ok-worth.worth) (value c.offer_quantity.result)
    (c.in_ok-worth.ensures.less ∙ ap (λ (o : ReserveOffer). reserve_worth m d o.unit) offer)
    (c.offer_quantity.ensures ∙ ap (λ (o : ReserveOffer). whole o.quantity) offer) (value c.loop-offer.sum) g.N.Exact.bound (passed_at value c.in_err-sum.field-0.0) below c.loop-offer.invariant c.in_err-sum.ensures.stops)

pub returns-clause-bound : goal.returns-clause-bound
returns-clause-bound g c =
    let m = c.args.market.now in
    let offers = c.slice-offer-items.ensures ∙ ap (λ (r : Reserve). r.offers) c.reserve.ensures.reserve in
    let all : c.loop-offer.offer-index ≡ length m.reserve.offers = omega (arith, c.loop-offer-test.false, c.loop-offer.auto.offer-index-end, ap length offers) in
    c.loop-offer.invariant ∙ rw all (offers_all m (duals_at g.N.Exact.value c.args.duals.now))
