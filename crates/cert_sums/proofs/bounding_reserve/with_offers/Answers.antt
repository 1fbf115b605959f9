use Rattle.std.proofs.Common.{rules, Err, ◌≡◌, ◌∙◌, ◌<◌, List, ap, arith, length, pos, subst, sym, inr}
use Rattle.std.specs.Prelude.{slice_index_or}
use Rattle.fraction_theory.specs.Fraction.{whole}
use Rattle.market_model.specs.declared.participants.Reserve.{Reserve}
use Rattle.market_model.specs.declared.participants.ReserveOffer.{ReserveOffer}
use Rattle.market_model.specs.Optimality.{reserve_worth}
use Rattle.market_model.specs.Valued.{passed_at}
use Rattle.market_model.proofs.ReserveSums.{offer_unit-in}
use Rattle.cert_sums.specs.Pairs.{in_worth}
use Rattle.cert_sums.proofs.BoundLemmas.{bound_pair_of}
use Rattle.cert_sums.proofs.RoomLemmas.{offer_refused, offer_step, offers_all, offers_none}
use Rattle.cert_sums.proofs.bounding_reserve.with_offers.Goals as goal

pub loop-offer-init : goal.loop-offer-init
loop-offer-init g c = λ d price are start. offers_none c.args.market.now d (g.N.Exact.value c.args.of_blocks) start

pub loop-offer-preserved : goal.loop-offer-preserved
loop-offer-preserved g c = λ d price are start.
    let m = c.args.market.now in
    let value = g.N.Exact.value in
    let k = c.loop-offer.offer-index in
    let offers = c.slice-offer-items.ensures ∙ ap (λ (r : Reserve). r.offers) c.reserve.ensures.reserve in
    let below : k < length m.reserve.offers = omega (arith, c.loop-offer-test.true, ap length offers) in
    let offer = ap (λ (os : List ReserveOffer). slice_index_or os k (record { unit = 0; quantity = pos 0; price = pos 0 })) offers in
    let inside = subst (λ (o : ReserveOffer). o.unit < length m.units) (sym offer) (offer_unit-in m c.units-units.ensures.market k below) in
    offer_step m d k (value c.in_ok-worth.worth) (value c.offer_quantity.result) (value c.loop-offer.sum) _
    (c.in_ok-worth.ensures.worth m d inside price are ∙ ap (λ (o : ReserveOffer). reserve_worth m d o.unit) offer)
    (c.offer_quantity.ensures ∙ ap (λ (o : ReserveOffer). whole o.quantity) offer) (c.loop-offer.invariant d price are start) c.in_ok-sum.ensures.sum

pub returns-in_err-worth-clause-stops : goal.returns-in_err-worth-clause-stops
returns-in_err-worth-clause-stops g c =
    let given : c.from_residual.result ≡ Err c.in_err-worth.field-0.0 = search rules in
    λ d price are start. rw given (
    let m = c.args.market.now in
    let value = g.N.Exact.value in
    let k = c.loop-offer.offer-index in
    let offers = c.slice-offer-items.ensures ∙ ap (λ (r : Reserve). r.offers) c.reserve.ensures.reserve in
    let below : k < length m.reserve.offers = omega (arith, c.loop-offer-test.true, ap length offers) in
    let offer = ap (λ (os : List ReserveOffer). slice_index_or os k (record { unit = 0; quantity = pos 0; price = pos 0 })) offers in
    let inside = subst (λ (o : ReserveOffer). o.unit < length m.units) (sym offer) (offer_unit-in m c.units-units.ensures.market k below) in
    in_worth (inr (c.in_err-worth.ensures.stops m d inside price are)))

pub returns-in_err-sum-clause-stops : goal.returns-in_err-sum-clause-stops
returns-in_err-sum-clause-stops g c =
    let given : c.from_residual-in_err-sum.result ≡ Err c.in_err-sum.field-0.0 = search rules in
    λ d price are start. rw given (
    let m = c.args.market.now in
    let value = g.N.Exact.value in
    let k = c.loop-offer.offer-index in
    let offers = c.slice-offer-items.ensures ∙ ap (λ (r : Reserve). r.offers) c.reserve.ensures.reserve in
    let below : k < length m.reserve.offers = omega (arith, c.loop-offer-test.true, ap length offers) in
    let offer = ap (λ (os : List ReserveOffer). slice_index_or os k (record { unit = 0; quantity = pos 0; price = pos 0 })) offers in
    let inside = subst (λ (o : ReserveOffer). o.unit < length m.units) (sym offer) (offer_unit-in m c.units-units.ensures.market k below) in
    bound_pair_of m d g.N.Exact.bound (passed_at value c.in_err-sum.field-0.0)
    (offer_refused m d k (value c.in_ok-worth.worth) (value c.offer_quantity.result) (value c.loop-offer.sum) g.N.Exact.bound (passed_at value c.in_err-sum.field-0.0) below
    (c.in_ok-worth.ensures.worth m d inside price are ∙ ap (λ (o : ReserveOffer). reserve_worth m d o.unit) offer)
    (c.offer_quantity.ensures ∙ ap (λ (o : ReserveOffer). whole o.quantity) offer) (c.loop-offer.invariant d price are start) c.in_err-sum.ensures.stops))

pub returns-clause-bound : goal.returns-clause-bound
returns-clause-bound g c = λ d price are start.
    let m = c.args.market.now in
    let offers = c.slice-offer-items.ensures ∙ ap (λ (r : Reserve). r.offers) c.reserve.ensures.reserve in
    let all : c.loop-offer.offer-index ≡ length m.reserve.offers = omega (arith, c.loop-offer-test.false, c.loop-offer.auto.offer-index-end, ap length offers) in
    c.loop-offer.invariant d price are start ∙ rw all (offers_all m d)
