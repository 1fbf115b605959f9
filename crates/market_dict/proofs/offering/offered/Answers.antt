use Rattle.std.proofs.Common.{◌≡◌, ◌∙◌, ◌<◌, ◌≤ℤ◌, List, map, ap, subst, rules, Err, refl, sym, length, arith, pos, ℕ}
use Rattle.std.specs.Prelude.{slice_index_or}
use Rattle.fraction_theory.specs.Fraction.{whole}
use Rattle.market_model.specs.declared.participants.Reserve.{Reserve}
use Rattle.market_model.specs.declared.participants.ReserveOffer.{ReserveOffer}
use Rattle.market_model.specs.Dispatch.{places}
use Rattle.fraction_theory.specs.Sums.{total}
use Rattle.exact_fraction.specs.declared.Op.TheVariants as Op
use Rattle.market_model.specs.Valued.{passed_at}
use Rattle.market_model.proofs.SumSteps.{refusal}
use Rattle.market_dict.proofs.OfferLemmas.{offered_term, offered_step, offered_refused}
use Rattle.market_dict.proofs.offering.offered.Goals as goal

pub offer_quantity-requires : goal.offer_quantity-requires
offer_quantity-requires g c =
    let m = c.args.market.now in
    let k = c.loop-offer.offer-index in
    let offers = c.slice-offer-items.ensures ∙ ap (λ (r : Reserve). r.offers) c.reserve.ensures.reserve in
    let read = ap (λ (os : List ReserveOffer). slice_index_or os k (record { unit = 0; quantity = pos 0; price = pos 0 })) offers in
    let lt : k < length m.reserve.offers = omega (arith, c.loop-offer-test.true, ap length offers) in
    subst (λ (o : ReserveOffer). pos 0 ≤ℤ o.quantity) (sym read) (c.reserve.ensures.market.reserve.each k (record { unit = 0; quantity = pos 0; price = pos 0 }) lt).quantity

pub loop-offer-preserved : goal.loop-offer-preserved
loop-offer-preserved g c =
    let m = c.args.market.now in
    let k = c.loop-offer.offer-index in
    let offers = c.slice-offer-items.ensures ∙ ap (λ (r : Reserve). r.offers) c.reserve.ensures.reserve in
    let read = ap (λ (os : List ReserveOffer). slice_index_or os k (record { unit = 0; quantity = pos 0; price = pos 0 })) offers in
    offered_step m k (g.N.Exact.value c.loop-offer.mw) _ (g.N.Exact.value c.offer_quantity.result) c.loop-offer.invariant (c.offer_quantity.ensures ∙ ap (λ (o : ReserveOffer). whole o.quantity) read) c.in_ok-mw.ensures.exact

pub returns-in_err-mw-clause-stops : goal.returns-in_err-mw-clause-stops
returns-in_err-mw-clause-stops g c =
    let m = c.args.market.now in
    let value = g.N.Exact.value in
    let k = c.loop-offer.offer-index in
    let given : c.from_residual.result ≡ Err c.in_err-mw.field-0.0 = search rules in
    let offers = c.slice-offer-items.ensures ∙ ap (λ (r : Reserve). r.offers) c.reserve.ensures.reserve in
    let read = ap (λ (os : List ReserveOffer). slice_index_or os k (record { unit = 0; quantity = pos 0; price = pos 0 })) offers in
    let lt : k < length m.reserve.offers = omega (arith, c.loop-offer-test.true, ap length offers) in
    rw given
    (offered_refused m k lt (value c.loop-offer.mw) (value c.offer_quantity.result) g.N.Exact.bound (passed_at value c.in_err-mw.field-0.0) c.loop-offer.invariant
    (c.offer_quantity.ensures ∙ ap (λ (o : ReserveOffer). whole o.quantity) read)
    (refusal value g.N.Exact.bound Op.Plus c.loop-offer.mw c.offer_quantity.result _ _ c.in_err-mw.field-0.0 refl refl c.in_err-mw.ensures))

pub returns-clause-offered : goal.returns-clause-offered
returns-clause-offered g c =
    let m = c.args.market.now in
    let offers = c.slice-offer-items.ensures ∙ ap (λ (r : Reserve). r.offers) c.reserve.ensures.reserve in
    let all : c.loop-offer.offer-index ≡ length m.reserve.offers = omega (arith, ap length offers) in
    subst (λ (n : ℕ). g.N.Exact.value c.loop-offer.mw ≡ total (map (offered_term m) (places n))) all c.loop-offer.invariant
