use Rattle.std.proofs.Common.{◌≡◌, ◌∙◌, ◌+◌, ◌++◌, ◌<◌, List, map, ap, subst, sym, length, arith, pos, ℕ}
use Rattle.std.specs.Prelude.{slice_index_or}
use Rattle.fraction_theory.specs.Fraction.{Fraction, whole, neg_ℚ}
use Rattle.market_model.specs.declared.participants.Reserve.{Reserve}
use Rattle.market_model.specs.declared.participants.ReserveOffer.{ReserveOffer}
use Rattle.market_model.specs.Dispatch.{places}
use Rattle.market_system.specs.declared.variables.Variable.TheVariants.{Offer}
use Rattle.market_data.specs.Participants.{IsDatum}
use Rattle.market_system.specs.MarketSystem.{objective_price}
use Rattle.market_dict.proofs.ColumnLists.{mapped_offers}
use Rattle.market_dict.proofs.ListedLemmas.{filled_behind}
use Rattle.market_dict.proofs.offering.push_offer_prices.Goals as goal

pub offer_value-requires : goal.offer_value-requires
offer_value-requires g c =
    let m = c.args.market.now in
    let k = c.loop-offer.offer-index in
    let offers = c.slice-offer-items.ensures ∙ ap (λ (r : Reserve). r.offers) c.reserve.ensures.reserve in
    let read = ap (λ (os : List ReserveOffer). slice_index_or os k (record { unit = 0; quantity = pos 0; price = pos 0 })) offers in
    let lt : k < length m.reserve.offers = omega (arith, c.loop-offer-test.true, ap length offers) in
    subst (λ (o : ReserveOffer). IsDatum o.price) (sym read) (c.reserve.ensures.market.reserve.each k (record { unit = 0; quantity = pos 0; price = pos 0 }) lt).price

pub loop-offer-preserved : goal.loop-offer-preserved
loop-offer-preserved g c =
    let m = c.args.market.now in
    let value = g.N.Exact.value in
    let k = c.loop-offer.offer-index in
    let old = map value c.args.prices.now in
    let of : ℕ → Fraction = λ n. objective_price m (Offer n) in
    let offers = c.slice-offer-items.ensures ∙ ap (λ (r : Reserve). r.offers) c.reserve.ensures.reserve in
    let read = ap (λ (os : List ReserveOffer). slice_index_or os k (record { unit = 0; quantity = pos 0; price = pos 0 })) offers in
    subst (λ (xs : List g.row.N.Denot). map value xs ≡ old ++ map of (places (k + 1))) (sym c.in_ok-push.ensures)
    (filled_behind value of old c.loop-offer.prices k c.offer_value.result c.loop-offer.invariant (c.offer_value.ensures ∙ ap (λ (o : ReserveOffer). neg_ℚ (whole o.price)) read))

pub returns : goal.returns
returns g c =
    let m = c.args.market.now in
    let value = g.N.Exact.value in
    let old = map value c.args.prices.now in
    let of : ℕ → Fraction = λ n. objective_price m (Offer n) in
    let offers = c.slice-offer-items.ensures ∙ ap (λ (r : Reserve). r.offers) c.reserve.ensures.reserve in
    let all : c.loop-offer.offer-index ≡ length m.reserve.offers = omega (arith, ap length offers) in
    subst (λ (n : ℕ). map value c.loop-offer.prices ≡ old ++ map of (places n)) all c.loop-offer.invariant ∙ ap (λ (xs : List Fraction). old ++ xs) (sym (mapped_offers m (objective_price m)))
