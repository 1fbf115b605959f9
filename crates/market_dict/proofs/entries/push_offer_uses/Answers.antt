use Rattle.std.proofs.Common.{◌≡◌, ◌∙◌, ◌+◌, ◌++◌, List, map, ap, ap₂, subst, sym, length, arith, pos, ℕ}
use Rattle.std.specs.Prelude.{slice_index_or}
use Rattle.fraction_theory.specs.Fraction.{Fraction}
use Rattle.market_model.specs.declared.participants.Reserve.{Reserve}
use Rattle.market_model.specs.declared.participants.ReserveOffer.{ReserveOffer}
use Rattle.market_model.specs.Dispatch.{places}
use Rattle.market_system.specs.declared.variables.Variable.TheVariants as variable
use Rattle.market_system.specs.MarketSystem.{at_unit, room_coefficient}
use Rattle.market_dict.proofs.ColumnLists.{mapped_offers}
use Rattle.market_dict.proofs.ListedLemmas.{filled_behind}
use Rattle.market_dict.proofs.entries.push_offer_uses.Goals as goal

pub loop-offer-preserved : goal.loop-offer-preserved
loop-offer-preserved g c =
    let m = c.args.market.now in
    let u = c.args.unit in
    let value = g.N.Exact.value in
    let k = c.loop-offer.offer-index in
    let old = map value c.args.entries.now in
    let of : ℕ → Fraction = λ n. room_coefficient m u (variable.Offer n) in
    let offers = c.slice-offer-items.ensures ∙ ap (λ (r : Reserve). r.offers) c.reserve.ensures.reserve in
    let read = ap (λ (os : List ReserveOffer). slice_index_or os k (record { unit = 0; quantity = pos 0; price = pos 0 })) offers in
    subst (λ (xs : List g.row.N.Denot). map value xs ≡ old ++ map of (places (k + 1))) (sym c.in_ok-push.ensures)
    (filled_behind value of old c.loop-offer.entries k c.at_unit.result c.loop-offer.invariant (c.at_unit.ensures ∙ ap₂ (λ (o : ReserveOffer) (x : Fraction). at_unit u o.unit x) read c.datum-one.ensures))

pub returns : goal.returns
returns g c =
    let m = c.args.market.now in
    let value = g.N.Exact.value in
    let old = map value c.args.entries.now in
    let of : ℕ → Fraction = λ n. room_coefficient m c.args.unit (variable.Offer n) in
    let offers = c.slice-offer-items.ensures ∙ ap (λ (r : Reserve). r.offers) c.reserve.ensures.reserve in
    let all : c.loop-offer.offer-index ≡ length m.reserve.offers = omega (arith, ap length offers) in
    subst (λ (n : ℕ). map value c.loop-offer.entries ≡ old ++ map of (places n)) all c.loop-offer.invariant ∙ ap (λ (xs : List Fraction). old ++ xs) (sym (mapped_offers m (room_coefficient m c.args.unit)))
