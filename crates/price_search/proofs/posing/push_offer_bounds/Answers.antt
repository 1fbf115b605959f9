use Rattle.std.proofs.Common.{◌≡◌, ◌∙◌, ◌++◌, ◌<◌, List, ap, arith, length, map, pos, subst, ℕ}
use Rattle.std.specs.Prelude.{slice_index_or}
use Rattle.market_model.specs.declared.participants.Reserve.{Reserve}
use Rattle.market_model.specs.declared.participants.ReserveOffer.{ReserveOffer}
use Rattle.market_model.specs.Dispatch.{places}
use Rattle.price_system.specs.declared.variables.Variable.TheVariants as variable
use Rattle.price_system.specs.PriceSystem.{greatest_worth, least_worth}
use Rattle.price_search.specs.Points.{caps_at}
use Rattle.price_search.specs.PriceBounds.{AreBounds, dispatch_at}
use Rattle.price_search.proofs.BoundLists.{are_alone, are_more, places_mapped}
use Rattle.price_search.proofs.RowLemmas.{offer_worth, read_at}
use Rattle.price_search.proofs.posing.push_offer_bounds.Goals as goal

abbrev none : ReserveOffer
none = record { unit = 0; quantity = pos 0; price = pos 0 }

pub loop-place-init : goal.loop-place-init
loop-place-init g c = λ vs are. are_alone g.N.Exact.value c.args.market.now _ _ vs c.args.bounds.now are

pub loop-place-preserved : goal.loop-place-preserved
loop-place-preserved g c = λ vs are.
    let m = c.args.market.now in
    let value = g.N.Exact.value in
    let x = dispatch_at value c.args.point in
    let caps = caps_at value c.args.caps in
    let k = c.loop-place.place in
    let offers = c.slice-offer-items.ensures ∙ ap (λ (r : Reserve). r.offers) c.reserve.ensures.reserve in
    let at = ap (λ (os : List ReserveOffer). slice_index_or os k none) offers in
    let lt : k < length c.args.point.reserved.now = omega (arith, c.loop-place-test.true, ap length offers, c.requires) in
    let mw = read_at value c.args.point.reserved.now k c.index-point-place.result lt in
    are_more value m x caps vs (map variable.Offer (places k)) _ (variable.Offer k) c.loop-place.bounds c.push.new.self c.worth_bounds.result (places_mapped variable.Offer k) c.in_ok-push.ensures (c.loop-place.invariant vs are)
    (offer_worth least_worth m x k _ _ _ _ _ _ at mw c.offer_quantity-quantity.ensures c.offer_price-price.ensures c.worth_bounds.ensures.low)
    (offer_worth greatest_worth m x k _ _ _ _ _ _ at mw c.offer_quantity-quantity.ensures c.offer_price-price.ensures c.worth_bounds.ensures.high)

pub returns : goal.returns
returns g c = λ vs are.
    let value = g.N.Exact.value in
    let offers = c.slice-offer-items.ensures ∙ ap (λ (r : Reserve). r.offers) c.reserve.ensures.reserve in
    let all : c.loop-place.place ≡ length c.args.market.now.reserve.offers = omega (arith, ap length offers, c.loop-place-test.false, c.loop-place.auto.place-end) in
    subst (λ (n : ℕ). AreBounds value c.args.market.now (dispatch_at value c.args.point) (caps_at value c.args.caps) (vs ++ map variable.Offer (places n)) c.loop-place.bounds) all (c.loop-place.invariant vs are)
