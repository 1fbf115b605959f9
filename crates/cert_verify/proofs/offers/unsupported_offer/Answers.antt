use Rattle.std.proofs.Common.{◌<◌, ◌+◌, ◌∙◌, ℕ, List, ap, map, refl, sym, subst, length, pos, arith}
use Rattle.std.specs.Prelude.{slice_index_or}
use Rattle.fraction_theory.specs.Fraction.{whole}
use Rattle.market_model.specs.declared.participants.Reserve.{Reserve}
use Rattle.market_model.specs.declared.participants.ReserveOffer.{ReserveOffer}
use Rattle.market_model.specs.declared.participants.Side.TheVariants.{Sell}
use Rattle.market_model.specs.Dispatch.{dispatch_with, offer_at, reserve_quantity, reserved}
use Rattle.market_model.specs.Optimality.{reserve_worth}
use Rattle.market_model.specs.Reserves.{offer_price}
use Rattle.market_model.proofs.PlaceLists.{put_read}
use Rattle.market_model.proofs.ReserveSums.{offer_unit-in}
use Rattle.cert_verify.specs.declared.verdicts.Reason.TheVariants as reason
use Rattle.cert_verify.specs.Reasons.{is_offer_unsupported}
use Rattle.cert_verify.proofs.FindLemmas.{place_here, place_more}
use Rattle.cert_verify.proofs.TestLemmas.{support_same}
use Rattle.cert_verify.proofs.offers.unsupported_offer.Goals as goal

pub returns-then-breaks_support-clause-first : goal.returns-then-breaks_support-clause-first
returns-then-breaks_support-clause-first g c = λ d blocks price are.
    let m = c.args.market.now in
    let k = c.loop-at.at in
    let value = g.N.Exact.value in
    let x = dispatch_with blocks (map value c.args.quantities.now) in
    let offers = c.slice-offer-items.ensures ∙ ap (λ (r : Reserve). r.offers) c.reserve.ensures.reserve in
    let read = ap (λ (os : List ReserveOffer). slice_index_or os k (record { unit = 0; quantity = pos 0; price = pos 0 })) offers in
    let inside : k < length m.reserve.offers = omega (arith, c.loop-at-test.true, ap length offers) in
    let unit = subst (λ (o : ReserveOffer). o.unit < length m.units) (sym read) (offer_unit-in m c.units-units.ensures.market k inside) in
    let here = support_same Sell Sell (value c.offer_price.result) (offer_price m k) (value c.in_ok-worth.worth) (reserve_worth m d (offer_at m k).unit) (value c.offer_quantity.result) (reserve_quantity m k) (value c.index-quantities-at.result) (reserved x k) refl
    (c.offer_price.ensures ∙ ap (λ (o : ReserveOffer). whole o.price) read) (c.in_ok-worth.ensures.worth m d unit price are ∙ ap (λ (o : ReserveOffer). reserve_worth m d o.unit) read)
    (c.offer_quantity.ensures ∙ ap (λ (o : ReserveOffer). whole o.quantity) read)
    (put_read value c.args.quantities.now k c.index-quantities-at.result (omega (arith, inside, c.requires)) c.index-quantities-at.is) in
    place_here (λ (n : ℕ). reason.ReserveSupport (n + 1)) (is_offer_unsupported m x d) (length m.reserve.offers) k (c.loop-at.invariant d blocks price are) inside (sym here ∙ sym c.breaks_support.ensures ∙ c.if-breaks_support.true)

pub loop-at-preserved : goal.loop-at-preserved
loop-at-preserved g c = λ d blocks price are.
    let m = c.args.market.now in
    let k = c.loop-at.at in
    let value = g.N.Exact.value in
    let x = dispatch_with blocks (map value c.args.quantities.now) in
    let offers = c.slice-offer-items.ensures ∙ ap (λ (r : Reserve). r.offers) c.reserve.ensures.reserve in
    let read = ap (λ (os : List ReserveOffer). slice_index_or os k (record { unit = 0; quantity = pos 0; price = pos 0 })) offers in
    let inside : k < length m.reserve.offers = omega (arith, c.loop-at-test.true, ap length offers) in
    let unit = subst (λ (o : ReserveOffer). o.unit < length m.units) (sym read) (offer_unit-in m c.units-units.ensures.market k inside) in
    let here = support_same Sell Sell (value c.offer_price.result) (offer_price m k) (value c.in_ok-worth.worth) (reserve_worth m d (offer_at m k).unit) (value c.offer_quantity.result) (reserve_quantity m k) (value c.index-quantities-at.result) (reserved x k) refl
    (c.offer_price.ensures ∙ ap (λ (o : ReserveOffer). whole o.price) read) (c.in_ok-worth.ensures.worth m d unit price are ∙ ap (λ (o : ReserveOffer). reserve_worth m d o.unit) read)
    (c.offer_quantity.ensures ∙ ap (λ (o : ReserveOffer). whole o.quantity) read)
    (put_read value c.args.quantities.now k c.index-quantities-at.result (omega (arith, inside, c.requires)) c.index-quantities-at.is) in
    place_more (λ (n : ℕ). reason.ReserveSupport (n + 1)) (is_offer_unsupported m x d) k (c.loop-at.invariant d blocks price are) (sym here ∙ sym c.breaks_support.ensures ∙ c.if-breaks_support.false)
