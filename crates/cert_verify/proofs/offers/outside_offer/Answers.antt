use Rattle.std.proofs.Common.{◌<◌, ◌+◌, ◌∙◌, ℕ, List, ap, map, sym, length, pos, arith}
use Rattle.std.specs.Prelude.{slice_index_or}
use Rattle.fraction_theory.specs.Fraction.{whole}
use Rattle.market_model.specs.declared.participants.Reserve.{Reserve}
use Rattle.market_model.specs.declared.participants.ReserveOffer.{ReserveOffer}
use Rattle.market_model.specs.Dispatch.{dispatch_with, reserve_quantity, reserved}
use Rattle.market_model.proofs.PlaceLists.{put_read}
use Rattle.cert_verify.specs.declared.verdicts.Reason.TheVariants as reason
use Rattle.cert_verify.specs.Reasons.{is_offer_beyond}
use Rattle.cert_verify.proofs.FindLemmas.{place_here, place_more}
use Rattle.cert_verify.proofs.TestLemmas.{outside_same}
use Rattle.cert_verify.proofs.offers.outside_offer.Goals as goal

pub returns-then-is_outside : goal.returns-then-is_outside
returns-then-is_outside g c = λ blocks.
    let m = c.args.market.now in
    let k = c.loop-at.at in
    let x = dispatch_with blocks (map g.N.Exact.value c.args.quantities.now) in
    let offers = c.slice-offer-items.ensures ∙ ap (λ (r : Reserve). r.offers) c.reserve.ensures.reserve in
    let read = ap (λ (os : List ReserveOffer). slice_index_or os k (record { unit = 0; quantity = pos 0; price = pos 0 })) offers in
    let inside : k < length m.reserve.offers = omega (arith, c.loop-at-test.true, ap length offers) in
    let here = outside_same (g.N.Exact.value c.index-quantities-at.result) (reserved x k) (g.N.Exact.value c.offer_quantity.result) (reserve_quantity m k)
    (put_read g.N.Exact.value c.args.quantities.now k c.index-quantities-at.result (omega (arith, inside, c.requires)) c.index-quantities-at.is) (c.offer_quantity.ensures ∙ ap (λ (o : ReserveOffer). whole o.quantity) read) in
    place_here (λ (n : ℕ). reason.Reserve (n + 1)) (is_offer_beyond m x) (length m.reserve.offers) k (c.loop-at.invariant blocks) inside (sym here ∙ sym c.is_outside.ensures ∙ c.if-is_outside.true)

pub loop-at-preserved : goal.loop-at-preserved
loop-at-preserved g c = λ blocks.
    let m = c.args.market.now in
    let k = c.loop-at.at in
    let x = dispatch_with blocks (map g.N.Exact.value c.args.quantities.now) in
    let offers = c.slice-offer-items.ensures ∙ ap (λ (r : Reserve). r.offers) c.reserve.ensures.reserve in
    let read = ap (λ (os : List ReserveOffer). slice_index_or os k (record { unit = 0; quantity = pos 0; price = pos 0 })) offers in
    let inside : k < length m.reserve.offers = omega (arith, c.loop-at-test.true, ap length offers) in
    let here = outside_same (g.N.Exact.value c.index-quantities-at.result) (reserved x k) (g.N.Exact.value c.offer_quantity.result) (reserve_quantity m k)
    (put_read g.N.Exact.value c.args.quantities.now k c.index-quantities-at.result (omega (arith, inside, c.requires)) c.index-quantities-at.is) (c.offer_quantity.ensures ∙ ap (λ (o : ReserveOffer). whole o.quantity) read) in
    place_more (λ (n : ℕ). reason.Reserve (n + 1)) (is_offer_beyond m x) k (c.loop-at.invariant blocks) (sym here ∙ sym c.is_outside.ensures ∙ c.if-is_outside.false)
