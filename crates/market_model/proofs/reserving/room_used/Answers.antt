use Rattle.std.proofs.Common.{rules, Err, [], ◌<◌, ◌≡◌, ◌∙◌, ap, length, map, pos, arith, sym, List}
use Rattle.std.specs.Prelude.{slice_index_or, ◌==◌}
use Rattle.std.proofs.lemmas.List.{append-nil}
use Rattle.fraction_theory.specs.Sums.{total}
use Rattle.market_model.specs.declared.participants.Reserve.{Reserve}
use Rattle.market_model.specs.declared.participants.ReserveOffer.{ReserveOffer}
use Rattle.market_model.specs.Dispatch.{block_term, blocks_of, dispatch_with, offer_at, reserved}
use Rattle.market_model.specs.Reserves.{room_terms, room_used}
use Rattle.market_model.specs.Valued.{passed_at}
use Rattle.market_model.proofs.PutInSteps.{accepted_is}
use Rattle.market_model.proofs.RoomLemmas.{counted_refused, counted_step, counted_to}
use Rattle.market_model.proofs.reserving.room_used.Goals as goal

pub loop-at-preserved : goal.loop-at-preserved
loop-at-preserved g c =
    let m = c.args.market.now in
    let value = g.N.Exact.value in
    let k = c.loop-at.at in
    let u = c.args.unit in
    let rs = c.args.reserve.now in
    let x = dispatch_with (map value c.args.dispatch.now) (map value rs) in
    let offers = c.slice-offer-items.ensures ∙ ap (λ (r : Reserve). r.offers) c.reserve.ensures.reserve in
    let offer = ap (λ (os : List ReserveOffer). slice_index_or os k (record { unit = 0; quantity = pos 0; price = pos 0 })) offers in
    let inside : k < length rs = omega (arith, c.loop-at-test.true, c.requires.reserve, ap length offers) in
    counted_step (map (block_term m x) (blocks_of m u)) (λ n. (offer_at m n).unit == u) (reserved x) k _ (value c.index-reserve-at.result) (value c.loop-at.mw) _
    (ap (λ (o : ReserveOffer). o.unit == u) offer) (sym (accepted_is value rs k c.index-reserve-at.result inside c.index-reserve-at.is))
    c.loop-at.invariant c.in_ok-mw-2.ensures.sum

pub returns-clause-used : goal.returns-clause-used
unfolding room_used
returns-clause-used g c =
    let m = c.args.market.now in
    let value = g.N.Exact.value in
    let offers = c.slice-offer-items.ensures ∙ ap (λ (r : Reserve). r.offers) c.reserve.ensures.reserve in
    let all : c.loop-at.at ≡ length m.reserve.offers = omega (arith, c.loop-at-test.false, c.loop-at.auto.at-end, ap length offers) in
    let x = dispatch_with (map value c.args.dispatch.now) (map value c.args.reserve.now) in
    c.loop-at.invariant ∙ ap (λ n. total (counted_to (map (block_term m x) (blocks_of m c.args.unit)) (λ n. (offer_at m n).unit == c.args.unit) (reserved x) n)) all

pub returns-in_err-mw-2-clause-stops : goal.returns-in_err-mw-2-clause-stops
returns-in_err-mw-2-clause-stops g c =
    let m = c.args.market.now in
    let value = g.N.Exact.value in
    let k = c.loop-at.at in
    let u = c.args.unit in
    let rs = c.args.reserve.now in
    let x = dispatch_with (map value c.args.dispatch.now) (map value rs) in
    let offers = c.slice-offer-items.ensures ∙ ap (λ (r : Reserve). r.offers) c.reserve.ensures.reserve in
    let offer = ap (λ (os : List ReserveOffer). slice_index_or os k (record { unit = 0; quantity = pos 0; price = pos 0 })) offers in
    let below : k < length m.reserve.offers = omega (arith, c.loop-at-test.true, ap length offers) in
    let inside : k < length rs = omega (arith, below, c.requires.reserve) in
    let given : c.from_residual-in_err-mw-2.result ≡ Err c.in_err-mw-2.field-0.0 = search rules in
    rw given
    (counted_refused (map (block_term m x) (blocks_of m u)) (λ n. (offer_at m n).unit == u) (reserved x) [] (room_terms m x u) (length m.reserve.offers) k _
    (value c.index-reserve-at.result) (value c.loop-at.mw) g.N.Exact.bound (passed_at value c.in_err-mw-2.field-0.0) (sym (append-nil (room_terms m x u))) below
    (ap (λ (o : ReserveOffer). o.unit == u) offer) c.in_err-mw-2.ensures.counts (sym (accepted_is value rs k c.index-reserve-at.result inside c.index-reserve-at.is))
    c.loop-at.invariant c.in_err-mw-2.ensures.stops)
