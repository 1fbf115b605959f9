use Rattle.std.proofs.Common.{rules, Err, [], refl, ◌<◌, ◌≡◌, ◌∙◌, ap, length, map, pos, arith, sym, List}
use Rattle.std.specs.Prelude.{slice_index_or, ◌==◌}
use Rattle.market_model.specs.declared.participants.Block.{Block}
use Rattle.market_model.specs.declared.participants.Side.TheVariants.{Sell}
use Rattle.market_model.specs.Dispatch.{block_at, dispatch_with, raised_by, signed_by_side}
use Rattle.market_model.specs.PutIn.{dispatch_of}
use Rattle.market_model.specs.Reserves.{offers_of, reserved_term, room_terms}
use Rattle.market_model.specs.Valued.{passed_at}
use Rattle.market_model.proofs.PutInSteps.{accepted_is}
use Rattle.market_model.proofs.RoomLemmas.{counted_refused, counted_step}
use Rattle.market_model.proofs.reserving.raised.Goals as goal

pub loop-at-preserved : goal.loop-at-preserved
loop-at-preserved g c =
    let m = c.args.market.now in
    let value = g.N.Exact.value in
    let k = c.loop-at.at in
    let u = c.args.unit in
    let blocks = c.slice-block-items.ensures ∙ c.blocks-2.ensures.list in
    let block = ap (λ (bs : List Block). slice_index_or bs k (record { unit = 0; side = Sell; quantity = pos 0; price = pos 0 })) blocks in
    let inside : k < length c.args.dispatch.now = omega (arith, c.loop-at-test.true, c.requires, ap length blocks) in
    counted_step [] (λ j. (block_at m j).unit == u) (raised_by m (dispatch_of value c.args.dispatch.now)) k _ (value c.by_side.result) (value c.loop-at.mw) _
    (ap (λ (b : Block). b.unit == u) block)
    (c.by_side.ensures ∙ ap (λ (b : Block). signed_by_side b.side (value c.index-dispatch-at.result)) block ∙ ap (signed_by_side (block_at m k).side) (sym (accepted_is value c.args.dispatch.now k c.index-dispatch-at.result inside c.index-dispatch-at.is)))
    c.loop-at.invariant c.in_ok-mw.ensures.sum

pub returns-in_err-mw-clause-stops : goal.returns-in_err-mw-clause-stops
returns-in_err-mw-clause-stops g c =
    let m = c.args.market.now in
    let value = g.N.Exact.value in
    let k = c.loop-at.at in
    let u = c.args.unit in
    let blocks = c.slice-block-items.ensures ∙ c.blocks-2.ensures.list in
    let block = ap (λ (bs : List Block). slice_index_or bs k (record { unit = 0; side = Sell; quantity = pos 0; price = pos 0 })) blocks in
    let below : k < length m.blocks = omega (arith, c.loop-at-test.true, ap length blocks) in
    let inside : k < length c.args.dispatch.now = omega (arith, below, c.requires) in
    let given : c.from_residual.result ≡ Err c.in_err-mw.field-0.0 = search rules in
    λ reserve. rw given
    (counted_refused [] (λ j. (block_at m j).unit == u) (raised_by m (dispatch_of value c.args.dispatch.now))
    (map (reserved_term (dispatch_with (map value c.args.dispatch.now) reserve)) (offers_of m u)) (room_terms m (dispatch_with (map value c.args.dispatch.now) reserve) u)
    (length m.blocks) k _ (value c.by_side.result) (value c.loop-at.mw) g.N.Exact.bound (passed_at value c.in_err-mw.field-0.0) refl below
    (ap (λ (b : Block). b.unit == u) block) c.in_err-mw.ensures.counts
    (c.by_side.ensures ∙ ap (λ (b : Block). signed_by_side b.side (value c.index-dispatch-at.result)) block ∙ ap (signed_by_side (block_at m k).side) (sym (accepted_is value c.args.dispatch.now k c.index-dispatch-at.result inside c.index-dispatch-at.is)))
    c.loop-at.invariant c.in_err-mw.ensures.stops)
