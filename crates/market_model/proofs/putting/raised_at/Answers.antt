use Rattle.std.proofs.Common.{rules, Err, ◌<◌, ◌≡◌, ◌∙◌, ap, length, pos, arith, List}
use Rattle.std.specs.Prelude.{slice_index_or, ◌==◌}
use Rattle.market_data.specs.declared.participants.Unit as unit
use Rattle.market_model.specs.declared.participants.Block.{Block}
use Rattle.market_model.specs.declared.participants.Side.TheVariants.{Sell}
use Rattle.market_model.specs.Dispatch.{block_at}
use Rattle.market_model.specs.Valued.{passed_at}
use Rattle.market_model.specs.PutIn.{dispatch_of}
use Rattle.market_model.proofs.PutInSteps.{accepted_is, raised_none, raised_step, raised_refused, unit_read}
use Rattle.market_model.proofs.putting.raised_at.Goals as goal

pub loop-at-init : goal.loop-at-init
loop-at-init g c = raised_none c.args.market.now (dispatch_of g.N.Exact.value c.args.dispatch.now) c.args.bus (g.N.Exact.value c.args.fixed) c.requires.fixed

pub loop-at-preserved : goal.loop-at-preserved
loop-at-preserved g c =
    let m = c.args.market.now in
    let k = c.loop-at.at in
    let blocks = c.slice-block-items.ensures ∙ c.blocks-2.ensures.list in
    let block = ap (λ (bs : List Block). slice_index_or bs k (record { unit = 0; side = Sell; quantity = pos 0; price = pos 0 })) blocks in
    let u = unit_read m c.units.result.now _ (block_at m k).unit c.at.result.now c.units.ensures.list (ap (λ (b : Block). b.unit) block) c.at.ensures in
    raised_step m c.args.bus (dispatch_of g.N.Exact.value c.args.dispatch.now) k _ _ (g.N.Exact.value c.index-dispatch-at.result) _ _ block
    (ap (λ (v : unit.Unit). v.bus == c.args.bus) u)
    (accepted_is g.N.Exact.value c.args.dispatch.now k c.index-dispatch-at.result (omega (arith, c.loop-at-test.true, c.requires.dispatch, ap length blocks)) c.index-dispatch-at.is)
    c.loop-at.invariant (rw c.by_side.ensures at c.in_ok-mw.ensures.sum)

pub returns-clause-sum : goal.returns-clause-sum
returns-clause-sum g c =
    let blocks = c.slice-block-items.ensures ∙ c.blocks-2.ensures.list in
    let all : c.loop-at.at ≡ length c.args.market.now.blocks = omega (arith, ap length blocks) in
    rw all at c.loop-at.invariant

pub returns-in_err-mw-clause-stops : goal.returns-in_err-mw-clause-stops
returns-in_err-mw-clause-stops g c =
    let m = c.args.market.now in
    let k = c.loop-at.at in
    let blocks = c.slice-block-items.ensures ∙ c.blocks-2.ensures.list in
    let block = ap (λ (bs : List Block). slice_index_or bs k (record { unit = 0; side = Sell; quantity = pos 0; price = pos 0 })) blocks in
    let u = unit_read m c.units.result.now _ (block_at m k).unit c.at.result.now c.units.ensures.list (ap (λ (b : Block). b.unit) block) c.at.ensures in
    let below : k < length m.blocks = omega (arith, c.loop-at-test.true, ap length blocks) in
    let given : c.from_residual.result ≡ Err c.in_err-mw.field-0.0 = search rules in
    rw given
    (raised_refused m c.args.bus (dispatch_of g.N.Exact.value c.args.dispatch.now) k _ _ (g.N.Exact.value c.index-dispatch-at.result) (g.N.Exact.value c.loop-at.mw) g.N.Exact.bound
    (passed_at g.N.Exact.value c.in_err-mw.field-0.0) below block
    (ap (λ (v : unit.Unit). v.bus == c.args.bus) u) c.in_err-mw.ensures.counts
    (accepted_is g.N.Exact.value c.args.dispatch.now k c.index-dispatch-at.result (omega (arith, below, c.requires.dispatch)) c.index-dispatch-at.is)
    c.loop-at.invariant (rw c.by_side.ensures at c.in_err-mw.ensures.stops))
