use Rattle.std.proofs.Common.{rules, Err, ◌<◌, ◌≡◌, ◌∙◌, ap, sym, length, pos, arith}
use Rattle.std.specs.Prelude.{slice_index_or}
use Rattle.fraction_theory.proofs.FieldLaws.{+ℚ_nil}
use Rattle.market_model.specs.declared.participants.Side.TheVariants.{Sell}
use Rattle.market_model.specs.Dispatch.{output as output_of}
use Rattle.market_model.proofs.PutInSteps.{output_step, output_refused}
use Rattle.market_model.specs.Valued.{passed_at}
use Rattle.market_model.proofs.putting.output.Goals as goal

pub loop-at-init : goal.loop-at-init
loop-at-init g c = c.fixed_part-mw.ensures ∙ sym (+ℚ_nil _)

pub loop-at-preserved : goal.loop-at-preserved
loop-at-preserved g c =
    let blocks = c.slice-block-items.ensures ∙ c.blocks-2.ensures.list in
    output_step g.N.Exact.value c.args.market.now c.args.dispatch.now c.args.unit c.loop-at.at _ c.index-dispatch-at.result _ _
    (omega (arith, c.requires.dispatch, ap length blocks)) c.index-dispatch-at.is
    (ap (λ bs. slice_index_or bs c.loop-at.at (record { unit = 0; side = Sell; quantity = pos 0; price = pos 0 })) blocks)
    c.loop-at.invariant (rw c.by_side.ensures at c.in_ok-mw.ensures.sum)

pub returns-clause-output : goal.returns-clause-output
unfolding output_of
returns-clause-output g c =
    let blocks = c.slice-block-items.ensures ∙ c.blocks-2.ensures.list in
    let all : c.loop-at.at ≡ length c.args.market.now.blocks = omega (arith, ap length blocks) in
    rw all at c.loop-at.invariant

pub returns-in_err-mw-clause-stops : goal.returns-in_err-mw-clause-stops
returns-in_err-mw-clause-stops g c =
    let m = c.args.market.now in
    let k = c.loop-at.at in
    let blocks = c.slice-block-items.ensures ∙ c.blocks-2.ensures.list in
    let given : c.from_residual.result ≡ Err c.in_err-mw.field-0.0 = search rules in
    let below : k < length m.blocks = omega (arith, c.loop-at-test.true, ap length blocks) in
    rw given
    (output_refused g.N.Exact.value m c.args.dispatch.now g.N.Exact.bound (passed_at g.N.Exact.value c.in_err-mw.field-0.0) c.args.unit k _ c.index-dispatch-at.result (g.N.Exact.value c.loop-at.mw)
    below (omega (arith, below, c.requires.dispatch)) c.index-dispatch-at.is
    (ap (λ bs. slice_index_or bs k (record { unit = 0; side = Sell; quantity = pos 0; price = pos 0 })) blocks)
    c.in_err-mw.ensures.counts c.loop-at.invariant (rw c.by_side.ensures at c.in_err-mw.ensures.stops))
