use Rattle.std.proofs.Common.{rules, Err, refl, ◌<◌, ◌≡◌, ◌∙◌, ap, length, pos, arith}
use Rattle.std.specs.Prelude.{slice_index_or}
use Rattle.exact_fraction.proofs.Shares.{share_refused}
use Rattle.market_model.specs.declared.participants.Side.TheVariants.{Sell}
use Rattle.market_model.specs.Valued.{passed_at}
use Rattle.settlement.proofs.WorthLemmas.{values_step, value_refused}
use Rattle.settlement.proofs.worth.values.Goals as goal

pub loop-place-preserved : goal.loop-place-preserved
loop-place-preserved g c =
    let blocks = c.slice-block-items.ensures ∙ c.blocks-2.ensures.list in
    values_step g.N.Exact.value c.args.market.now c.args.dispatch.now c.loop-place.place _ c.index-dispatch-place.result _ _ _
    (omega (arith, c.requires, ap length blocks)) c.index-dispatch-place.is
    (ap (λ bs. slice_index_or bs c.loop-place.place (record { unit = 0; side = Sell; quantity = pos 0; price = pos 0 })) blocks)
    c.loop-place.invariant c.block_value.ensures c.in_ok-sum.ensures.exact

pub returns-clause-values : goal.returns-clause-values
returns-clause-values g c =
    let blocks = c.slice-block-items.ensures ∙ c.blocks-2.ensures.list in
    let all : c.loop-place.place ≡ length c.args.market.now.blocks = omega (arith, ap length blocks) in
    rw all at c.loop-place.invariant

pub returns-in_err-sum-clause-stops : goal.returns-in_err-sum-clause-stops
returns-in_err-sum-clause-stops g c =
    let value = g.N.Exact.value in
    let m = c.args.market.now in
    let k = c.loop-place.place in
    let blocks = c.slice-block-items.ensures ∙ c.blocks-2.ensures.list in
    let given : c.from_residual.result ≡ Err c.in_err-sum.field-0.0 = search rules in
    let below : k < length m.blocks = omega (arith, c.loop-place-test.true, ap length blocks) in
    let same = ap (λ bs. slice_index_or bs k (record { unit = 0; side = Sell; quantity = pos 0; price = pos 0 })) blocks in
    let inside : k < length c.args.dispatch.now = omega (arith, below, c.requires) in
    λ reserve. rw given
    (value_refused value m c.args.dispatch.now reserve k _ c.index-dispatch-place.result (value c.block_value.result) (value c.loop-place.sum) g.N.Exact.bound (passed_at value c.in_err-sum.field-0.0) below inside
    c.index-dispatch-place.is same c.loop-place.invariant c.block_value.ensures
    (share_refused value g.N.Exact.bound c.loop-place.sum c.block_value.result c.index-dispatch-place.result c.in_err-sum.field-0.0 _ _ _ c.in_err-sum.ensures refl refl refl))
