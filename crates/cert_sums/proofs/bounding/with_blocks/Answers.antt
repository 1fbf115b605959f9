use Rattle.std.proofs.Common.{rules, Err, ◌≡◌, ◌∙◌, ◌<◌, pos, ◌≤ℤ◌, ap, sym, subst, length, arith, List}
use Rattle.std.specs.Prelude.{slice_index_or}
use Rattle.fraction_theory.specs.Fraction.{whole}
use Rattle.market_model.specs.declared.participants.Block.{Block}
use Rattle.market_model.specs.declared.participants.Side.TheVariants.{Sell}
use Rattle.market_model.specs.Dispatch.{block_at, signed_by_side}
use Rattle.market_model.specs.Optimality.{energy_worth}
use Rattle.market_model.specs.Valued.{passed_at}
use Rattle.cert_sums.proofs.BoundLemmas.{blocks_none, blocks_all, block_step, block_refused}
use Rattle.cert_sums.proofs.bounding.with_blocks.Goals as goal
use Rattle.cert_sums.specs.Pairs.{in_worth}

pub loop-at-init : goal.loop-at-init
loop-at-init g c = λ d energy are rooms start. blocks_none c.args.market.now d (g.N.Exact.value c.args.of_rooms) start

pub energy_worth-requires-clause-unit : goal.energy_worth-requires-clause-unit
energy_worth-requires-clause-unit g c =
    let m = c.args.market.now in
    let k = c.loop-at.at in
    let none : Block = record { unit = 0; side = Sell; quantity = pos 0; price = pos 0 } in
    let blocks = c.slice-block-items.ensures ∙ c.blocks-2.ensures.list in
    subst (λ (bs : List Block). (slice_index_or bs k (record { unit = 0; side = Sell; quantity = pos 0; price = pos 0 })).unit < length m.units) (sym blocks)
    (c.units-units.ensures.market.blocks k none (omega (arith, c.loop-at-test.true, ap length blocks))).unit

pub block_quantity-requires : goal.block_quantity-requires
block_quantity-requires g c =
    let m = c.args.market.now in
    let k = c.loop-at.at in
    let none : Block = record { unit = 0; side = Sell; quantity = pos 0; price = pos 0 } in
    let blocks = c.slice-block-items.ensures ∙ c.blocks-2.ensures.list in
    subst (λ (bs : List Block). pos 0 ≤ℤ (slice_index_or bs k (record { unit = 0; side = Sell; quantity = pos 0; price = pos 0 })).quantity) (sym blocks)
    (c.units-units.ensures.market.blocks k none (omega (arith, c.loop-at-test.true, ap length blocks))).quantity

pub returns-in_err-worth-clause-stops : goal.returns-in_err-worth-clause-stops
returns-in_err-worth-clause-stops g c =
    let given : c.from_residual.result ≡ Err c.in_err-worth.field-0.0 = search rules in
    λ d energy are rooms start. rw given (in_worth (c.in_err-worth.ensures.stops d energy are rooms))

pub loop-at-preserved : goal.loop-at-preserved
loop-at-preserved g c = λ d energy are rooms start.
    let m = c.args.market.now in
    let k = c.loop-at.at in
    let value = g.N.Exact.value in
    let blocks = c.slice-block-items.ensures ∙ c.blocks-2.ensures.list in
    let block = ap (λ (bs : List Block). slice_index_or bs k (record { unit = 0; side = Sell; quantity = pos 0; price = pos 0 })) blocks in
    block_step m d k (value c.by_side.result) _ (value c.loop-at.sum) _
    (c.by_side.ensures ∙ ap (λ (b : Block). signed_by_side b.side (value c.in_ok-worth.worth)) block ∙ ap (signed_by_side (block_at m k).side) (c.in_ok-worth.ensures.worth d energy are rooms ∙ ap (λ (b : Block). energy_worth m d b.unit) block))
    (c.block_quantity.ensures ∙ ap (λ (b : Block). whole b.quantity) block) (c.loop-at.invariant d energy are rooms start) c.in_ok-sum.ensures.sum

pub returns-in_err-sum-clause-stops : goal.returns-in_err-sum-clause-stops
returns-in_err-sum-clause-stops g c =
    let m = c.args.market.now in
    let k = c.loop-at.at in
    let value = g.N.Exact.value in
    let blocks = c.slice-block-items.ensures ∙ c.blocks-2.ensures.list in
    let block = ap (λ (bs : List Block). slice_index_or bs k (record { unit = 0; side = Sell; quantity = pos 0; price = pos 0 })) blocks in
    let below : k < length m.blocks = omega (arith, c.loop-at-test.true, ap length blocks) in
    let given : c.from_residual-in_err-sum.result ≡ Err c.in_err-sum.field-0.0 = search rules in
    λ d energy are rooms start. rw given
    (block_refused m d k (value c.by_side.result) _ (value c.loop-at.sum) g.N.Exact.bound (passed_at value c.in_err-sum.field-0.0) below
    (c.by_side.ensures ∙ ap (λ (b : Block). signed_by_side b.side (value c.in_ok-worth.worth)) block ∙ ap (signed_by_side (block_at m k).side) (c.in_ok-worth.ensures.worth d energy are rooms ∙ ap (λ (b : Block). energy_worth m d b.unit) block))
    (c.block_quantity.ensures ∙ ap (λ (b : Block). whole b.quantity) block) (c.loop-at.invariant d energy are rooms start) c.in_err-sum.ensures.stops)

pub returns-clause-sum : goal.returns-clause-sum
returns-clause-sum g c =
    let blocks = c.slice-block-items.ensures ∙ c.blocks-2.ensures.list in
    let all : c.loop-at.at ≡ length c.args.market.now.blocks = omega (arith, ap length blocks) in
    λ d energy are rooms start. c.loop-at.invariant d energy are rooms start ∙ rw all (blocks_all c.args.market.now d)
