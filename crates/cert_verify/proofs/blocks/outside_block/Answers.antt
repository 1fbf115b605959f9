use Rattle.std.proofs.Common.{◌<◌, ◌≤ℤ◌, ◌+◌, ◌∙◌, ℕ, List, ap, sym, subst, length, map, pos, arith}
use Rattle.std.specs.Prelude.{slice_index_or}
use Rattle.fraction_theory.specs.Fraction.{whole}
use Rattle.market_model.specs.declared.participants.Block.{Block}
use Rattle.market_model.specs.declared.participants.Side.TheVariants.{Sell}
use Rattle.market_model.specs.Dispatch.{accepted, dispatch_with, quantity}
use Rattle.market_model.proofs.PlaceLists.{put_read}
use Rattle.cert_verify.specs.declared.verdicts.Reason.TheVariants as reason
use Rattle.cert_verify.specs.Reasons.{is_beyond}
use Rattle.cert_verify.proofs.FindLemmas.{place_here, place_more}
use Rattle.cert_verify.proofs.TestLemmas.{outside_same}
use Rattle.cert_verify.proofs.blocks.outside_block.Goals as goal

pub block_quantity-requires : goal.block_quantity-requires
block_quantity-requires g c =
    let k = c.loop-at.at in
    let none : Block = record { unit = 0; side = Sell; quantity = pos 0; price = pos 0 } in
    let blocks = c.slice-block-items.ensures ∙ c.blocks-2.ensures.list in
    subst (λ (bs : List Block). pos 0 ≤ℤ (slice_index_or bs k none).quantity) (sym blocks) (c.blocks-2.ensures.market.blocks k none (omega (arith, c.loop-at-test.true, ap length blocks))).quantity

pub returns-then-is_outside : goal.returns-then-is_outside
returns-then-is_outside g c = λ reserve.
    let m = c.args.market.now in
    let k = c.loop-at.at in
    let x = dispatch_with (map g.N.Exact.value c.args.blocks.now) reserve in
    let blocks = c.slice-block-items.ensures ∙ c.blocks-2.ensures.list in
    let read = ap (λ (bs : List Block). slice_index_or bs k (record { unit = 0; side = Sell; quantity = pos 0; price = pos 0 })) blocks in
    let inside : k < length m.blocks = omega (arith, c.loop-at-test.true, ap length blocks) in
    let here = outside_same (g.N.Exact.value c.index-blocks-at.result) (accepted x k) (g.N.Exact.value c.block_quantity.result) (quantity m k) (put_read g.N.Exact.value c.args.blocks.now k c.index-blocks-at.result (omega (arith, inside, c.requires)) c.index-blocks-at.is)
    (c.block_quantity.ensures ∙ ap (λ (b : Block). whole b.quantity) read) in
    place_here (λ (j : ℕ). reason.Block (j + 1)) (is_beyond m x) (length m.blocks) k (c.loop-at.invariant reserve) inside (sym here ∙ sym c.is_outside.ensures ∙ c.if-is_outside.true)

pub loop-at-preserved : goal.loop-at-preserved
loop-at-preserved g c = λ reserve.
    let m = c.args.market.now in
    let k = c.loop-at.at in
    let x = dispatch_with (map g.N.Exact.value c.args.blocks.now) reserve in
    let blocks = c.slice-block-items.ensures ∙ c.blocks-2.ensures.list in
    let read = ap (λ (bs : List Block). slice_index_or bs k (record { unit = 0; side = Sell; quantity = pos 0; price = pos 0 })) blocks in
    let inside : k < length m.blocks = omega (arith, c.loop-at-test.true, ap length blocks) in
    let here = outside_same (g.N.Exact.value c.index-blocks-at.result) (accepted x k) (g.N.Exact.value c.block_quantity.result) (quantity m k) (put_read g.N.Exact.value c.args.blocks.now k c.index-blocks-at.result (omega (arith, inside, c.requires)) c.index-blocks-at.is)
    (c.block_quantity.ensures ∙ ap (λ (b : Block). whole b.quantity) read) in
    place_more (λ (j : ℕ). reason.Block (j + 1)) (is_beyond m x) k (c.loop-at.invariant reserve) (sym here ∙ sym c.is_outside.ensures ∙ c.if-is_outside.false)
