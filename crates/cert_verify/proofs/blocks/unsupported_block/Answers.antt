use Rattle.std.proofs.Common.{◌≡◌, ◌<◌, ◌≤ℤ◌, ◌+◌, ◌∙◌, ℕ, List, ap, sym, subst, length, map, pos, arith}
use Rattle.std.specs.Prelude.{slice_index_or}
use Rattle.fraction_theory.specs.Fraction.{Fraction, whole}
use Rattle.market_data.specs.Participants.{IsDatum}
use Rattle.market_model.specs.declared.answered.Duals.{Duals}
use Rattle.market_model.specs.declared.participants.Block.{Block}
use Rattle.market_model.specs.declared.participants.Side.TheVariants.{Sell}
use Rattle.market_model.specs.Dispatch.{accepted, block_at, dispatch_by, dispatch_with, places, quantity, zero}
use Rattle.market_model.specs.Optimality.{price, energy_worth}
use Rattle.market_model.specs.PutIn.{put_in}
use Rattle.market_model.proofs.MarketSums.{block_unit-in}
use Rattle.market_model.proofs.PlaceLists.{filled_at, put_read}
use Rattle.cert_verify.specs.declared.verdicts.Reason.TheVariants as reason
use Rattle.cert_verify.specs.Reasons.{is_unsupported}
use Rattle.cert_verify.proofs.FindLemmas.{place_here, place_more}
use Rattle.cert_verify.proofs.TestLemmas.{support_same}
use Rattle.cert_verify.proofs.blocks.unsupported_block.Goals as goal

pub block_price-requires : goal.block_price-requires
block_price-requires g c =
    let k = c.loop-at.at in
    let none : Block = record { unit = 0; side = Sell; quantity = pos 0; price = pos 0 } in
    let blocks = c.slice-block-items.ensures ∙ c.blocks-2.ensures.list in
    subst (λ (bs : List Block). IsDatum (slice_index_or bs k none).price) (sym blocks) (c.units-units.ensures.market.blocks k none (omega (arith, c.loop-at-test.true, ap length blocks))).price

pub block_quantity-requires : goal.block_quantity-requires
block_quantity-requires g c =
    let k = c.loop-at.at in
    let none : Block = record { unit = 0; side = Sell; quantity = pos 0; price = pos 0 } in
    let blocks = c.slice-block-items.ensures ∙ c.blocks-2.ensures.list in
    subst (λ (bs : List Block). pos 0 ≤ℤ (slice_index_or bs k none).quantity) (sym blocks) (c.units-units.ensures.market.blocks k none (omega (arith, c.loop-at-test.true, ap length blocks))).quantity

pub returns-then-breaks_support : goal.returns-then-breaks_support
returns-then-breaks_support g c =
    let m = c.args.market.now in
    let k = c.loop-at.at in
    let value = g.N.Exact.value in
    let blocks = c.slice-block-items.ensures ∙ c.blocks-2.ensures.list in
    let read = ap (λ (bs : List Block). slice_index_or bs k (record { unit = 0; side = Sell; quantity = pos 0; price = pos 0 })) blocks in
    let inside : k < length m.blocks = omega (arith, c.loop-at-test.true, ap length blocks) in
    let none : Block = record { unit = 0; side = Sell; quantity = pos 0; price = pos 0 } in
    let unit = subst (λ (bs : List Block). (slice_index_or bs k none).unit < length m.units) (sym blocks) (c.units-units.ensures.market.blocks k none inside).unit in
    let at_unit : (slice_index_or c.slice-block-items.result.now k none).unit < length c.args.worths.now = omega (arith, c.requires.worths, unit) in
    let here = λ (d : Duals Fraction) (all : map value c.args.worths.now ≡ map (energy_worth m d) (places (length m.units))).
    support_same _ (block_at m k).side (value c.block_price.result) (price m k) (value c.index-worths-block.result) (energy_worth m d (block_at m k).unit) (value c.block_quantity.result) (quantity m k) (value c.index-blocks-at.result) (accepted (dispatch_by (map value c.args.blocks.now)) k)
    (ap (λ (b : Block). b.side) read) (c.block_price.ensures ∙ ap (λ (b : Block). whole b.price) read)
    (put_read value c.args.worths.now _ c.index-worths-block.result at_unit c.index-worths-block.is ∙ ap (λ (b : Block). put_in (map value c.args.worths.now) b.unit) read
    ∙ filled_at (energy_worth m d) (map value c.args.worths.now) (length m.units) zero all (block_at m k).unit (block_unit-in m c.units-units.ensures.market k inside))
    (c.block_quantity.ensures ∙ ap (λ (b : Block). whole b.quantity) read)
    (put_read value c.args.blocks.now k c.index-blocks-at.result (omega (arith, inside, c.requires.blocks)) c.index-blocks-at.is) in
    λ d reserve all. let x = dispatch_with (map value c.args.blocks.now) reserve in place_here (λ (j : ℕ). reason.Support (j + 1)) (is_unsupported m x d) (length m.blocks) k (c.loop-at.invariant d reserve all) inside (sym (here d all) ∙ sym c.breaks_support.ensures ∙ c.if-breaks_support.true)

pub loop-at-preserved : goal.loop-at-preserved
loop-at-preserved g c =
    let m = c.args.market.now in
    let k = c.loop-at.at in
    let value = g.N.Exact.value in
    let blocks = c.slice-block-items.ensures ∙ c.blocks-2.ensures.list in
    let read = ap (λ (bs : List Block). slice_index_or bs k (record { unit = 0; side = Sell; quantity = pos 0; price = pos 0 })) blocks in
    let inside : k < length m.blocks = omega (arith, c.loop-at-test.true, ap length blocks) in
    let none : Block = record { unit = 0; side = Sell; quantity = pos 0; price = pos 0 } in
    let unit = subst (λ (bs : List Block). (slice_index_or bs k none).unit < length m.units) (sym blocks) (c.units-units.ensures.market.blocks k none inside).unit in
    let at_unit : (slice_index_or c.slice-block-items.result.now k none).unit < length c.args.worths.now = omega (arith, c.requires.worths, unit) in
    let here = λ (d : Duals Fraction) (all : map value c.args.worths.now ≡ map (energy_worth m d) (places (length m.units))).
    support_same _ (block_at m k).side (value c.block_price.result) (price m k) (value c.index-worths-block.result) (energy_worth m d (block_at m k).unit) (value c.block_quantity.result) (quantity m k) (value c.index-blocks-at.result) (accepted (dispatch_by (map value c.args.blocks.now)) k)
    (ap (λ (b : Block). b.side) read) (c.block_price.ensures ∙ ap (λ (b : Block). whole b.price) read)
    (put_read value c.args.worths.now _ c.index-worths-block.result at_unit c.index-worths-block.is ∙ ap (λ (b : Block). put_in (map value c.args.worths.now) b.unit) read
    ∙ filled_at (energy_worth m d) (map value c.args.worths.now) (length m.units) zero all (block_at m k).unit (block_unit-in m c.units-units.ensures.market k inside))
    (c.block_quantity.ensures ∙ ap (λ (b : Block). whole b.quantity) read)
    (put_read value c.args.blocks.now k c.index-blocks-at.result (omega (arith, inside, c.requires.blocks)) c.index-blocks-at.is) in
    λ d reserve all. let x = dispatch_with (map value c.args.blocks.now) reserve in place_more (λ (j : ℕ). reason.Support (j + 1)) (is_unsupported m x d) k (c.loop-at.invariant d reserve all) (sym (here d all) ∙ sym c.breaks_support.ensures ∙ c.if-breaks_support.false)
