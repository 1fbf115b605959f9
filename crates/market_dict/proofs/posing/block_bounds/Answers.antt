use Rattle.std.proofs.Common.{◌≡◌, ◌∙◌, ◌+◌, ◌≤ℤ◌, List, map, ap, subst, sym, length, arith, pos, ℕ}
use Rattle.std.specs.Prelude.{slice_index_or}
use Rattle.market_model.specs.declared.participants.Block.{Block}
use Rattle.market_model.specs.declared.participants.Side.TheVariants.{Sell}
use Rattle.market_model.specs.Dispatch.{places, quantity, zero}
use Rattle.simplex_core.specs.declared.bounds.Bounds.{Bounds}
use Rattle.market_dict.proofs.ListedLemmas.{places_filled}
use Rattle.market_dict.proofs.TermLemmas.{quantity_read}
use Rattle.market_dict.proofs.ColumnLists.{mapped_blocks}
use Rattle.market_system.specs.MarketSystem.{low as low_of, high as high_of}
use Rattle.market_dict.proofs.posing.block_bounds.Goals as goal

pub block_quantity-high-requires : goal.block_quantity-high-requires
block_quantity-high-requires g c =
    let blocks = c.slice-block-items.ensures ∙ c.blocks-2.ensures.list in
    let none : Block = record { unit = 0; side = Sell; quantity = pos 0; price = pos 0 } in
    subst (λ (bs : List Block). pos 0 ≤ℤ (slice_index_or bs c.loop-block.block-index none).quantity) (sym blocks)
    (c.blocks-2.ensures.market.blocks c.loop-block.block-index none (omega (arith, ap length blocks))).quantity

pub loop-block-preserved : goal.loop-block-preserved
loop-block-preserved g c =
    let m = c.args.market.now in
    let k = c.loop-block.block-index in
    let blocks = c.slice-block-items.ensures ∙ c.blocks-2.ensures.list in
    let read = ap (λ (bs : List Block). slice_index_or bs k (record { unit = 0; side = Sell; quantity = pos 0; price = pos 0 })) blocks in
    let low = λ (b : Bounds g.row.N.Denot). g.N.Exact.value b.low in
    let high = λ (b : Bounds g.row.N.Denot). g.N.Exact.value b.high in
    record {
      lows =
          subst (λ (xs : List (Bounds g.row.N.Denot)). map low xs ≡ map (λ j. zero) (places (k + 1))) (sym c.in_ok-push.ensures)
          (places_filled low (λ j. zero) c.loop-block.bounds k (record { low = c.datum-low.result; high = c.block_quantity-high.result }) c.loop-block.invariant.lows c.datum-low.ensures);
      highs =
          subst (λ (xs : List (Bounds g.row.N.Denot)). map high xs ≡ map (quantity m) (places (k + 1))) (sym c.in_ok-push.ensures)
          (places_filled high (quantity m) c.loop-block.bounds k (record { low = c.datum-low.result; high = c.block_quantity-high.result }) c.loop-block.invariant.highs
          (quantity_read m k _ (g.N.Exact.value c.block_quantity-high.result) read c.block_quantity-high.ensures));
    }

pub returns-clause-lows : goal.returns-clause-lows
returns-clause-lows g c =
    let m = c.args.market.now in
    let low = λ (b : Bounds g.row.N.Denot). g.N.Exact.value b.low in
    let blocks = c.slice-block-items.ensures ∙ c.blocks-2.ensures.list in
    let all : c.loop-block.block-index ≡ length m.blocks = omega (arith, ap length blocks) in
    subst (λ (n : ℕ). map low c.loop-block.bounds ≡ map (λ j. zero) (places n)) all c.loop-block.invariant.lows ∙ sym (mapped_blocks m (low_of m))

pub returns-clause-highs : goal.returns-clause-highs
returns-clause-highs g c =
    let m = c.args.market.now in
    let high = λ (b : Bounds g.row.N.Denot). g.N.Exact.value b.high in
    let blocks = c.slice-block-items.ensures ∙ c.blocks-2.ensures.list in
    let all : c.loop-block.block-index ≡ length m.blocks = omega (arith, ap length blocks) in
    subst (λ (n : ℕ). map high c.loop-block.bounds ≡ map (quantity m) (places n)) all c.loop-block.invariant.highs ∙ sym (mapped_blocks m (high_of m))
