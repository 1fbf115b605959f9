use Rattle.std.proofs.Common.{◌≡◌, ◌∙◌, ◌+◌, List, map, ap, subst, sym, length, arith, pos, ℕ}
use Rattle.std.specs.Prelude.{slice_index_or}
use Rattle.market_model.specs.declared.participants.Block.{Block}
use Rattle.market_model.specs.declared.participants.Side.TheVariants.{Sell}
use Rattle.market_model.specs.Dispatch.{places}
use Rattle.market_system.specs.MarketSystem.{block_sign}
use Rattle.market_dict.proofs.EntryLemmas.{sign_entry}
use Rattle.market_dict.proofs.ListedLemmas.{places_filled}
use Rattle.market_dict.proofs.entries.block_signs.Goals as goal

pub loop-block-preserved : goal.loop-block-preserved
loop-block-preserved g c =
    let m = c.args.market.now in
    let k = c.loop-block.block-index in
    let blocks = c.slice-block-items.ensures ∙ c.blocks-2.ensures.list in
    let read = ap (λ (bs : List Block). slice_index_or bs k (record { unit = 0; side = Sell; quantity = pos 0; price = pos 0 })) blocks in
    subst (λ (xs : List g.row.N.Denot). map g.N.Exact.value xs ≡ map (block_sign m) (places (k + 1))) (sym c.in_ok-push.ensures)
    (places_filled g.N.Exact.value (block_sign m) c.loop-block.entries k c.by_side.result c.loop-block.invariant
    (sign_entry m k _ (g.N.Exact.value c.datum-one.result) (g.N.Exact.value c.by_side.result) read c.datum-one.ensures c.by_side.ensures))

pub returns : goal.returns
returns g c =
    let m = c.args.market.now in
    let blocks = c.slice-block-items.ensures ∙ c.blocks-2.ensures.list in
    let all : c.loop-block.block-index ≡ length m.blocks = omega (arith, ap length blocks) in
    subst (λ (n : ℕ). map g.N.Exact.value c.loop-block.entries ≡ map (block_sign m) (places n)) all c.loop-block.invariant
