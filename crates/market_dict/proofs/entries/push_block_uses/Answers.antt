use Rattle.std.proofs.Common.{◌≡◌, ◌∙◌, ◌+◌, ◌++◌, List, map, ap, ap₂, subst, sym, length, arith, pos, ℕ}
use Rattle.std.specs.Prelude.{slice_index_or}
use Rattle.fraction_theory.specs.Fraction.{Fraction}
use Rattle.market_model.specs.declared.participants.Block.{Block}
use Rattle.market_model.specs.declared.participants.Side.TheVariants.{Sell}
use Rattle.market_model.specs.Dispatch.{places}
use Rattle.market_system.specs.declared.variables.Variable.TheVariants as variable
use Rattle.market_system.specs.MarketSystem.{at_unit, room_coefficient}
use Rattle.market_dict.proofs.ColumnLists.{mapped_blocks}
use Rattle.market_dict.proofs.EntryLemmas.{sign_entry}
use Rattle.market_dict.proofs.ListedLemmas.{filled_behind}
use Rattle.market_dict.proofs.entries.push_block_uses.Goals as goal

pub loop-block-preserved : goal.loop-block-preserved
loop-block-preserved g c =
    let m = c.args.market.now in
    let u = c.args.unit in
    let value = g.N.Exact.value in
    let k = c.loop-block.block-index in
    let old = map value c.args.entries.now in
    let of : ℕ → Fraction = λ j. room_coefficient m u (variable.Block j) in
    let blocks = c.slice-block-items.ensures ∙ c.blocks-2.ensures.list in
    let read = ap (λ (bs : List Block). slice_index_or bs k (record { unit = 0; side = Sell; quantity = pos 0; price = pos 0 })) blocks in
    subst (λ (xs : List g.row.N.Denot). map value xs ≡ old ++ map of (places (k + 1))) (sym c.in_ok-push.ensures)
    (filled_behind value of old c.loop-block.entries k c.at_unit.result c.loop-block.invariant
    (c.at_unit.ensures ∙ ap₂ (λ (b : Block) (x : Fraction). at_unit u b.unit x) read (sign_entry m k _ (value c.datum-one.result) (value c.by_side.result) read c.datum-one.ensures c.by_side.ensures)))

pub returns : goal.returns
returns g c =
    let m = c.args.market.now in
    let value = g.N.Exact.value in
    let old = map value c.args.entries.now in
    let of : ℕ → Fraction = λ j. room_coefficient m c.args.unit (variable.Block j) in
    let blocks = c.slice-block-items.ensures ∙ c.blocks-2.ensures.list in
    let all : c.loop-block.block-index ≡ length m.blocks = omega (arith, ap length blocks) in
    subst (λ (n : ℕ). map value c.loop-block.entries ≡ old ++ map of (places n)) all c.loop-block.invariant ∙ ap (λ (xs : List Fraction). old ++ xs) (sym (mapped_blocks m (room_coefficient m c.args.unit)))
