use Rattle.std.proofs.Common.{◌≡◌, ◌+◌, ◌∷◌, ◌∙◌, ap, arith, length, map, subst, sym, ℕ}
use Rattle.std.specs.List.{Contains}
use Rattle.market_model.specs.Dispatch.{block_at}
use Rattle.price_system.specs.declared.variables.Variable.TheVariants.{Block, Sum}
use Rattle.price_system.specs.PriceSystem.{energy_coefficient}
use Rattle.price_dict.specs.Marked.{HoldsMarked}
use Rattle.price_dict.proofs.HoldingLaws.{entry_count}
use Rattle.price_dict.proofs.MarkedLaws.{block_absent, marked_more, marked_over}
use Rattle.price_dict.proofs.NamePlaces.{block_read, worths_count}
use Rattle.price_dict.proofs.blocks.put_marked.Goals.{then-marks-place+in_ok-entries+in_ok-put_row, else-marks-place}
use Rattle.price_dict.proofs.blocks.put_marked.Goals as goal

pub row_name_behind-requires-clause-place : goal.row_name_behind-requires-clause-place
row_name_behind-requires-clause-place g c =
    let m = c.args.market.now in
    let blocks : c.len-place-end.result ≡ length m.blocks = c.len-place-end.ensures ∙ ap length c.blocks-2.ensures.list in
    omega (arith, worths_count m, blocks, c.loop-place-test.true)

pub put_row-requires-clause-absent : goal.put_row-requires-clause-absent
put_row-requires-clause-absent g c =
    let m = c.args.market.now in
    let blocks : c.len-place-end.result ≡ length m.blocks = c.len-place-end.ensures ∙ ap length c.blocks-2.ensures.list in
    subst (λ (n : ℕ). ¬ (Contains c.loop-place.dict.names n)) (sym c.row_name_behind.ensures)
    (block_absent m c.args.columns.now c.args.marks.now c.loop-place.place c.loop-place.dict c.loop-place.invariant c.lines-lines.ensures.market c.requires.columns (omega (arith, blocks, c.loop-place-test.true)))

pub put_row-requires-clause-entries : goal.put_row-requires-clause-entries
put_row-requires-clause-entries g c =
    let m = c.args.market.now in
    entry_count g.N.Exact.value m c.args.columns.now (Sum ∷ map Block c.loop-place.invariant.blocks) c.loop-place.dict (energy_coefficient m c.at.result.now.unit) c.slice.result.now c.loop-place.invariant.put
    (ap (map g.N.Exact.value) c.slice.ensures ∙ c.in_ok-entries.ensures.entries)

pub loop-place-preserved : goal.loop-place-preserved
loop-place-preserved g c =
    let m = c.args.market.now in
    let k = c.loop-place.place in
    elim c.if-marks-place.branch [
      | then-marks-place+in_ok-entries+in_ok-put_row w ↦
          let unit : w.at.result.now.unit ≡ (block_at m k).unit = block_read m w.blocks-then-marks-place.result.now k w.at.result.now w.blocks-then-marks-place.ensures.list w.at.ensures in
          subst (HoldsMarked m c.args.columns.now c.args.marks.now (k + 1)) (sym w.dict-is)
          (marked_more m c.args.columns.now c.args.marks.now k c.loop-place.dict c.loop-place.invariant g.N.Exact.value w.row_name_behind.result w.slice.result.now w.put_row.new.dict w.if-marks-place.true w.row_name_behind.ensures
          (ap (map g.N.Exact.value) w.slice.ensures ∙ w.in_ok-entries.ensures.entries ∙ ap (λ (u : ℕ). map (energy_coefficient m u) c.args.columns.now) unit) w.in_ok-put_row.ensures)
      | else-marks-place w ↦
          subst (HoldsMarked m c.args.columns.now c.args.marks.now (k + 1)) (sym w.dict-is) (marked_over m c.args.columns.now c.args.marks.now k c.loop-place.dict c.loop-place.invariant)
    ]

pub returns-clause-put : goal.returns-clause-put
returns-clause-put g c =
    let m = c.args.market.now in
    let blocks : c.len-place-end.result ≡ length m.blocks = c.len-place-end.ensures ∙ ap length c.blocks-2.ensures.list in
    let all : c.loop-place.place ≡ length m.blocks = omega (arith, blocks, c.loop-place-test.false, c.loop-place.auto.place-end) in
    subst (λ (n : ℕ). HoldsMarked m c.args.columns.now c.args.marks.now n c.loop-place.dict) all c.loop-place.invariant
