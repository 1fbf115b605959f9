use Rattle.std.proofs.Common.{◌≡◌, ◌<◌, ◌+◌, ◌∙◌, ap, arith, length, map, refl, subst, sym, ℕ, take}
use Rattle.std.specs.List.{Contains}
use Rattle.market_model.specs.Dispatch.{block_at}
use Rattle.price_system.specs.declared.variables.Variable.TheVariants.{Block}
use Rattle.price_system.specs.PriceSystem.{energy_coefficient, worths}
use Rattle.price_dict.specs.Holding.{HasPutIn}
use Rattle.price_dict.proofs.HoldingLaws.{next_absent, put_next}
use Rattle.price_dict.proofs.NamePlaces.{block_read, block_worth, worths_count}
use Rattle.price_dict.proofs.rows.put_blocks.Goals as goal

pub row_name_behind-requires-clause-place : goal.row_name_behind-requires-clause-place
row_name_behind-requires-clause-place g c =
    let m = c.args.market.now in
    let blocks : c.len-place-end.result ≡ length m.blocks = c.len-place-end.ensures ∙ ap length c.blocks-2.ensures.list in
    omega (arith, worths_count m, blocks, c.loop-place-test.true)

pub put_row-requires-clause-absent : goal.put_row-requires-clause-absent
put_row-requires-clause-absent g c =
    let m = c.args.market.now in
    let blocks : c.len-place-end.result ≡ length m.blocks = c.len-place-end.ensures ∙ ap length c.blocks-2.ensures.list in
    let inside : 1 + c.loop-place.place < length (worths m) = omega (arith, worths_count m, blocks, c.loop-place-test.true) in
    subst (λ (n : ℕ). ¬ (Contains c.loop-place.dict.names n)) (sym c.row_name_behind.ensures)
    (next_absent m c.args.columns.now (1 + c.loop-place.place) c.loop-place.dict c.lines-lines.ensures.market c.requires.columns inside c.loop-place.invariant)

pub loop-place-preserved : goal.loop-place-preserved
loop-place-preserved g c =
    let m = c.args.market.now in
    let k = c.loop-place.place in
    let blocks : c.len-place-end.result ≡ length m.blocks = c.len-place-end.ensures ∙ ap length c.blocks-2.ensures.list in
    let here : k < length m.blocks = omega (arith, blocks, c.loop-place-test.true) in
    let inside : 1 + k < length (worths m) = omega (arith, worths_count m, here) in
    let next : 1 + k + 1 ≡ 1 + (k + 1) = omega arith in
    let unit : c.at.result.now.unit ≡ (block_at m k).unit = block_read m c.blocks-in-loop-place.result.now k c.at.result.now c.blocks-in-loop-place.ensures.list c.at.ensures in
    subst (λ (n : ℕ). HasPutIn m c.args.columns.now (take n (worths m)) c.put_row.new.dict) next
    (put_next g.N.Exact.value m c.args.columns.now (1 + k) (Block k) (energy_coefficient m (block_at m k).unit) c.row_name_behind.result c.slice.result.now c.loop-place.dict c.put_row.new.dict inside (block_worth m k here)
    (λ j. refl) c.row_name_behind.ensures c.loop-place.invariant
    (ap (map g.N.Exact.value) c.slice.ensures ∙ c.in_ok-entries.ensures.entries ∙ ap (λ (u : ℕ). map (energy_coefficient m u) c.args.columns.now) unit) c.in_ok-put_row.ensures)

pub returns-clause-put : goal.returns-clause-put
returns-clause-put g c =
    let m = c.args.market.now in
    let blocks : c.len-place-end.result ≡ length m.blocks = c.len-place-end.ensures ∙ ap length c.blocks-2.ensures.list in
    let all : c.loop-place.place ≡ length m.blocks = omega (arith, blocks, c.loop-place-test.false, c.loop-place.auto.place-end) in
    subst (λ (n : ℕ). HasPutIn m c.args.columns.now (take (1 + n) (worths m)) c.loop-place.dict) all c.loop-place.invariant
