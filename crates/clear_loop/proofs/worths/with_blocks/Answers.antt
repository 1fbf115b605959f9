use Rattle.std.proofs.Common.{rules, Err, ◌≡◌, ◌∙◌, ◌<◌, pos, ap, sym, subst, length, arith, List}
use Rattle.std.specs.Prelude.{slice_index_or}
use Rattle.std.proofs.lemmas.List.{length-map}
use Rattle.std.proofs.lemmas.List.FromFn.{length-map-range_with_len}
use Rattle.fraction_theory.specs.Fraction.{whole, ◌-ℚ◌}
use Rattle.market_model.specs.declared.participants.Block.{Block}
use Rattle.market_model.specs.declared.participants.Side.TheVariants.{Sell}
use Rattle.market_model.specs.Dispatch.{block_at, signed_by_side}
use Rattle.market_model.specs.Optimality.{energy_worth, room_price, unit_price}
use Rattle.market_model.specs.Valued.{duals_at, passed_at}
use Rattle.bus_prices.proofs.OwnLemmas.{own_read}
use Rattle.clear_loop.proofs.FarkasSums.{block_refused, block_step, blocks_all, blocks_none, energy_refused_there}
use Rattle.clear_loop.proofs.worths.with_blocks.Goals as goal

pub loop-at-init : goal.loop-at-init
loop-at-init g c = blocks_none c.args.market.now (duals_at g.N.Exact.value c.args.duals.now) (g.N.Exact.value c.args.of_rooms) c.requires.of_rooms

pub bounds-own-block : goal.bounds-own-block
bounds-own-block g c =
    let m = c.args.market.now in
    let value = g.N.Exact.value in
    let k = c.loop-at.at in
    let none : Block = record { unit = 0; side = Sell; quantity = pos 0; price = pos 0 } in
    let blocks = c.slice-block-items.ensures ∙ c.blocks-2.ensures.list in
    let inside = subst (λ (bs : List Block). (slice_index_or bs k (record { unit = 0; side = Sell; quantity = pos 0; price = pos 0 })).unit < length m.units) (sym blocks)
    (c.units-units.ensures.market.blocks k none (omega (arith, c.loop-at-test.true, ap length blocks))).unit in
    let count : length c.args.own.now ≡ length m.units =
    sym (length-map c.args.own.now value) ∙ ap length c.requires.own ∙ length-map-range_with_len (unit_price m (duals_at value c.args.duals.now)) 0 (length m.units) in
    omega (arith, inside, count)

pub offset_bounds-own-block : goal.offset_bounds-own-block
offset_bounds-own-block g c = let lt = bounds-own-block g c in omega (arith, lt)

pub returns-in_err-worth-clause-stops : goal.returns-in_err-worth-clause-stops
returns-in_err-worth-clause-stops g c =
    let m = c.args.market.now in
    let value = g.N.Exact.value in
    let d = duals_at value c.args.duals.now in
    let k = c.loop-at.at in
    let none : Block = record { unit = 0; side = Sell; quantity = pos 0; price = pos 0 } in
    let blocks = c.slice-block-items.ensures ∙ c.blocks-2.ensures.list in
    let inside = subst (λ (bs : List Block). (slice_index_or bs k (record { unit = 0; side = Sell; quantity = pos 0; price = pos 0 })).unit < length m.units) (sym blocks)
    (c.units-units.ensures.market.blocks k none (omega (arith, c.loop-at-test.true, ap length blocks))).unit in
    let count : length c.args.own.now ≡ length m.units = sym (length-map c.args.own.now value) ∙ ap length c.requires.own ∙ length-map-range_with_len (unit_price m d) 0 (length m.units) in
    let price = own_read value (unit_price m d) (length m.units) _ c.args.own.now c.index-own-block.result count inside c.requires.own c.index-own-block.is in
    let given : c.from_residual.result ≡ Err c.in_err-worth.field-0.0 = search rules in
    rw given (energy_refused_there m d _ inside c.in_err-worth.ensures.offers g.N.Exact.bound (passed_at value c.in_err-worth.field-0.0) (value c.index-own-block.result) price c.in_err-worth.ensures.stops)

pub loop-at-preserved : goal.loop-at-preserved
loop-at-preserved g c =
    let m = c.args.market.now in
    let value = g.N.Exact.value in
    let d = duals_at value c.args.duals.now in
    let k = c.loop-at.at in
    let none : Block = record { unit = 0; side = Sell; quantity = pos 0; price = pos 0 } in
    let blocks = c.slice-block-items.ensures ∙ c.blocks-2.ensures.list in
    let block = ap (λ (bs : List Block). slice_index_or bs k (record { unit = 0; side = Sell; quantity = pos 0; price = pos 0 })) blocks in
    let inside = subst (λ (bs : List Block). (slice_index_or bs k (record { unit = 0; side = Sell; quantity = pos 0; price = pos 0 })).unit < length m.units) (sym blocks)
    (c.units-units.ensures.market.blocks k none (omega (arith, c.loop-at-test.true, ap length blocks))).unit in
    let count : length c.args.own.now ≡ length m.units = sym (length-map c.args.own.now value) ∙ ap length c.requires.own ∙ length-map-range_with_len (unit_price m d) 0 (length m.units) in
    let price = own_read value (unit_price m d) (length m.units) _ c.args.own.now c.index-own-block.result count inside c.requires.own c.index-own-block.is in
    let worth = c.in_ok-worth.ensures.less ∙ ap (λ x. x -ℚ room_price m d (slice_index_or c.slice-block-items.result.now k (record { unit = 0; side = Sell; quantity = pos 0; price = pos 0 })).unit) price ∙ ap (λ (b : Block). energy_worth m d b.unit) block in
    block_step m d k (value c.by_side.result) _ (c.by_side.ensures ∙ ap (λ (b : Block). signed_by_side b.side (value c.in_ok-worth.worth)) block ∙ ap (signed_by_side (block_at m k).side) worth)
    (c.block_quantity.ensures ∙ ap (λ (b : Block). whole b.quantity) block) (value c.loop-at.sum) _ c.loop-at.invariant c.in_ok-sum.ensures.sum

pub returns-in_err-sum-clause-stops : goal.returns-in_err-sum-clause-stops
returns-in_err-sum-clause-stops g c =
    let m = c.args.market.now in
    let value = g.N.Exact.value in
    let d = duals_at value c.args.duals.now in
    let k = c.loop-at.at in
    let none : Block = record { unit = 0; side = Sell; quantity = pos 0; price = pos 0 } in
    let blocks = c.slice-block-items.ensures ∙ c.blocks-2.ensures.list in
    let block = ap (λ (bs : List Block). slice_index_or bs k (record { unit = 0; side = Sell; quantity = pos 0; price = pos 0 })) blocks in
    let below : k < length m.blocks = omega (arith, c.loop-at-test.true, ap length blocks) in
    let inside = subst (λ (bs : List Block). (slice_index_or bs k (record { unit = 0; side = Sell; quantity = pos 0; price = pos 0 })).unit < length m.units) (sym blocks) (c.units-units.ensures.market.blocks k none below).unit in
    let count : length c.args.own.now ≡ length m.units = sym (length-map c.args.own.now value) ∙ ap length c.requires.own ∙ length-map-range_with_len (unit_price m d) 0 (length m.units) in
    let price = own_read value (unit_price m d) (length m.units) _ c.args.own.now c.index-own-block.result count inside c.requires.own c.index-own-block.is in
    let worth = c.in_ok-worth.ensures.less ∙ ap (λ x. x -ℚ room_price m d (slice_index_or c.slice-block-items.result.now k (record { unit = 0; side = Sell; quantity = pos 0; price = pos 0 })).unit) price ∙ ap (λ (b : Block). energy_worth m d b.unit) block in
    let given : c.from_residual-in_err-sum.result ≡ Err c.in_err-sum.field-0.0 = search rules in
    rw given
    (block_refused m d k (value c.by_side.result) _ (c.by_side.ensures ∙ ap (λ (b : Block). signed_by_side b.side (value c.in_ok-worth.worth)) block ∙ ap (signed_by_side (block_at m k).side) worth)
    (c.block_quantity.ensures ∙ ap (λ (b : Block). whole b.quantity) block) (value c.loop-at.sum) g.N.Exact.bound (passed_at value c.in_err-sum.field-0.0) below c.loop-at.invariant c.in_err-sum.ensures.stops)

pub returns-clause-sum : goal.returns-clause-sum
returns-clause-sum g c =
    let blocks = c.slice-block-items.ensures ∙ c.blocks-2.ensures.list in
    let all : c.loop-at.at ≡ length c.args.market.now.blocks = omega (arith, ap length blocks) in
    c.loop-at.invariant ∙ rw all (blocks_all c.args.market.now (duals_at g.N.Exact.value c.args.duals.now))
