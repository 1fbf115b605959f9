use Rattle.std.proofs.Common.{◌∙◌, ◌++◌, ◌∷◌, [], ◌<◌, List, ap, append_assoc, arith, length, map, sym, take}
use Rattle.std.specs.List.{flat_map}
use Rattle.std.specs.Prelude.{slice_index_or}
use Rattle.std.proofs.lemmas.List.{append-nil, take_all}
use Rattle.market_model.specs.declared.limits.Cause.TheVariants.{Base}
use Rattle.market_model.specs.declared.limits.Row.{Row}
use Rattle.price_system.specs.declared.variables.Variable.{Variable}
use Rattle.price_system.specs.declared.variables.Variable.TheVariants.{Energy, Reserve, Room}
use Rattle.price_system.specs.PriceSystem.{column_price, two_sides}
use Rattle.price_search.proofs.BoundLists.{room_pushed, sides_more, sides_pushed}
use Rattle.price_search.proofs.posing.column_prices.Goals as goal

abbrev none : Row
none = record { line = 0; cause = Base }

abbrev first : List Variable
first = Energy ∷ Reserve ∷ []

pub loop-row-preserved : goal.loop-row-preserved
loop-row-preserved g c =
    let rows = c.args.point.reached.rows.now in
    let k = c.loop-row._row-index in
    let lt : k < length rows = omega (arith, c.loop-row-test.true) in
    sides_pushed g.N.Exact.value c.loop-row.prices c.push-in-loop-row.new.self c.push-in-loop-row-2.new.self c.datum-one.result (first ++ flat_map two_sides (take k rows)) (slice_index_or rows k none) c.datum-one.ensures c.loop-row.invariant
    c.in_ok-push-3.ensures c.in_ok-push-4.ensures
    ∙ ap (map column_price) (sides_more first rows k none lt)

pub loop-unit-init : goal.loop-unit-init
loop-unit-init g c =
    let rows = c.args.point.reached.rows.now in
    let k = c.loop-row._row-index in
    c.loop-row.invariant ∙ ap (λ (rs : List Row). map column_price (first ++ flat_map two_sides rs)) (take_all k rows (omega arith))
    ∙ ap (map column_price) (sym (append-nil (first ++ flat_map two_sides rows)))

pub loop-unit-preserved : goal.loop-unit-preserved
loop-unit-preserved g c =
    let us = c.args.point.reached.units.now in
    let front = first ++ flat_map two_sides c.args.point.reached.rows.now in
    let k = c.loop-unit._unit-index in
    let lt : k < length us = omega (arith, c.loop-unit-test.true) in
    room_pushed g.N.Exact.value c.loop-unit.prices c.push-in-loop-unit.new.self c.datum-one.result front us k 0 lt c.datum-one.ensures c.loop-unit.invariant c.in_ok-push-5.ensures

pub returns : goal.returns
returns g c =
    let us = c.args.point.reached.units.now in
    let rows = flat_map two_sides c.args.point.reached.rows.now in
    c.loop-unit.invariant ∙ ap (λ (ws : List _). map column_price ((first ++ rows) ++ map Room ws)) (take_all c.loop-unit._unit-index us (omega arith))
    ∙ ap (map column_price) (append_assoc first rows (map Room us))
