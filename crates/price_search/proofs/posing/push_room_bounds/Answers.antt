use Rattle.std.proofs.Common.{◌∙◌, ◌++◌, ◌<◌, List, arith, length, map, subst, take, ℕ}
use Rattle.std.specs.Prelude.{Contains, slice_index_or}
use Rattle.std.proofs.lemmas.List.{map_more, take_all}
use Rattle.std.proofs.lemmas.List.Elements.{Contains-get_or}
use Rattle.price_system.specs.declared.variables.Variable.TheVariants.{Room}
use Rattle.price_search.specs.Points.{caps_at}
use Rattle.price_search.specs.PriceBounds.{AreBounds, dispatch_at}
use Rattle.price_search.proofs.BoundLists.{are_alone, are_more}
use Rattle.price_search.proofs.RowLemmas.{room_low}
use Rattle.price_search.proofs.posing.push_room_bounds.Goals as goal

pub loop-unit-init : goal.loop-unit-init
loop-unit-init g c = λ vs are. are_alone g.N.Exact.value c.args.market.now _ _ vs c.args.bounds.now are

pub loop-unit-preserved : goal.loop-unit-preserved
loop-unit-preserved g c = λ vs are.
    let m = c.args.market.now in
    let value = g.N.Exact.value in
    let x = dispatch_at value c.args.point in
    let caps = caps_at value c.args.caps in
    let us = c.args.point.reached.units.now in
    let k = c.loop-unit._unit-index in
    let u = slice_index_or us k 0 in
    let lt : k < length us = omega (arith, c.loop-unit-test.true) in
    let among = subst (λ (ws : List ℕ). Contains ws u) c.requires.reached.units (Contains-get_or us k 0 lt) in
    are_more value m x caps vs (map Room (take k us)) _ (Room u) c.loop-unit.bounds c.push.new.self (record { low = c.neg.result; high = c.datum.result }) (map_more Room us k 0 lt) c.in_ok-push.ensures (c.loop-unit.invariant vs are)
    (c.neg.ensures ∙ room_low m x caps u among) c.datum.ensures

pub returns : goal.returns
returns g c = λ vs are.
    let value = g.N.Exact.value in
    let us = c.args.point.reached.units.now in
    let k = c.loop-unit._unit-index in
    subst (λ (ws : List ℕ). AreBounds value c.args.market.now (dispatch_at value c.args.point) (caps_at value c.args.caps) (vs ++ map Room ws) c.loop-unit.bounds) (take_all k us (omega arith)) (c.loop-unit.invariant vs are)
