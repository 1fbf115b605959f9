use Rattle.std.proofs.Common.{◌++◌, ◌<◌, List, arith, length, subst, take}
use Rattle.std.specs.Prelude.{Contains, slice_index_or}
use Rattle.std.specs.List.{flat_map}
use Rattle.std.proofs.lemmas.List.{take_all}
use Rattle.std.proofs.lemmas.List.Elements.{Contains-get_or}
use Rattle.market_model.specs.declared.limits.Cause.TheVariants.{Base}
use Rattle.market_model.specs.declared.limits.Row.{Row}
use Rattle.price_system.specs.declared.variables.Variable.{Variable}
use Rattle.price_system.specs.PriceSystem.{two_sides}
use Rattle.price_search.specs.Points.{caps_at}
use Rattle.price_search.specs.PriceBounds.{AreBounds, dispatch_at}
use Rattle.price_search.proofs.BoundLists.{are_alone, sides_more}
use Rattle.price_search.proofs.posing.push_limit_bounds.Goals as goal

abbrev none : Row
none = record { line = 0; cause = Base }

pub loop-row-init : goal.loop-row-init
loop-row-init g c = λ vs are. are_alone g.N.Exact.value c.args.market.now _ _ vs c.args.bounds.now are

pub push_sides-requires-clause-row : goal.push_sides-requires-clause-row
push_sides-requires-clause-row g c =
    let items = c.args.point.reached.rows.now in
    let r : Row = slice_index_or items c.loop-row.row-index none in
    subst (λ (rs : List Row). Contains rs r) c.requires.reached.rows (Contains-get_or items c.loop-row.row-index none c.loop-row-test.true)

pub loop-row-preserved : goal.loop-row-preserved
loop-row-preserved g c = λ vs are.
    let m = c.args.market.now in
    let value = g.N.Exact.value in
    let rows = c.args.point.reached.rows.now in
    let k = c.loop-row.row-index in
    let lt : k < length rows = omega (arith, c.loop-row-test.true) in
    subst (λ (ws : List Variable). AreBounds value m (dispatch_at value c.args.point) (caps_at value c.args.caps) ws c.push_sides.new.bounds)
    (sides_more vs rows k none lt)
    (c.in_ok-push_sides.ensures.bounds (vs ++ flat_map two_sides (take k rows)) (c.loop-row.invariant vs are))

pub returns-clause-bounds : goal.returns-clause-bounds
returns-clause-bounds g c = λ vs are.
    let value = g.N.Exact.value in
    let rows = c.args.point.reached.rows.now in
    let k = c.loop-row.row-index in
    subst (λ (rs : List Row). AreBounds value c.args.market.now (dispatch_at value c.args.point) (caps_at value c.args.caps) (vs ++ flat_map two_sides rs) c.loop-row.bounds) (take_all k rows (omega arith)) (c.loop-row.invariant vs are)
