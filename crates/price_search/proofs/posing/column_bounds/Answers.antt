use Rattle.std.proofs.Common.{◌++◌, ◌∷◌, [], List, map, subst₂, ℕ}
use Rattle.std.specs.List.{flat_map}
use Rattle.market_model.specs.declared.limits.Row.{Row}
use Rattle.price_system.specs.declared.variables.Variable.{Variable}
use Rattle.price_system.specs.declared.variables.Variable.TheVariants.{Energy, Reserve, Room}
use Rattle.price_system.specs.PriceSystem.{two_sides}
use Rattle.price_search.specs.Points.{caps_at}
use Rattle.price_search.specs.PriceBounds.{AreBounds, dispatch_at}
use Rattle.price_search.proofs.BoundLists.{are_behind}
use Rattle.price_search.proofs.posing.column_bounds.Goals as goal

abbrev first : List Variable
first = Energy ∷ Reserve ∷ []

pub returns-clause-bounds : goal.returns-clause-bounds
returns-clause-bounds g c =
    let m = c.args.market.now in
    let value = g.N.Exact.value in
    let x = dispatch_at value c.args.point in
    let caps = caps_at value c.args.caps in
    let reached = c.args.point.reached in
    let limits = flat_map two_sides reached.rows.now in
    let all = c.in_ok-push_room_bounds.ensures (first ++ limits) (c.in_ok-push_limit_bounds.ensures.bounds first c.in_ok-bounds.ensures.bounds) in
    subst₂ (λ (rs : List Row) (us : List ℕ). AreBounds value m x caps (first ++ (flat_map two_sides rs ++ map Room us)) c.push_room_bounds.new.bounds) c.requires.reached.rows c.requires.reached.units
    (are_behind value m x caps first limits (map Room reached.units.now) _ all)
