use Rattle.std.proofs.Common.{Err, ◌≡◌, ◌∙◌, ap, map}
use Rattle.std.proofs.lemmas.Result.{err_from_is_err_and}
use Rattle.market_model.specs.Dispatch.{dispatch_with}
use Rattle.market_model.specs.SumTables.{IsRefusedAmong, RoomSum}
use Rattle.market_model.specs.Valued.{duals_at}
use Rattle.price_search.specs.Settling.{IsPriceRefusal, of_rooms}
use Rattle.price_search.proofs.SettlingLemmas.{point_is, reach_is, stops_weaker}
use Rattle.price_search.proofs.settling.first_duals.Goals as goal

pub returns-in_err-units-clause-stops : goal.returns-in_err-units-clause-stops
returns-in_err-units-clause-stops g c =
    let value = g.N.Exact.value in
    let bound = g.N.Exact.bound in
    let m = c.args.market.now in
    let x = dispatch_with (map value c.args.accepted.now) (map value c.args.reserved.now) in
    let stop = c.in_err-units.field-0.0 in
    let p = err_from_is_err_and c.from_residual.result c.from_residual.ensures.1 in
    let given : c.from_residual.result ≡ Err stop = p.1 ∙ ap Err p.2 in
    rw given (stops_weaker value (IsRefusedAmong (RoomSum m x) bound) (IsPriceRefusal m x (duals_at value c.args.duals.now) bound) stop (λ q h. of_rooms h) c.in_err-units.ensures.stops)

pub first_duals_at-requires-clause-point : goal.first_duals_at-requires-clause-point
first_duals_at-requires-clause-point g c =
    let value = g.N.Exact.value in
    let m = c.args.market.now in
    let x = dispatch_with (map value c.args.accepted.now) (map value c.args.reserved.now) in
    let reached = reach_is value m x c.args.reach.now _ c.lines-lines.ensures.market c.requires.reach c.deref-2.ensures.value (c.deref-3.ensures.value ∙ c.in_ok-units.ensures.used) in
    (x, point_is value m _ c.args.reach.now c.requires.accepted c.requires.reserved c.requires.reach c.deref.ensures.value reached, c.requires.supported)

pub returns-clause-first : goal.returns-clause-first
returns-clause-first g c =
    let value = g.N.Exact.value in
    let m = c.args.market.now in
    let x = dispatch_with (map value c.args.accepted.now) (map value c.args.reserved.now) in
    let reached = reach_is value m x c.args.reach.now _ c.lines-lines.ensures.market c.requires.reach c.deref-2.ensures.value (c.deref-3.ensures.value ∙ c.in_ok-units.ensures.used) in
    c.first_duals_at.ensures.first x (point_is value m _ c.args.reach.now c.requires.accepted c.requires.reserved c.requires.reach c.deref.ensures.value reached) c.requires.supported

pub returns-clause-stops : goal.returns-clause-stops
returns-clause-stops g c =
    let value = g.N.Exact.value in
    let m = c.args.market.now in
    let x = dispatch_with (map value c.args.accepted.now) (map value c.args.reserved.now) in
    let reached = reach_is value m x c.args.reach.now _ c.lines-lines.ensures.market c.requires.reach c.deref-2.ensures.value (c.deref-3.ensures.value ∙ c.in_ok-units.ensures.used) in
    c.first_duals_at.ensures.stops x (point_is value m _ c.args.reach.now c.requires.accepted c.requires.reserved c.requires.reach c.deref.ensures.value reached)
