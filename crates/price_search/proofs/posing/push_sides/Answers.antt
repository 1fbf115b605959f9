use Rattle.std.proofs.Common.{◌≡◌, ◌∙◌, Err, ap}
use Rattle.std.proofs.lemmas.Result.{err_from_is_err_and}
use Rattle.market_model.specs.declared.stops.Stop.TheVariants.{Passed as StoppedBy}
use Rattle.market_model.proofs.RowMembers.{at_places}
use Rattle.price_search.specs.PriceBounds.{dispatch_at}
use Rattle.price_search.specs.Refusals.{of_flow, of_most_flow}
use Rattle.price_search.proofs.RowLemmas.{is_row}
use Rattle.price_search.proofs.posing.push_sides.Goals as goal

pub returns-in_err-flow-clause-stops : goal.returns-in_err-flow-clause-stops
returns-in_err-flow-clause-stops g c =
    let p = err_from_is_err_and c.from_residual.result c.from_residual.ensures.1 in
    let given : c.from_residual.result ≡ Err (StoppedBy c.in_err-flow.field-0.0) = p.1 ∙ ap Err p.2 in
    rw given (of_flow c.args.row c.requires.row c.in_err-flow.ensures.stops)

pub side_bounds-requires : goal.side_bounds-requires
side_bounds-requires g c =
    let m = c.args.market.now in
    (at_places m c.lines-lines.ensures.market c.args.row (is_row m (dispatch_at g.N.Exact.value c.args.point) c.args.row c.requires.row)).0

pub returns-in_err-up-clause-stops : goal.returns-in_err-up-clause-stops
returns-in_err-up-clause-stops g c =
    let p = err_from_is_err_and c.from_residual-in_err-up.result c.from_residual-in_err-up.ensures.1 in
    let given : c.from_residual-in_err-up.result ≡ Err (StoppedBy c.in_err-up.field-0.0) = p.1 ∙ ap Err p.2 in
    rw given (of_most_flow c.args.row c.requires.row c.in_err-up.ensures.stops)

pub side_bounds-requires-2 : goal.side_bounds-requires-2
side_bounds-requires-2 g c =
    let m = c.args.market.now in
    (at_places m c.lines-lines.ensures.market c.args.row (is_row m (dispatch_at g.N.Exact.value c.args.point) c.args.row c.requires.row)).0

pub returns-in_err-down-clause-stops : goal.returns-in_err-down-clause-stops
returns-in_err-down-clause-stops g c =
    let p = err_from_is_err_and c.from_residual-in_err-down.result c.from_residual-in_err-down.ensures.1 in
    let given : c.from_residual-in_err-down.result ≡ Err (StoppedBy c.in_err-down.field-0.0) = p.1 ∙ ap Err p.2 in
    rw given (of_most_flow c.args.row c.requires.row c.in_err-down.ensures.stops)
