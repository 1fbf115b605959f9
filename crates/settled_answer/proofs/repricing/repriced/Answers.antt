use Rattle.std.proofs.Common.{Err, ◌≡◌, map, rules, subst}
use Rattle.market_model.specs.Dispatch.{dispatch_with}
use Rattle.market_model.specs.Stops.{StopsBy}
use Rattle.market_model.specs.Valued.{answer_at, duals_at}
use Rattle.price_search.specs.Settling.{IsPriceRefusal}
use Rattle.settled_answer.proofs.SettledLemmas.{search_stop}
use Rattle.settled_answer.proofs.repricing.repriced.Goals as goal

pub returns-in_err-found-clause-stops : goal.returns-in_err-found-clause-stops
returns-in_err-found-clause-stops g c =
    let value = g.N.Exact.value in
    let m = c.args.market.now in
    let d = duals_at value c.args.answer.now.duals in
    let stop = c.in_err-found.field-0.0 in
    let given : c.from_residual.result ≡ Err stop = search rules in
    rw given
    (search_stop value g.N.Exact.bound m (answer_at value c.args.answer.now) stop
    (subst (λ rs. StopsBy value (IsPriceRefusal m (dispatch_with (map value c.args.answer.now.dispatch) (map value rs)) d g.N.Exact.bound) stop) c.slice-2.ensures
    (subst (λ ds. StopsBy value (IsPriceRefusal m (dispatch_with (map value ds) (map value c.slice-2.result.now)) d g.N.Exact.bound) stop) c.slice.ensures c.in_err-found.ensures.stops)))
