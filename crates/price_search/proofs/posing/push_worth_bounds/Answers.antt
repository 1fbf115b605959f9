use Rattle.std.proofs.Common.{◌≡◌, ◌∙◌, ◌++◌, ◌∷◌, [], Err, ap, length, map}
use Rattle.std.proofs.lemmas.Result.{err_from_is_err_and}
use Rattle.market_model.specs.declared.stops.Stop.TheVariants.{Passed as StoppedBy}
use Rattle.market_model.specs.Dispatch.{places}
use Rattle.market_model.specs.Reserves.{offer_places}
use Rattle.price_system.specs.declared.variables.Variable.TheVariants.{Sum, Block, Offer}
use Rattle.price_search.specs.Points.{caps_at}
use Rattle.price_search.specs.PriceBounds.{dispatch_at}
use Rattle.price_search.specs.Refusals.{of_worth}
use Rattle.price_search.proofs.BoundLists.{are_behind}
use Rattle.price_search.proofs.posing.push_worth_bounds.Goals as goal

pub returns-in_err-cap-clause-stops : goal.returns-in_err-cap-clause-stops
returns-in_err-cap-clause-stops g c =
    let p = err_from_is_err_and c.from_residual.result c.from_residual.ensures.1 in
    let given : c.from_residual.result ≡ Err (StoppedBy c.in_err-cap.field-0.0) = p.1 ∙ ap Err p.2 in
    rw given (of_worth c.in_err-cap.ensures.stops)

pub returns-clause-bounds : goal.returns-clause-bounds
returns-clause-bounds g c = λ vs are.
    let m = c.args.market.now in
    let value = g.N.Exact.value in
    let x = dispatch_at value c.args.point in
    let caps = caps_at value c.args.caps in
    let blocks = map Block (places (length m.blocks)) in
    let offers = map Offer (offer_places m) in
    let summed = c.in_ok-push_sum_bounds.ensures m x vs are in
    let all = c.in_ok-push_offer_bounds.ensures ((vs ++ Sum ∷ []) ++ blocks) (c.in_ok-push_block_bounds.ensures (vs ++ Sum ∷ []) summed) in
    are_behind value m x caps vs (Sum ∷ []) (blocks ++ offers) _ (are_behind value m x caps (vs ++ Sum ∷ []) blocks offers _ all)
