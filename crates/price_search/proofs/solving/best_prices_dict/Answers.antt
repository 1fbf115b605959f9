use Rattle.std.proofs.Common.{Err, ◌≡◌, ◌∙◌, ap, sym, subst}
use Rattle.std.proofs.lemmas.Result.{err_from_is_err_and}
use Rattle.simplex_theory.specs.States.{HasNoPoint}
use Rattle.price_search.specs.Searching.{HoldsBestPrices}
use Rattle.price_search.proofs.PosedLemmas.{bound_count, has_point, holds_kept, holds_posed, ordered, pair_is, pair_posed, price_count}
use Rattle.price_search.proofs.solving.best_prices_dict.Goals as goal

pub pose-requires-clause-prices : goal.pose-requires-clause-prices
pose-requires-clause-prices g c = let a = c.requires.asks in price_count g.N.Exact.value a.0 a.1 a.2 c.args.dict c.args.prices.now c.args.bounds.now a.3

pub pose-requires-clause-bounds : goal.pose-requires-clause-bounds
pose-requires-clause-bounds g c = let a = c.requires.asks in bound_count g.N.Exact.value a.0 a.1 a.2 c.args.dict c.args.prices.now c.args.bounds.now a.3

pub pose-requires-clause-ordered : goal.pose-requires-clause-ordered
pose-requires-clause-ordered g c = let a = c.requires.asks in ordered g.N.Exact.value a.0 a.1 a.2 c.args.dict c.args.prices.now c.args.bounds.now a.3

pub returns-in_err-pose-clause-pair : goal.returns-in_err-pose-clause-pair
returns-in_err-pose-clause-pair g c = λ m x caps asks.
    let stop = c.in_err-pose.field-0.0 in
    let p = err_from_is_err_and c.from_residual.result c.from_residual.ensures.1 in
    let given : c.from_residual.result ≡ Err stop = p.1 ∙ ap Err p.2 in
    rw given (pair_posed g.N.Exact.value m x caps c.args.dict c.args.prices.now c.args.bounds.now asks g.N.Exact.bound stop c.in_err-pose.ensures.pair)

pub unreachable-requires : goal.unreachable-requires
unreachable-requires g c =
    let a = c.requires.asks in
    let end = c.in-Empty.ensures.outcome in
    has_point g.N.Exact.value a.0 a.1 a.2 c.args.dict c.args.prices.now c.args.bounds.now a.3 c.in_ok-pose.field-0 c.in_ok-pose.ensures.posed c.points_stay.ensures
    (subst HasNoPoint end.0.system end.2.none)

pub returns-in-Solved-clause-best : goal.returns-in-Solved-clause-best
returns-in-Solved-clause-best g c = λ m x caps asks.
    let end = c.in-Solved.ensures.outcome in
    let posed = c.in_ok-pose.field-0 in
    let holds = holds_posed g.N.Exact.value m x caps c.args.dict c.args.prices.now c.args.bounds.now asks posed c.in_ok-pose.ensures.posed in
    subst (HoldsBestPrices m x caps) (sym c.into_dict.ensures)
    (record { holds = holds_kept m x caps posed c.in-Solved.solved holds end.0; shows = end.1; solved = end.2 })

pub returns-in-Passed-clause-pair : goal.returns-in-Passed-clause-pair
returns-in-Passed-clause-pair g c = λ m x caps asks.
    pair_is g.N.Exact.value m x caps c.args.dict c.args.prices.now c.args.bounds.now asks c.in_ok-pose.field-0 c.in_ok-pose.ensures.posed g.N.Exact.bound c.in-Passed.passed c.in-Passed.ensures.outcome
