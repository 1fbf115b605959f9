use Rattle.std.proofs.Common.{rules, Err, ◌≡◌}
use Rattle.market_model.specs.Valued.{passed_at}
use Rattle.cert_sums.proofs.BoundLemmas.{bound_pair_of}
use Rattle.cert_sums.proofs.bounding.with_reserve.Goals as goal

pub returns-in_err-of_need-clause-stops : goal.returns-in_err-of_need-clause-stops
returns-in_err-of_need-clause-stops g c =
    let given : c.from_residual.result ≡ Err c.in_err-of_need.field-0.0 = search rules in
    λ d energy are price rooms start. rw given (bound_pair_of c.args.market.now d g.N.Exact.bound (passed_at g.N.Exact.value c.in_err-of_need.field-0.0) (c.in_err-of_need.ensures.stops d price start))

pub returns-in_err-of_rooms-clause-stops : goal.returns-in_err-of_rooms-clause-stops
returns-in_err-of_rooms-clause-stops g c =
    let given : c.from_residual-in_err-of_rooms.result ≡ Err c.in_err-of_rooms.field-0.0 = search rules in
    λ d energy are price rooms start. rw given
    (bound_pair_of c.args.market.now d g.N.Exact.bound (passed_at g.N.Exact.value c.in_err-of_rooms.field-0.0) (c.in_err-of_rooms.ensures.stops d rooms (c.in_ok-of_need.ensures.sum d price start)))
