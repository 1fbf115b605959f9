use Rattle.std.proofs.Common.{◌≡◌, [], map}
use Rattle.fraction_theory.specs.Sums.{total}
use Rattle.market_model.specs.Dispatch.{places, dispatch_with}
use Rattle.market_model.specs.Reserves.{reserved_term}
use Rattle.market_model.proofs.reserving.reserve_in_all.Given as goal

abbrev pub invariant-loop-mw : goal.invariant-loop-mw
invariant-loop-mw g l = g.N.Exact.value l.sum ≡ total (map (reserved_term (dispatch_with [] (map g.N.Exact.value l.reserve))) (places l.mw-index))
