use Rattle.std.proofs.Common.{◌≡◌, map}
use Rattle.fraction_theory.specs.Sums.{Product, total}
use Rattle.market_model.specs.Dispatch.{places, accepted}
use Rattle.market_model.specs.Optimality.{block_value}
use Rattle.market_model.specs.PutIn.{dispatch_of}
use Rattle.settlement.proofs.worth.values.Given as goal

abbrev pub invariant-loop-place : goal.invariant-loop-place
invariant-loop-place g l =
    g.N.Exact.value l.sum ≡ total (map (λ j. Product (block_value l.market j) (accepted (dispatch_of g.N.Exact.value l.dispatch) j)) (places l.place))
