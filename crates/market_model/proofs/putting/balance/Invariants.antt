use Rattle.std.proofs.Common.{◌≡◌, take}
use Rattle.fraction_theory.specs.Sums.{sum_by}
use Rattle.market_model.proofs.putting.balance.Given as goal

abbrev pub invariant-loop-mw : goal.invariant-loop-mw
invariant-loop-mw g l = g.N.Exact.value l.sum ≡ sum_by g.N.Exact.value (take l.mw-index l.injections)
