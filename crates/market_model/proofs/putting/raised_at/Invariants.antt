use Rattle.std.proofs.Common.{◌≡◌}
use Rattle.fraction_theory.specs.Sums.{total}
use Rattle.market_model.specs.PutIn.{dispatch_of}
use Rattle.market_model.proofs.PutInSteps.{raised_to}
use Rattle.market_model.proofs.putting.raised_at.Given as goal

abbrev pub invariant-loop-at : goal.invariant-loop-at
invariant-loop-at g l = g.N.Exact.value l.mw ≡ total (raised_to l.market l.bus (dispatch_of g.N.Exact.value l.dispatch) l.at)
