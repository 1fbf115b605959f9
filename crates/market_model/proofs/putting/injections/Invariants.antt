use Rattle.std.proofs.Common.{◌≡◌, ℕ, ◌<◌, get_or}
use Rattle.market_model.specs.Dispatch.{injection}
use Rattle.market_model.specs.PutIn.{dispatch_of}
use Rattle.market_model.proofs.putting.injections.Given as goal

abbrev pub invariant-loop-bus : goal.invariant-loop-bus
invariant-loop-bus g l = (k : ℕ) (d : g.row.N.Denot) → k < l.bus → g.N.Exact.value (get_or l.out k d) ≡ injection l.market (dispatch_of g.N.Exact.value l.dispatch) k
