use Rattle.std.proofs.Common.{◌≡◌, ℕ, ◌<◌, get_or}
use Rattle.market_model.specs.LimitRows.{lost_output}
use Rattle.market_model.specs.PutIn.{dispatch_of}
use Rattle.limit_rows.proofs.flowing.put_lost_outputs.Given as goal

abbrev pub invariant-loop-outage : goal.invariant-loop-outage
invariant-loop-outage g l = (k : ℕ) (d : g.row.N.Denot) → k < l.outage → g.N.Exact.value (get_or l.out k d) ≡ lost_output l.market (dispatch_of g.N.Exact.value l.dispatch) k
