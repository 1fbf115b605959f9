use Rattle.std.proofs.Common.{◌≡◌, ℕ, ◌<◌, get_or, map}
use Rattle.market_model.specs.LimitRows.{line_flow}
use Rattle.market_model.specs.PutIn.{put_in}
use Rattle.limit_rows.proofs.flowing.put_line_flows.Given as goal

abbrev pub invariant-loop-line : goal.invariant-loop-line
invariant-loop-line g l = (k : ℕ) (d : g.row.N.Denot) → k < l.line → g.N.Exact.value (get_or l.out k d) ≡ line_flow l.market (put_in (map g.N.Exact.value l.injections)) k
