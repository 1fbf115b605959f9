use Rattle.std.proofs.Common.{◌≡◌, map}
use Rattle.fraction_theory.specs.Sums.{total}
use Rattle.market_model.specs.PutIn.{put_in}
use Rattle.limit_rows.proofs.FlowSteps.{line_to}
use Rattle.limit_rows.proofs.flowing.line_flow.Given as goal

abbrev pub invariant-loop-bus : goal.invariant-loop-bus
invariant-loop-bus g l = g.N.Exact.value l.flow ≡ total (line_to l.market (put_in (map g.N.Exact.value l.injections)) l.line l.bus)
