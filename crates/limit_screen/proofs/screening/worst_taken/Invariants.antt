use Rattle.std.proofs.Common.{map}
use Rattle.market_model.specs.LimitRows.{flow_by}
use Rattle.limit_screen.specs.Flows.{carried_at}
use Rattle.limit_screen.specs.Screening.{IsWorstOf, taken_rows}
use Rattle.limit_screen.proofs.screening.worst_taken.Given as goal

abbrev pub invariant-loop-row : goal.invariant-loop-row
invariant-loop-row g l = IsWorstOf g.N.Exact.value l.market (taken_rows l.market l.taken) (flow_by l.market (carried_at l.market (map g.N.Exact.value l.flows))) l.yielded l.worst
