use Rattle.exact_flows.specs.Building.{IsExchanged}
use Rattle.exact_flows.specs.Lines.{line_network}
use Rattle.exact_flows.proofs.solving.solved.Given as goal

abbrev pub invariant-loop-column : goal.invariant-loop-column
invariant-loop-column g l = IsExchanged (line_network g.N.Exact.value l.buses l.lines) l.reference l.column l.dict
