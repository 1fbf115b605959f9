use Rattle.exact_flows.specs.Lines.{line_network}
use Rattle.exact_flows.proofs.Reading.{AreRead}
use Rattle.exact_flows.proofs.flows.exact_flows.Given as goal

abbrev pub invariant-loop-place : goal.invariant-loop-place
invariant-loop-place g l = AreRead g.N.Exact.value (line_network g.N.Exact.value l.buses l.lines) l.reference l.place l.flows
