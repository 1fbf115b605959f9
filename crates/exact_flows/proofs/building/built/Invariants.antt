use Rattle.exact_flows.specs.Building.{IsBuilt}
use Rattle.exact_flows.specs.Lines.{line_network}
use Rattle.exact_flows.proofs.building.built.Given as goal

abbrev pub invariant-loop-place : goal.invariant-loop-place
invariant-loop-place g l = IsBuilt (line_network g.N.Exact.value l.buses l.lines) l.reference l.place l.dict
