use Rattle.std.proofs.Common.{◌≡◌, map, take}
use Rattle.fraction_theory.specs.Sums.{sum_by}
use Rattle.exact_flows.specs.FlowSystems.{bus_term}
use Rattle.exact_flows.specs.Lines.{line_branch}
use Rattle.exact_flows.proofs.coefficients.bus_coefficient.Given as goal

abbrev pub invariant-loop-k : goal.invariant-loop-k
invariant-loop-k g l = g.N.Exact.value l.sum ≡ sum_by (bus_term l.bus l.other) (take l.k (map (line_branch g.N.Exact.value) l.lines))
