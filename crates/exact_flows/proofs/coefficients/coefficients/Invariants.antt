use Rattle.std.proofs.Common.{map}
use Rattle.linear_dict.specs.Adding.{AreSums}
use Rattle.exact_flows.specs.Building.{bus_of}
use Rattle.exact_flows.specs.FlowSystems.{coefficient}
use Rattle.exact_flows.specs.Lines.{line_branch}
use Rattle.exact_flows.proofs.coefficients.coefficients.Given as goal

abbrev pub invariant-loop-column : goal.invariant-loop-column
invariant-loop-column g l = AreSums g.N.Exact.value l.numbers l.column (λ c. coefficient (map (line_branch g.N.Exact.value) l.lines) l.row (bus_of l.reference c))
