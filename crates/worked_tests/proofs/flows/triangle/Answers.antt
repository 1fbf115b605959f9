use Rattle.std.proofs.Common.{rules}
use Rattle.worked_tests.proofs.WorkedFlows.{triangle_is, triangle_joined}
use Rattle.worked_tests.proofs.flows.triangle.Goals as goal

pub exact_flows-requires-clause-network : goal.exact_flows-requires-clause-network
exact_flows-requires-clause-network c = search (rules, triangle_is)

pub exact_flows-requires-clause-connected : goal.exact_flows-requires-clause-connected
exact_flows-requires-clause-connected c = search (rules, triangle_joined)
