use Rattle.std.proofs.Common.{length, subst}
use Rattle.exact_flows.specs.Building.{IsAmongBranches}
use Rattle.exact_flows.proofs.Terms.{flow_number}
use Rattle.exact_flows.proofs.coefficients.row_coefficient.Goals as goal

pub returns-in-Flow-clause-number : goal.returns-in-Flow-clause-number
returns-in-Flow-clause-number g c =
    flow_number g.N.Exact.value c.args.lines.now c.args.row c.in-Flow.branch c.args.other c.index-lines-branch.result (g.N.Exact.value c.at_end.result) c.in-Flow.is
    (subst (IsAmongBranches (length c.args.lines.now)) c.in-Flow.is c.requires) c.index-lines-branch.is c.at_end.ensures
