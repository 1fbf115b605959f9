use Rattle.std.proofs.Common.{◌<◌, ℕ, length, get_or, take}
use Rattle.net_paths.specs.Loops.{kept}
use Rattle.factor_residuals.specs.declared.node_sums.Node.{Node}
use Rattle.factor_residuals.specs.Columns.{HoldNodes, IsWithin, flows_of}
use Rattle.factor_residuals.proofs.node_sums.nodes_of.Given as goal

abbrev pub invariant-loop-branch : goal.invariant-loop-branch
invariant-loop-branch g l = ((p : ℕ) (d : Node) → p < length l.network.buses → IsWithin l.branch-index (get_or l.nodes.items p d))
    × HoldNodes (flows_of l.factors l.column.name) (kept l.column.lost (take l.branch-index l.network.branches)) (length l.network.buses) l.nodes.items
