use Rattle.std.proofs.Common.{take, length}
use Rattle.net_paths.specs.Loops.{HoldsTree, kept}
use Rattle.net_paths.proofs.loops_of_tree.loops.Given as goal

abbrev pub invariant-loop-branch : goal.invariant-loop-branch
invariant-loop-branch l = HoldsTree (kept l.lost (take l.branch-index l.branch-items)) (length l.network.buses) l.tree.lists.items l.loops
