use Rattle.std.proofs.Common.{◌≡◌, take}
use Rattle.net_paths.specs.Loops.{kept}
use Rattle.factor_maker.proofs.lines.kept_branches.Given as goal

abbrev pub invariant-loop-branch : goal.invariant-loop-branch
invariant-loop-branch l = l.list ≡ kept l.lost (take l.branch-index l.network.branches)
