use Rattle.std.proofs.Common.{◌≡◌, take}
use Rattle.net_paths.specs.Detours.{others}
use Rattle.net_paths.proofs.detours.other_branches.Given as goal

abbrev pub invariant-loop-branch : goal.invariant-loop-branch
invariant-loop-branch l = l.kept ≡ others l.row (take l.branch-index l.branches)
