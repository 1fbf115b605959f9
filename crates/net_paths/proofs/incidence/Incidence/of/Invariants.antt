use Rattle.std.proofs.Common.{take}
use Rattle.net_paths.specs.Searching.{IsIncidence}
use Rattle.net_paths.proofs.incidence.Incidence.of.Given as goal

abbrev pub invariant-loop-branch : goal.invariant-loop-branch
invariant-loop-branch l = IsIncidence (take l.branch-index l.branches) l.places l.incidence.lists.items
