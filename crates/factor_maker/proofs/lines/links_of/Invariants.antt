use Rattle.std.proofs.Common.{◌≡◌, map, take}
use Rattle.factor_maker.specs.Columns.{link_of}
use Rattle.factor_maker.proofs.lines.links_of.Given as goal

abbrev pub invariant-loop-branch : goal.invariant-loop-branch
invariant-loop-branch l = l.links ≡ map (link_of l.network l.reactances) (take l.branch-index l.branches)
