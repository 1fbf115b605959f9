use Rattle.std.proofs.Common.{◌≡◌, map, take}
use Rattle.dc_network.specs.DcNetworks.{dc_branch}
use Rattle.exact_flows.specs.Lines.{line_branch}
use Rattle.factor_maker.proofs.lines.lines_of.Given as goal

abbrev pub invariant-loop-branch : goal.invariant-loop-branch
invariant-loop-branch g l = map (line_branch g.N.Exact.value) l.lines ≡ map (dc_branch l.network l.reactances) (take l.branch-index l.branches)
