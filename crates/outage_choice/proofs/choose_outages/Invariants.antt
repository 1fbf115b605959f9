use Rattle.std.proofs.Common.{map, take}
use Rattle.net_case.specs.declared.live_parts.NetBranch.{NetBranch}
use Rattle.outage_choice.proofs.ChoiceLemmas.{AreParted}
use Rattle.outage_choice.proofs.choose_outages.Given as goal

abbrev pub invariant-loop-branch : goal.invariant-loop-branch
invariant-loop-branch l = AreParted l.network (take l.branch-index (map (λ (b : NetBranch). b.row) l.network.branches)) l.listed l.radial
