use Rattle.std.proofs.Common.{◌≢◌, ◌∙◌, ℕ, ◌<◌, ap, subst, length, get_or, List, arith}
use Rattle.net_case.specs.declared.live_parts.NetBranch.{NetBranch}
use Rattle.net_paths.proofs.detours.branch_of.Goals as goal

pub unreachable-requires : goal.unreachable-requires
unreachable-requires c =
    let live = c.requires.1.live in
    let none = subst (λ (bs : List NetBranch). (k : ℕ) (d : NetBranch) → k < length bs → (get_or bs k d).row ≢ c.args.row) c.live_branches-branch-items.ensures.list
    (λ k d lt. c.loop-branch.invariant k d (omega (arith, lt, c.loop-branch-test.false))) in
    none live.0 c.requires.0 live.1 (ap (λ (b : NetBranch). b.row) live.2 ∙ c.requires.1.row_is)
