use Rattle.std.proofs.Common.{◌+◌, ℕ, List, length, take, sym, subst}
use Rattle.std.proofs.lemmas.List.{take_more}
use Rattle.net_case.specs.declared.live_parts.NetBranch.{NetBranch}
use Rattle.net_paths.specs.Searching.{IsIncidence}
use Rattle.net_paths.proofs.incidence.Incidence.of.Goals as goal

pub loop-branch-preserved : goal.loop-branch-preserved
loop-branch-preserved c =
    let branches = c.args.branches.now in
    let i = c.loop-branch.branch-index in
    let lists = c.loop-branch.incidence.lists.items in
    let after = c.add.new.self.lists.items in
    let inc = c.loop-branch.invariant in
    let kept : IsIncidence (take i branches) (length lists) lists = subst (λ (m : ℕ). IsIncidence (take i branches) m lists) (sym inc.count) inc in
    subst (λ (m : ℕ). IsIncidence (take (i + 1) branches) m after) inc.count
    (subst (λ (bs : List NetBranch). IsIncidence bs (length lists) after) (sym (take_more branches i _ c.loop-branch-test.true)) (c.in_ok-add.ensures (take i branches) kept))
