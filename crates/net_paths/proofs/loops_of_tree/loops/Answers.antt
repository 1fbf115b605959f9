use Rattle.std.proofs.Common.{◌≡◌, ◌∙◌, ◌+◌, ◌++◌, ◌∷◌, [], ℕ, List, sym, ap, subst, length, get_or, take, true, false, None}
use Rattle.std.proofs.lemmas.List.{take_more}
use Rattle.net_case.specs.declared.live_parts.NetBranch.{NetBranch}
use Rattle.net_paths.specs.declared.incidence.Incidence.{Incidence}
use Rattle.net_paths.specs.Searching.{IsIncidence}
use Rattle.net_paths.specs.Loops.{HoldsTree, kept, is_lost}
use Rattle.net_paths.proofs.LoopLemmas.{kept-lost, kept-other, tree-none}
use Rattle.net_paths.proofs.loops_of_tree.loops.Goals as goal
use Rattle.net_paths.proofs.loops_of_tree.loops.Goals.{then-not-is_lost+in_ok-take_branch, else-not-is_lost}

pub loop-branch-init : goal.loop-branch-init
loop-branch-init c =
    let n = length c.args.network.now.buses in
    let lists = c.in_ok-tree.tree.lists.items in
    subst (HoldsTree (kept c.args.lost []) n lists) (sym c.new-loops.ensures)
    (tree-none c.args.lost n lists (subst (λ (m : ℕ). IsIncidence [] m lists) c.bus_count.ensures c.in_ok-tree.ensures))

pub loop-branch-preserved : goal.loop-branch-preserved
loop-branch-preserved c =
    let n = length c.args.network.now.buses in
    let items = c.live_branches-branch-items.result.now in
    let i = c.loop-branch.branch-index in
    let K = kept c.args.lost (take i items) in
    let b : NetBranch = get_or items i (record { row = 0; from = 0; to = 0; base = None; post = None; shifted = false }) in
    let more = ap (kept c.args.lost) (take_more items i (record { row = 0; from = 0; to = 0; base = None; post = None; shifted = false }) c.loop-branch-test.true) in
    let tree = c.loop-branch.tree in
    let inv = c.loop-branch.invariant in
    elim c.if-not-is_lost.branch [
      | then-not-is_lost+in_ok-take_branch w ↦
          let other : is_lost c.args.lost b ≡ false = sym c.is_lost.ensures ∙ w.if-not-is_lost.true in
          let after = w.take_branch.new.tree in
          let sized = subst (λ (m : ℕ). HoldsTree K m tree.lists.items c.loop-branch.loops) (sym inv.tree_is.count) inv in
          let done = subst (λ (m : ℕ). HoldsTree (K ++ b ∷ []) m after.lists.items w.take_branch.new.loops) inv.tree_is.count (w.in_ok-take_branch.ensures K sized) in
          let all = subst (λ (bs : List NetBranch). HoldsTree bs n after.lists.items w.take_branch.new.loops) (sym (more ∙ kept-other c.args.lost (take i items) b other)) done in
          subst (λ (t : Incidence). HoldsTree (kept c.args.lost (take (i + 1) items)) n t.lists.items c.if-not-is_lost.loops) (sym w.tree-is)
          (subst (HoldsTree (kept c.args.lost (take (i + 1) items)) n after.lists.items) (sym w.loops-is) all)
      | else-not-is_lost w ↦
          let gone : is_lost c.args.lost b ≡ true = sym c.is_lost.ensures ∙ w.if-not-is_lost.false in
          let all = subst (λ (bs : List NetBranch). HoldsTree bs n tree.lists.items c.loop-branch.loops) (sym (more ∙ kept-lost c.args.lost (take i items) b gone)) inv in
          subst (λ (t : Incidence). HoldsTree (kept c.args.lost (take (i + 1) items)) n t.lists.items c.if-not-is_lost.loops) (sym w.tree-is)
          (subst (HoldsTree (kept c.args.lost (take (i + 1) items)) n tree.lists.items) (sym w.loops-is) all)
    ]
