use Rattle.std.proofs.Common.{◌≡◌, ◌∙◌, ◌+◌, ◌++◌, ◌∷◌, [], ◌<◌, ℕ, List, sym, ap, subst, length, get_or, take, true, false, None, w64, arith}
use Rattle.std.proofs.lemmas.Int.{to_z-of_z}
use Rattle.std.proofs.lemmas.List.{take_more}
use Rattle.net_case.specs.declared.live_parts.NetBranch.{NetBranch}
use Rattle.net_paths.specs.Loops.{kept, is_lost}
use Rattle.net_paths.proofs.LoopLemmas.{kept-lost, kept-other}
use Rattle.factor_residuals.specs.Columns.{HoldNodes, flows_of}
use Rattle.factor_residuals.specs.declared.node_sums.Node.{Node}
use Rattle.factor_residuals.proofs.NodeLemmas.{within-wider}
use Rattle.factor_residuals.proofs.node_sums.nodes_of.Goals as goal
use Rattle.factor_residuals.proofs.node_sums.nodes_of.Goals.{then-not-is_lost, else-not-is_lost}

pub loop-branch-preserved : goal.loop-branch-preserved
loop-branch-preserved g c =
    let n = length c.args.network.now.buses in
    let items = c.slice-branch-items.result.now in
    let all : items ≡ c.args.network.now.branches = c.slice-branch-items.ensures ∙ c.branches.ensures.list in
    let i = c.loop-branch.branch-index in
    let d : NetBranch = record { row = 0; from = 0; to = 0; base = None; post = None; shifted = false } in
    let b : NetBranch = get_or items i d in
    let flows = flows_of c.args.factors.now c.args.column.now.name in
    let lost = c.args.column.now.lost in
    let K = kept lost (take i items) in
    let more = ap (kept lost) (take_more items i d c.loop-branch-test.true) in
    let inv = subst (λ (bs : List NetBranch). HoldNodes flows (kept lost (take i bs)) n c.loop-branch.nodes.items) (sym all) c.loop-branch.invariant.1 in
    elim c.if-not-is_lost.branch [
      | then-not-is_lost w ↦
          let other : is_lost lost b ≡ false = sym c.is_lost.ensures ∙ w.if-not-is_lost.true in
          let now = c.loop-branch.nodes.items in
          let after = w.pass.new.nodes.items in
          let before = subst (λ (m : ℕ). HoldNodes flows K m now) (sym inv.count) inv in
          let flow = to_z-of_z w64 w.factor-flow.result (record { sfits = w.factor-flow.type_inv }) ∙ w.factor-flow.ensures.is in
          let passed = subst (λ (m : ℕ). HoldNodes flows (K ++ b ∷ []) m after) inv.count (w.pass.ensures.passed flows K before flow) in
          let all_passed = subst (λ (bs : List NetBranch). HoldNodes flows bs n after) (sym (more ∙ kept-other lost (take i items) b other)) passed in
          let held = subst (λ (bs : List NetBranch). HoldNodes flows (kept lost (take (i + 1) bs)) n after) all all_passed in
          let within = λ (p : ℕ) (d' : Node) (lt : p < n). w.pass.ensures.within i p d' (subst (λ (m : ℕ). p < m) (sym inv.count) lt) (c.loop-branch.invariant.0 p d' lt) in
          rw w.nodes-is (within, held)
      | else-not-is_lost w ↦
          let gone : is_lost lost b ≡ true = sym c.is_lost.ensures ∙ w.if-not-is_lost.false in
          let now = c.loop-branch.nodes.items in
          let all_passed = subst (λ (bs : List NetBranch). HoldNodes flows bs n now) (sym (more ∙ kept-lost lost (take i items) b gone)) inv in
          let held = subst (λ (bs : List NetBranch). HoldNodes flows (kept lost (take (i + 1) bs)) n now) all all_passed in
          let within = λ (p : ℕ) (d' : Node) (lt : p < n). within-wider i (i + 1) (get_or now p d') (omega arith) (c.loop-branch.invariant.0 p d' lt) in
          rw w.nodes-is (within, held)
    ]
