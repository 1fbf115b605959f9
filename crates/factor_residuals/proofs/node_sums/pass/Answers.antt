use Rattle.std.proofs.Common.{◌<◌, ℕ, List, length, subst, length-set, get_or-set_other, ◌≡◌, ◌∙◌, ℤ, pos, [], ap, sym, refl, slice_set, get_or, w64, to_z, of_z, neg_ℤ}
use Rattle.std.proofs.lemmas.Int.{to_z-of_z}
use Rattle.market_data.specs.Scales.{most_lines}
use Rattle.factor_residuals.specs.Columns.{IsWithin, left_by}
use Rattle.factor_residuals.specs.declared.node_sums.Node.{Node}
use Rattle.factor_residuals.proofs.NodeLemmas.{passed, within-more, back-is}
use Rattle.factor_residuals.proofs.node_sums.pass.Goals as goal

pub leave-requires-2-clause-place : goal.leave-requires-2-clause-place
leave-requires-2-clause-place c =
    let none : Node = record { outflow = pos 0; branches = pos 0 } in
    subst (λ (n : ℕ). c.args.branch.now.to < n) (sym (ap length (c.leave.ensures none) ∙ length-set c.args.nodes.now.items c.args.branch.now.from _)) c.requires.branch.to

pub leave-requires-2-clause-within : goal.leave-requires-2-clause-within
leave-requires-2-clause-within c = λ d.
    subst (IsWithin most_lines) (sym (ap (λ (ns : List Node). get_or ns c.args.branch.now.to d) (c.leave.ensures d)
    ∙ get_or-set_other c.args.nodes.now.items c.args.branch.now.from c.args.branch.now.to _ d (λ e. c.requires.branch.ends (sym e)))) (c.requires.within c.args.branch.now.to d c.requires.branch.to)

pub returns-clause-within : goal.returns-clause-within
returns-clause-within c = λ k p d lt h.
    let flow : to_z w64 (of_z w64 c.args.flow) ≡ c.args.flow = to_z-of_z w64 c.args.flow c.ranges.flow in
    within-more (λ _. pos 0) [] _ c.args.nodes.now.items c.leave.new.nodes.items c.leave-2.new.nodes.items c.args.branch.now c.args.flow (neg_ℤ c.args.flow)
    c.requires.branch.from c.requires.branch.to c.requires.branch.ends refl
    (λ d. c.leave.ensures d ∙ ap (λ (z : ℤ). slice_set c.args.nodes.now.items c.args.branch.now.from (left_by (get_or c.args.nodes.now.items c.args.branch.now.from d) z)) flow)
    (λ d. c.leave-2.ensures d ∙ ap (λ (z : ℤ). slice_set c.leave.new.nodes.items c.args.branch.now.to (left_by (get_or c.leave.new.nodes.items c.args.branch.now.to d) z)) (back-is c.args.flow c.requires.flow))
    refl k p d c.requires.flow h

pub returns-clause-passed : goal.returns-clause-passed
returns-clause-passed c = λ flows before h is.
    let flow : to_z w64 (of_z w64 c.args.flow) ≡ c.args.flow = to_z-of_z w64 c.args.flow c.ranges.flow in
    passed flows before _ c.args.nodes.now.items c.leave.new.nodes.items c.leave-2.new.nodes.items c.args.branch.now c.args.flow (neg_ℤ c.args.flow)
    c.requires.branch.from c.requires.branch.to c.requires.branch.ends refl
    (λ d. c.leave.ensures d ∙ ap (λ (z : ℤ). slice_set c.args.nodes.now.items c.args.branch.now.from (left_by (get_or c.args.nodes.now.items c.args.branch.now.from d) z)) flow)
    (λ d. c.leave-2.ensures d ∙ ap (λ (z : ℤ). slice_set c.leave.new.nodes.items c.args.branch.now.to (left_by (get_or c.leave.new.nodes.items c.args.branch.now.to d) z)) (back-is c.args.flow c.requires.flow))
    h is
