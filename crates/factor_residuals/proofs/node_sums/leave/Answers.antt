use Rattle.std.proofs.Common.{◌≡◌, ap, ◌∙◌, slice_set, w64, to_z, of_z}
use mathlib.Core.Path.{ap₂}
use Rattle.std.proofs.lemmas.Int.{to_z-of_z}
use Rattle.std.proofs.lemmas.List.{get_or_default}
use Rattle.factor_residuals.specs.Columns.{left_by}
use Rattle.factor_residuals.specs.declared.node_sums.Node.{Node}
use Rattle.factor_residuals.proofs.node_sums.leave.Goals as goal

pub returns : goal.returns
returns c = λ d.
    let flow : to_z w64 (of_z w64 c.args.flow) ≡ c.args.flow = to_z-of_z w64 c.args.flow c.ranges.flow in
    ap (λ (node : Node). slice_set c.args.nodes.now.items c.args.place node) (c.left_by.ensures ∙ ap₂ left_by (c.index.ensures ∙ get_or_default c.args.nodes.now.items c.args.place c.index.result.now d c.requires.place) flow)
