use Rattle.std.proofs.Common.{◌∙◌, ap, sym}
use Rattle.exact_flows.specs.declared.rows.Row.TheVariants.{Injection}
use Rattle.exact_flows.proofs.Places.{row_before, row_after}
use Rattle.exact_flows.proofs.rows.row_at_place.Goals as goal

pub returns-then-place-branches : goal.returns-then-place-branches
returns-then-place-branches c = sym (row_before c.args.branches c.args.reference c.args.place c.if-place-branches.true)

pub returns-else-place-branches : goal.returns-else-place-branches
returns-else-place-branches c = ap Injection c.bus_at.ensures ∙ sym (row_after c.args.branches c.args.reference c.args.place c.if-place-branches.false)
