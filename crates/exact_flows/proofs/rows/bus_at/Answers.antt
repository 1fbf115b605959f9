use Rattle.std.proofs.Common.{sym}
use Rattle.exact_flows.proofs.Places.{bus_before, bus_after}
use Rattle.exact_flows.proofs.rows.bus_at.Goals as goal

pub returns-then-column-reference : goal.returns-then-column-reference
returns-then-column-reference c = sym (bus_before c.args.reference c.args.column c.if-column-reference.true)

pub returns-else-column-reference : goal.returns-else-column-reference
returns-else-column-reference c = sym (bus_after c.args.reference c.args.column c.if-column-reference.false)
