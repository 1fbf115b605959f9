use Rattle.std.proofs.Common.{sym}
use Rattle.exact_flows.proofs.Places.{place_before, place_after}
use Rattle.exact_flows.proofs.rows.column_of.Goals as goal

pub returns-then-bus-reference : goal.returns-then-bus-reference
returns-then-bus-reference c = sym (place_before c.args.reference c.args.bus c.if-bus-reference.true)

pub returns-else-bus-reference : goal.returns-else-bus-reference
returns-else-bus-reference c = sym (place_after c.args.reference c.args.bus c.if-bus-reference.false)
