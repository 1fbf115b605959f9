use Rattle.std.proofs.Common.{◌≡◌, ◌+◌, ◌*◌, length}
use Rattle.market_model.proofs.PickupLemmas.{ArePickups}
use Rattle.market_model.proofs.pickup_table.pickup_table.Given as goal

abbrev pub invariant-loop-outage : goal.invariant-loop-outage
invariant-loop-outage l = record { count : length l.table.items ≡ l.outage * length l.parts.lines; are : ArePickups l.parts l.table.items }

abbrev pub invariant-loop-line : goal.invariant-loop-line
invariant-loop-line l = record { count : length l.table.items ≡ l.outage * length l.parts.lines + l.line; are : ArePickups l.parts l.table.items }
