use Rattle.std.proofs.Common.{◌≡◌, take}
use Rattle.std.specs.Prelude.{◌==◌, filter}
use Rattle.market_model.proofs.pickup_table.takers.Given as goal

abbrev pub invariant-loop-pickup : goal.invariant-loop-pickup
invariant-loop-pickup l = l.takers.items ≡ filter (λ p. p.outage == l.outage) (take l.pickup-index l.pickup-items)
