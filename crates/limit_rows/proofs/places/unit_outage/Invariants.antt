use Rattle.std.proofs.Common.{◌≡◌, ℕ, ◌<◌}
use Rattle.market_model.specs.Dispatch.{unit_at}
use Rattle.market_model.specs.LimitRows.{lost_unit}
use Rattle.limit_rows.proofs.places.unit_outage.Given as goal

abbrev pub invariant-loop-outage : goal.invariant-loop-outage
invariant-loop-outage l = (k : ℕ) → k < l.outage → (unit_at l.market (lost_unit l.market k)).row ≡ l.row → ⊥
