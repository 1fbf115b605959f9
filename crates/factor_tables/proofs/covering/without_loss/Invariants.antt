use Rattle.std.proofs.Common.{◌≡◌, drop}
use Rattle.std.specs.Prelude.{not}
use Rattle.std.specs.List.{find}
use Rattle.factor_tables.specs.Factors.{has_outage}
use Rattle.factor_tables.proofs.covering.without_loss.Given as goal

-- no outage before this one is without a record
abbrev pub invariant-loop-outage : goal.invariant-loop-outage
invariant-loop-outage l = find (λ outage. not (has_outage l.loss.entries outage)) l.outages ≡ find (λ outage. not (has_outage l.loss.entries outage)) (drop l.outage-index l.outages)
