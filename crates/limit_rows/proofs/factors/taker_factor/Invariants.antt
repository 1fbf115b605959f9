use Rattle.std.proofs.Common.{◌≡◌, take}
use Rattle.std.specs.Prelude.{◌==◌, filter, map}
use Rattle.fraction_theory.specs.Sums.{total}
use Rattle.market_model.specs.LimitRows.{taker_term}
use Rattle.limit_rows.proofs.factors.taker_factor.Given as goal

abbrev pub invariant-loop-pickup : goal.invariant-loop-pickup
invariant-loop-pickup g l = g.N.Exact.value l.sum ≡ total (map (taker_term l.market l.line) (filter (λ p. p.outage == l.outage) (take l.pickup-index l.pickup-items)))
