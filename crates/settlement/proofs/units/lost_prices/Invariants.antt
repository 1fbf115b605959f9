use Rattle.std.proofs.Common.{◌≡◌, ℕ, length, map}
use Rattle.fraction_theory.specs.Fraction.{Fraction}
use Rattle.market_model.specs.Dispatch.{places}
use Rattle.market_model.specs.LimitRows.{lost_unit}
use Rattle.settlement.proofs.units.lost_prices.Given as goal

abbrev pub invariant-loop-outage : goal.invariant-loop-outage
invariant-loop-outage g l =
    (price : ℕ → Fraction) → map g.N.Exact.value l.own ≡ map price (places (length l.market.units))
    → map g.N.Exact.value l.lost ≡ map (λ k. price (lost_unit l.market k)) (places l.outage)
