use Rattle.std.proofs.Common.{◌≡◌, ℕ}
use Rattle.fraction_theory.specs.Fraction.{Fraction}
use Rattle.market_model.specs.declared.answered.Duals.{Duals}
use Rattle.market_model.specs.Dispatch.{unit_at}
use Rattle.cert_sums.specs.Named.{AreNamed}
use Rattle.cert_sums.proofs.OwnLemmas.{own_to}
use Rattle.cert_sums.proofs.own_pricing.own_price.Given as goal

abbrev pub invariant-loop-entry : goal.invariant-loop-entry
invariant-loop-entry g l =
    (d : Duals Fraction) (price : ℕ → Fraction) → AreNamed g.N.Exact.value l.market d l.named → g.N.Exact.value l.fn.at_bus ≡ price (unit_at l.market l.unit).bus
    → g.N.Exact.value l.sum ≡ own_to l.market d price l.unit l.entry-index
