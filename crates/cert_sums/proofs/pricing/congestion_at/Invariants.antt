use Rattle.std.proofs.Common.{◌≡◌}
use Rattle.fraction_theory.specs.Fraction.{Fraction}
use Rattle.market_model.specs.declared.answered.Duals.{Duals}
use Rattle.cert_sums.specs.Named.{AreNamed}
use Rattle.cert_sums.proofs.NamedLemmas.{congestion_to}
use Rattle.cert_sums.proofs.pricing.congestion_at.Given as goal

abbrev pub invariant-loop-entry : goal.invariant-loop-entry
invariant-loop-entry g l = (d : Duals Fraction) → AreNamed g.N.Exact.value l.market d l.named → g.N.Exact.value l.sum ≡ congestion_to l.market d l.bus l.entry-index
