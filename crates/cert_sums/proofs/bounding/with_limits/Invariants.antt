use Rattle.std.proofs.Common.{◌≡◌, map}
use Rattle.fraction_theory.specs.Fraction.{Fraction, ◌*ℚ◌}
use Rattle.market_model.specs.declared.answered.Duals.{Duals}
use Rattle.market_model.specs.Dispatch.{balance, empty}
use Rattle.cert_sums.specs.Named.{AreNamed}
use Rattle.market_model.specs.PutIn.{AreCarried}
use Rattle.cert_sums.proofs.BoundLemmas.{limits_to}
use Rattle.cert_sums.proofs.bounding.with_limits.Given as goal

abbrev pub invariant-loop-entry : goal.invariant-loop-entry
invariant-loop-entry g l =
    (d : Duals Fraction) → AreNamed g.N.Exact.value l.market d l.named → AreCarried l.market (empty l.market) (map g.N.Exact.value l.carried)
    → g.N.Exact.value l.fn.of_energy ≡ d.energy *ℚ balance l.market (empty l.market) → g.N.Exact.value l.sum ≡ limits_to l.market d l.entry-index
