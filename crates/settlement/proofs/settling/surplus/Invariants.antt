use Rattle.std.proofs.Common.{◌≡◌, take}
use Rattle.fraction_theory.specs.Fraction.{◌+ℚ◌, neg_ℚ}
use Rattle.fraction_theory.specs.Sums.{sum_by}
use Rattle.settlement.proofs.settling.surplus.Given as goal

abbrev pub invariant-loop-load : goal.invariant-loop-load
invariant-loop-load g l = g.N.Exact.value l.surplus ≡ sum_by (λ load. g.N.Exact.value load.pays) (take l.load-index l.loads)

abbrev pub invariant-loop-unit : goal.invariant-loop-unit
invariant-loop-unit g l =
    g.N.Exact.value l.surplus ≡ sum_by (λ load. g.N.Exact.value load.pays) l.loads +ℚ sum_by (λ unit. neg_ℚ (g.N.Exact.value unit.paid)) (take l.unit-index l.units)
