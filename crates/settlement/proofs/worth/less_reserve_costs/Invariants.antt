use Rattle.std.proofs.Common.{◌≡◌}
use Rattle.fraction_theory.specs.Fraction.{◌+ℚ◌}
use Rattle.fraction_theory.specs.Sums.{total}
use Rattle.settlement.proofs.WorthLemmas.{costs_to}
use Rattle.settlement.proofs.worth.less_reserve_costs.Given as goal

abbrev pub invariant-loop-place : goal.invariant-loop-place
invariant-loop-place g l = g.N.Exact.value l.sum ≡ g.N.Exact.value l.fn.of_energy +ℚ total (costs_to g.N.Exact.value l.market l.reserve l.place)
