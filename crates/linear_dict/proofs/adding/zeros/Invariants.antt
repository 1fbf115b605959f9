use Rattle.std.proofs.Common.{pos}
use Rattle.fraction_theory.specs.Fraction.{whole}
use Rattle.linear_dict.specs.Adding.{AreSums}
use Rattle.linear_dict.proofs.adding.zeros.Given as goal

abbrev pub invariant-loop : goal.invariant-loop
invariant-loop g l = AreSums g.N.Exact.value l.sums.items l.counter (λ _. whole (pos 0))
