use Rattle.std.proofs.Common.{◌≡◌, ℕ, length, map}
use Rattle.fraction_theory.specs.Fraction.{Fraction, ◌*ℚ◌}
use Rattle.linear_dict.specs.Adding.{AreSums}
use Rattle.linear_dict.specs.Tables.{cell}
use Rattle.linear_dict.proofs.AddingLemmas.{added_to}
use Rattle.linear_dict.proofs.adding.add_multiple.Given as goal

abbrev pub invariant-loop-c : goal.invariant-loop-c
invariant-loop-c g l =
    (length l.sums.items ≡ l.columns)
    × ((f : ℕ → Fraction) → AreSums g.N.Exact.value l.fn.sums.items l.columns f
    → AreSums g.N.Exact.value l.sums.items l.columns (added_to f (λ c. g.N.Exact.value l.factor *ℚ cell l.columns (map g.N.Exact.value l.table) l.row c) l.c))
