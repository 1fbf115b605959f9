use Rattle.std.proofs.Common.{◌≡◌, ◌++◌, drop}
use Rattle.std.specs.List.{enumerate_from, flat_map}
use Rattle.factor_tables.specs.Factors.{factor_at}
use Rattle.market_inputs.specs.Clearing.{AreSmall, factors_of_line, unless_0}
use Rattle.market_inputs.proofs.limits.push_factors.Given as goal

abbrev pub invariant-loop-of : goal.invariant-loop-of
invariant-loop-of g l = record {
  small : AreSmall l.factors;
  are : l.factors ++ flat_map (λ other. unless_0 (record { line = l.line; of = other.0; value = factor_at l.table.entries (l.row, g.T.Named.name other.1) })) (enumerate_from l.of (drop l.of l.others))
      ≡ l.initial.factors ++ factors_of_line (λ other. factor_at l.table.entries (l.row, g.T.Named.name other)) l.line l.others;
}
