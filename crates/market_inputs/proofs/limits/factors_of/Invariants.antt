use Rattle.std.proofs.Common.{◌≡◌, ◌++◌, drop}
use Rattle.std.specs.List.{enumerate_from, flat_map}
use Rattle.factor_tables.specs.Factors.{factor_at}
use Rattle.market_inputs.specs.Clearing.{AreSmall, factors_of_line, named_factors}
use Rattle.market_inputs.proofs.limits.factors_of.Given as goal

abbrev pub invariant-loop-line : goal.invariant-loop-line
invariant-loop-line g l = record {
  small : AreSmall l.factors;
  are : l.factors ++ flat_map (λ line. factors_of_line (λ other. factor_at l.table.entries (line.1.row, g.T.Named.name other)) line.0 l.others) (enumerate_from l.line (drop l.line l.branches))
      ≡ named_factors g.T.Named.name l.table.entries l.branches l.others;
}
