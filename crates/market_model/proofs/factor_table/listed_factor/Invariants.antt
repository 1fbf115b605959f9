use Rattle.std.proofs.Common.{◌≡◌, drop}
use Rattle.market_model.specs.Factors.{factor_in}
use Rattle.market_model.proofs.factor_table.listed_factor.Given as goal

abbrev pub invariant-loop-factor : goal.invariant-loop-factor
invariant-loop-factor l = factor_in (drop l.factor-index l.factors) l.line l.of ≡ factor_in l.factors l.line l.of
