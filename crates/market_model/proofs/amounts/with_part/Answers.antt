use Rattle.std.proofs.Common.{sym}
use Rattle.fraction_theory.proofs.FieldLaws.{+ℚ_nil}
use Rattle.market_model.proofs.amounts.with_part.Goals as goal

pub returns-else-counts-clause-sum : goal.returns-else-counts-clause-sum
returns-else-counts-clause-sum g c = rw c.if-counts.false (sym (+ℚ_nil (g.N.Exact.value c.args.sum)))
