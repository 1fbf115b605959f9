use Rattle.factor_maker.proofs.ListSteps.{AreFirstDifferences}
use Rattle.factor_maker.proofs.exact_columns.differences.Given as goal

abbrev pub invariant-loop-place : goal.invariant-loop-place
invariant-loop-place g l = AreFirstDifferences g.N.Exact.value l.from_source l.from_sink l.place l.list
