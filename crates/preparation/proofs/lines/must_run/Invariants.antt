use Rattle.preparation.proofs.MustRunLemmas.{SumSoFar}
use Rattle.preparation.proofs.lines.must_run.Given as goal

abbrev pub invariant-loop-unit : goal.invariant-loop-unit
invariant-loop-unit l = SumSoFar l.units l.unit-index l.sum
