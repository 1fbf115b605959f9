use Rattle.simplex_core.proofs.RatioLemmas.{IsBestSoFar}
use Rattle.simplex_core.proofs.enter.find_entering.Given as goal

abbrev pub invariant-loop-rank : goal.invariant-loop-rank
invariant-loop-rank g l = IsBestSoFar g.N.Exact.value l.dict l.fn.leaving.name l.fn.leaving.above l.rank l.best
