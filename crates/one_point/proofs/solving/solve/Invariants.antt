use Rattle.one_point.specs.Known.{IsSolvedBefore}
use Rattle.one_point.proofs.solving.solve.Given as goal

abbrev pub invariant-loop-row : goal.invariant-loop-row
invariant-loop-row g l = IsSolvedBefore l.fn.dict l.fn.known l.row l.dict l.known
