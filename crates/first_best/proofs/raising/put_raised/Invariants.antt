use Rattle.std.proofs.Common.{map}
use Rattle.simplex_core.proofs.MoveLemmas.{IsMoving}
use Rattle.first_best.specs.Raising.{raised_note}
use Rattle.first_best.proofs.raising.put_raised.Given as goal

abbrev pub invariant-loop-rank : goal.invariant-loop-rank
invariant-loop-rank g l = IsMoving l.fn.dict (raised_note l.fn.dict l.name (map g.N.Exact.value l.values)) l.rank l.dict
