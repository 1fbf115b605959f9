use Rattle.simplex_core.specs.Turns.{moved_note}
use Rattle.simplex_core.proofs.MoveLemmas.{IsMoving}
use Rattle.simplex_core.proofs.exchange.move_notes.Given as goal

abbrev pub invariant-loop-rank : goal.invariant-loop-rank
invariant-loop-rank g l =
    IsMoving l.fn.dict
    (moved_note l.fn.dict l.fn.step.leaving l.fn.step.entering l.fn.step.above (g.N.Exact.value l.fn.step.bound) (g.N.Exact.value l.fn.step.displacement) (g.N.Exact.value l.fn.step.price))
    l.rank l.dict
