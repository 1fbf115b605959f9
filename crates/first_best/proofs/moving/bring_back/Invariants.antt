use Rattle.std.proofs.Common.{map}
use Rattle.linear_dict.specs.Notes.{noted}
use Rattle.simplex_core.proofs.MoveLemmas.{IsMoving}
use Rattle.first_best.specs.Holding.{back_note, held_by}
use Rattle.first_best.proofs.moving.bring_back.Given as goal

abbrev pub invariant-loop-rank : goal.invariant-loop-rank
invariant-loop-rank g l =
    IsMoving l.fn.dict (back_note (record l.fn.dict { notes = map (noted g.N.Exact.value) l.notes }) (held_by l.fn.dict.names l.held) l.fn.dict) l.rank l.dict
