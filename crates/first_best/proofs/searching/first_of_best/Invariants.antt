use Rattle.std.proofs.Common.{take}
use Rattle.first_best.specs.Holding.{held_by}
use Rattle.first_best.specs.Outcomes.{HasSystem, IsFace}
use Rattle.first_best.proofs.searching.first_of_best.Given as goal

abbrev pub invariant-loop-place : goal.invariant-loop-place
invariant-loop-place g l =
    HasSystem l.fn.dict l.face.dict × IsFace l.face.dict (take l.place l.order) (held_by l.face.dict.names l.face.held.items)
