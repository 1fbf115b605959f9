use Rattle.std.proofs.Common.{◌≡◌, map, take}
use Rattle.linear_dict.specs.Notes.{noted}
use Rattle.first_best.proofs.moving.all_notes.Given as goal

abbrev pub invariant-loop-rank : goal.invariant-loop-rank
invariant-loop-rank g l = map (noted g.N.Exact.value) l.notes.items ≡ take l.rank l.dict.notes
