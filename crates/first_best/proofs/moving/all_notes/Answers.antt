use Rattle.std.proofs.Common.{◌≡◌, ◌∙◌, ◌<◌, ◌+◌, List, arith, length, map, take, subst, sym}
use Rattle.linear_dict.specs.Notes.{Noted, blank, noted}
use Rattle.first_best.proofs.HoldLemmas.{grown, note_at}
use Rattle.first_best.proofs.moving.all_notes.Goals as goal
use Rattle.linear_dict.specs.declared.note.Note.{Note}

pub loop-rank-preserved : goal.loop-rank-preserved
loop-rank-preserved g c =
    let d = c.args.dict.now in
    let k = c.loop-rank.rank in
    let value = g.N.Exact.value in
    let l : k < length d.names = Prim.omega (arith, c.loop-rank-test.true, c.name_count-rank-end.ensures) in
    subst (λ (xs : List (Note g.row.N.Denot)). map (noted value) xs ≡ take (k + 1) d.notes) (sym c.in-Ok.ensures.items)
    (grown (noted value) c.loop-rank.notes.items c.note_at.result d.notes k blank (Prim.omega (arith, l, c.requires.sound.note_count)) c.loop-rank.invariant
    (c.note_at.ensures ∙ note_at d c.requires.sound d.notes k l))
