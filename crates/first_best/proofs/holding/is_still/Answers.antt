use Rattle.std.proofs.Common.{rules, ◌∙◌, ap, sym, slice_index}
use Rattle.linear_dict.specs.Notes.{Noted}
use Rattle.first_best.specs.Holding.{held_by}
use Rattle.first_best.proofs.HoldLemmas.{held-ranked, still_equal, still_held}
use Rattle.first_best.proofs.holding.is_still.Goals as goal

pub returns-then-is_some : goal.returns-then-is_some
returns-then-is_some g c = λ _.
    let d = c.args.dict.now in
    still_held d (held_by d.names c.args.held.now) (slice_index d.names c.args.rank) c.hold_at.result
    (c.hold_at.ensures ∙ sym (held-ranked d c.requires.sound c.args.held.now c.args.rank c.requires.within)) (Prim.search rules)

pub returns-in-Equal : goal.returns-in-Equal
returns-in-Equal g c = λ _.
    let d = c.args.dict.now in
    still_equal d (held_by d.names c.args.held.now) (slice_index d.names c.args.rank)
    (sym (ap Noted.low c.note_at-note.ensures) ∙ c.in-Equal.ensures ∙ ap Noted.high c.note_at-note.ensures)
