use Rattle.std.proofs.Common.{rules, ◌≡◌, ◌∙◌, ℕ, ap, slice_index}
use Rattle.linear_dict.specs.Dictionaries.{Dictionary, note_of}
use Rattle.linear_dict.specs.Notes.{noted}
use Rattle.first_best.proofs.RaiseLemmas.{raised_is, raised_within}
use Rattle.first_best.proofs.raising.value_raised.Goals as goal

pub returns-then-is_within-clause-value : goal.returns-then-is_within-clause-value
returns-then-is_within-clause-value g c =
    let value = g.N.Exact.value in
    let d : Dictionary = c.args.dict.now in
    let b : ℕ = slice_index d.basics c.args.row in
    let note : noted value c.note-note.result ≡ note_of d b = c.note-note.ensures ∙ ap (note_of d) c.basics.ensures in
    raised_is d b (slice_index d.others c.args.column) (value c.args.by) (value c.entry.result) (value c.in-Ok.value) (noted value c.note-note.result) note c.entry.ensures.entry c.in-Ok.ensures.exact

pub returns-then-is_within-clause-within : goal.returns-then-is_within-clause-within
returns-then-is_within-clause-within g c =
    let value = g.N.Exact.value in
    let d : Dictionary = c.args.dict.now in
    let b : ℕ = slice_index d.basics c.args.row in
    let note : noted value c.note-note.result ≡ note_of d b = c.note-note.ensures ∙ ap (note_of d) c.basics.ensures in
    raised_within d b (slice_index d.others c.args.column) (value c.args.by) (value c.entry.result) (value c.in-Ok.value) (noted value c.note-note.result) note c.entry.ensures.entry c.in-Ok.ensures.exact
    (c.if-is_within.ensures.low (Prim.search rules)) (c.if-is_within.ensures.high (Prim.search rules))
