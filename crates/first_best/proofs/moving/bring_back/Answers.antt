use Rattle.std.proofs.Common.{◌≡◌, ◌<◌, ◌∙◌, ℕ, List, arith, ap, length, map, slice_index, sym}
use Rattle.linear_dict.specs.Dictionaries.{Dictionary, note_of, with_note}
use Rattle.linear_dict.specs.Notes.{Noted, blank, noted}
use Rattle.simplex_core.proofs.MoveLemmas.{moving_end, moving_note, moving_step}
use Rattle.first_best.specs.Holding.{back_note, held_by}
use Rattle.first_best.proofs.HoldLemmas.{back_is, held-ranked, note_at, read_of}
use Rattle.first_best.proofs.moving.bring_back.Goals as goal

pub loop-rank-preserved : goal.loop-rank-preserved
loop-rank-preserved g c =
    let value = g.N.Exact.value in
    let e : Dictionary = c.args.dict.now in
    let d : Dictionary = c.loop-rank.dict in
    let k : ℕ = c.loop-rank.rank in
    let w : ℕ = slice_index e.names k in
    let m = c.loop-rank.invariant in
    let sound = c.requires.sound in
    let notes : List Noted = map (noted value) c.args.notes.now in
    let before : Dictionary = record e { notes = notes } in
    let held = held_by e.names c.args.held.now in
    let f : ℕ → Noted = back_note before held e in
    let n : Noted = noted value c.note_back-note.result in
    let hk : k < length e.names = Prim.omega (arith, c.loop-rank-test.true, c.name_count-rank-end.ensures) in
    let name : slice_index d.names k ≡ w = ap (λ (x : Dictionary). slice_index x.names k) m.is in
    let kept : noted value c.index-notes-rank.result ≡ note_of before w =
    read_of (noted value) c.args.notes.now k c.index-notes-rank.result blank (Prim.omega (arith, hk, c.requires.count)) c.index-notes-rank.is ∙ sym (note_at e sound notes k hk) in
    let note : noted value c.note_at.result ≡ note_of e w =
    c.note_at.ensures ∙ ap (note_of d) name ∙ ap (λ (x : Dictionary). note_of x w) m.is ∙ moving_note e sound f k d m hk in
    let hold : c.hold_at.result ≡ held w = c.hold_at.ensures ∙ sym (held-ranked e sound c.args.held.now k hk) in
    moving_step e sound f k d m hk n c.set_note_at.new.self
    (c.set_note_at.ensures ∙ ap (λ (i : ℕ). with_note d i n) name)
    (c.note_back-note.ensures ∙ back_is before e held w (noted value c.index-notes-rank.result) (noted value c.note_at.result) c.hold_at.result kept note hold)

pub returns : goal.returns
returns g c =
    let e : Dictionary = c.args.dict.now in
    let f : ℕ → Noted = back_note (record e { notes = map (noted g.N.Exact.value) c.args.notes.now }) (held_by e.names c.args.held.now) e in
    moving_end e c.requires.sound f c.loop-rank.rank c.loop-rank.dict c.loop-rank.invariant (Prim.omega (arith, c.loop-rank-test.false, c.name_count-rank-end.ensures))
