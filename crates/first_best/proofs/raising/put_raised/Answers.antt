use Rattle.std.proofs.Common.{◌≡◌, ◌<◌, ◌∙◌, ℕ, List, arith, ap, length, map, slice_index, sym}
use Rattle.fraction_theory.specs.Fraction.{Fraction}
use Rattle.linear_dict.specs.Dictionaries.{Dictionary, with_note}
use Rattle.linear_dict.specs.Notes.{Noted, noted}
use Rattle.simplex_core.proofs.MoveLemmas.{moving_end, moving_note, moving_sound, moving_start, moving_step}
use Rattle.first_best.specs.Raising.{raised_note}
use Rattle.first_best.proofs.RaiseLemmas.{raised_by_note}
use Rattle.first_best.proofs.raising.put_raised.Goals as goal

pub loop-rank-init : goal.loop-rank-init
loop-rank-init g c = moving_start c.args.dict.now c.requires.sound (raised_note c.args.dict.now c.args.name (map g.N.Exact.value c.args.values.now))

pub note_raised-note-requires-clause-live : goal.note_raised-note-requires-clause-live
note_raised-note-requires-clause-live g c = ap Dictionary.spent c.loop-rank.invariant.is ∙ c.requires.live

pub note_raised-note-requires-clause-sound : goal.note_raised-note-requires-clause-sound
note_raised-note-requires-clause-sound g c =
    moving_sound c.args.dict.now c.requires.sound (raised_note c.args.dict.now c.args.name (map g.N.Exact.value c.args.values.now)) c.loop-rank.rank c.loop-rank.dict c.loop-rank.invariant

pub note_raised-note-requires-clause-rank : goal.note_raised-note-requires-clause-rank
note_raised-note-requires-clause-rank g c =
    Prim.omega (arith, c.loop-rank-test.true, c.name_count-rank-end.ensures, ap (λ (x : Dictionary). length x.names) c.loop-rank.invariant.is)

pub note_raised-note-requires-clause-values : goal.note_raised-note-requires-clause-values
note_raised-note-requires-clause-values g c = c.requires.values ∙ sym (ap (λ (x : Dictionary). length x.basics) c.loop-rank.invariant.is)

pub loop-rank-preserved : goal.loop-rank-preserved
loop-rank-preserved g c =
    let value = g.N.Exact.value in
    let e : Dictionary = c.args.dict.now in
    let d : Dictionary = c.loop-rank.dict in
    let k : ℕ = c.loop-rank.rank in
    let w : ℕ = slice_index e.names k in
    let m = c.loop-rank.invariant in
    let values : List Fraction = map value c.args.values.now in
    let f : ℕ → Noted = raised_note e c.args.name values in
    let n : Noted = noted value c.note_raised-note.result in
    let hk : k < length e.names = Prim.omega (arith, c.loop-rank-test.true, c.name_count-rank-end.ensures) in
    let name : slice_index d.names k ≡ w = ap (λ (x : Dictionary). slice_index x.names k) m.is in
    moving_step e c.requires.sound f k d m hk n c.set_note_at.new.self
    (c.set_note_at.ensures ∙ ap (λ (i : ℕ). with_note d i n) name)
    (c.note_raised-note.ensures ∙ ap (raised_note d c.args.name values) name ∙ ap (λ (x : Dictionary). raised_note x c.args.name values w) m.is
    ∙ raised_by_note e m.notes c.args.name values w (moving_note e c.requires.sound f k d m hk))

pub returns : goal.returns
returns g c =
    moving_end c.args.dict.now c.requires.sound (raised_note c.args.dict.now c.args.name (map g.N.Exact.value c.args.values.now)) c.loop-rank.rank c.loop-rank.dict c.loop-rank.invariant
    (Prim.omega (arith, c.loop-rank-test.false, c.name_count-rank-end.ensures))
