use Rattle.std.proofs.Common.{◌≡◌, ◌<◌, ◌∙◌, ℕ, arith, ap, sym, subst, length, slice_index, inl, inr}
use Rattle.std.specs.List.{Contains}
use Rattle.fraction_theory.specs.Signs.{sign_of}
use Rattle.linear_dict.specs.Dictionaries.{Dictionary, note_of, with_note}
use Rattle.linear_dict.specs.Notes.{Noted, noted}
use Rattle.linear_dict.proofs.SplitLemmas.{Contains-at}
use Rattle.simplex_core.specs.Posings.{asked_note, asks_high}
use Rattle.simplex_core.proofs.Adding.{asked_note-basic, asked_note-other}
use Rattle.simplex_core.proofs.AnewLaws.{put_anew}
use Rattle.simplex_core.proofs.PutLemmas.{putting_start, putting_note, putting_named, putting_step, putting_end}
use Rattle.simplex_core.proofs.StandLemmas.{asks_not, asked_is}
use Rattle.simplex_core.proofs.posing.put_others.Goals as goal
use Rattle.simplex_core.proofs.posing.put_others.Goals.{in-Above, in_default}

pub loop-column-init : goal.loop-column-init
loop-column-init g c =
    let d : Dictionary = c.args.dict.now in
    let s = c.requires.sound in
    putting_start d s d.others (λ k. asked_note d (slice_index d.others k)) s.split.second_distinct s.split.second_named

pub note-note-requires-clause-named : goal.note-note-requires-clause-named
note-note-requires-clause-named g c =
    let d : Dictionary = c.args.dict.now in
    let s = c.requires.sound in
    let k : ℕ = c.loop-column.column in
    let e : Dictionary = c.loop-column.dict in
    let m = c.loop-column.invariant in
    let hk : k < length d.others = Prim.omega (arith, c.loop-column-test.true, c.column_count-column-end.ensures) in
    let name : c.others-name.result ≡ slice_index d.others k = c.others-name.ensures ∙ ap (λ (x : Dictionary). slice_index x.others k) m.is in
    subst (Contains e.names) (sym name) (putting_named d s d.others (λ i. asked_note d (slice_index d.others i)) s.split.second_distinct s.split.second_named k e m hk)

pub set_note-requires-clause-named : goal.set_note-requires-clause-named
set_note-requires-clause-named g c =
    let d : Dictionary = c.args.dict.now in
    let s = c.requires.sound in
    let k : ℕ = c.loop-column.column in
    let e : Dictionary = c.loop-column.dict in
    let m = c.loop-column.invariant in
    let hk : k < length d.others = Prim.omega (arith, c.loop-column-test.true, c.column_count-column-end.ensures) in
    let name : c.others-name.result ≡ slice_index d.others k = c.others-name.ensures ∙ ap (λ (x : Dictionary). slice_index x.others k) m.is in
    subst (Contains e.names) (sym name) (putting_named d s d.others (λ i. asked_note d (slice_index d.others i)) s.split.second_distinct s.split.second_named k e m hk)

pub loop-column-preserved : goal.loop-column-preserved
loop-column-preserved g c =
    let value = g.N.Exact.value in
    let d : Dictionary = c.args.dict.now in
    let e : Dictionary = c.loop-column.dict in
    let s = c.requires.sound in
    let k : ℕ = c.loop-column.column in
    let w : ℕ = slice_index d.others k in
    let f : ℕ → Noted = λ i. asked_note d (slice_index d.others i) in
    let m = c.loop-column.invariant in
    let hk : k < length d.others = Prim.omega (arith, c.loop-column-test.true, c.column_count-column-end.ensures) in
    let name : c.others-name.result ≡ w = c.others-name.ensures ∙ ap (λ (x : Dictionary). slice_index x.others k) m.is in
    let note : noted value c.note-note.result ≡ note_of d w = c.note-note.ensures ∙ ap (note_of e) name ∙ putting_note d s d.others f s.split.second_distinct s.split.second_named k e m hk in
    let r = c.note-note.result in
    let n : Noted = record { price = value r.price; low = value r.low; high = value r.high; value = value c.bound_on-value.result; reduced = value r.reduced; at_high = c.match-matches.matches } in
    let up : c.match-matches.matches ≡ asks_high (sign_of (value c.note-note.result.reduced)) = elim c.match-matches.branch [
      | in-Above w ↦ w.matches-is ∙ ap asks_high (sym w.in-Above.is ∙ c.sign.ensures)
      | in_default w ↦ w.matches-is ∙ asks_not c.sign.result w.in_default.not-Above ∙ ap asks_high c.sign.ensures
    ] in
    putting_step d s d.others f s.split.second_distinct s.split.second_named k e m n c.set_note.new.self hk
    (c.set_note.ensures ∙ ap (λ (x : ℕ). with_note e x n) name)
    (asked_is value (note_of d w) c.note-note.result c.note-note.result.reduced c.bound_on-value.result c.match-matches.matches (note_of d w).reduced note (ap Noted.reduced note) up c.bound_on-value.ensures
    ∙ sym (asked_note-other d s w (Contains-at d.others k hk)))

pub returns : goal.returns
returns g c =
    let d : Dictionary = c.args.dict.now in
    let s = c.requires.sound in
    let k : ℕ = c.loop-column.column in
    put_anew d s d.others (asked_note d) c.loop-column.dict
    (putting_end d s d.others (λ i. asked_note d (slice_index d.others i)) s.split.second_distinct s.split.second_named k c.loop-column.dict c.loop-column.invariant
    (Prim.omega (arith, c.loop-column-test.false, c.column_count-column-end.ensures)))
    (λ w named apart. elim (s.split.either w named) [
      | inl b ↦ sym (asked_note-basic d s w b)
      | inr o ↦ absurd (apart o)
    ])
