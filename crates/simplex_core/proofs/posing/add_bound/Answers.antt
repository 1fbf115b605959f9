use Rattle.std.proofs.Common.{◌≡◌, ◌<◌, ◌∙◌, ℕ, arith, ap, sym, subst, length, slice_index, inl, inr, refl}
use Rattle.std.specs.List.{Contains}
use mathlib.Core.Path.{ap₂}
use Rattle.fraction_theory.specs.Fraction.{◌+ℚ◌, ◌*ℚ◌}
use Rattle.fraction_theory.specs.declared.Sign.TheVariants.{Zero}
use Rattle.fraction_theory.proofs.SignLaws.{sign_of_is}
use Rattle.linear_system.specs.Choices.{at_bound}
use Rattle.linear_dict.specs.Dictionaries.{Dictionary, choice_of, note_of, system_in, with_note}
use Rattle.linear_dict.specs.Notes.{Noted, noted}
use Rattle.linear_dict.proofs.CauseLemmas.{refused_share}
use Rattle.linear_dict.proofs.SplitLemmas.{Contains-at}
use Rattle.std.proofs.lemmas.Result.{err_from_is_err_and}
use Rattle.simplex_core.specs.Operations.{BoundShare, adding_bound}
use Rattle.simplex_core.specs.Posings.{bound_added}
use Rattle.simplex_core.proofs.Adding.{with_value, bounded_by_nothing, bound_added-basic, bound_added-other, bounded_by_nil}
use Rattle.simplex_core.proofs.AnewLaws.{entry_read, put_anew}
use Rattle.simplex_core.proofs.PutLemmas.{putting_start, putting_note, putting_named, putting_same, putting_step, putting_end}
use Rattle.simplex_core.proofs.StepLemmas.{stand_is}
use Rattle.simplex_core.proofs.posing.add_bound.Goals as goal

pub loop-row-init : goal.loop-row-init
loop-row-init g c =
    let d : Dictionary = c.args.dict.now in
    let s = c.requires.sound in
    putting_start d s d.basics (λ k. bound_added d c.args.name (slice_index d.basics k)) s.split.first_distinct s.split.first_named

pub returns-in-Zero-clause-notes : goal.returns-in-Zero-clause-notes
returns-in-Zero-clause-notes g c =
    let value = g.N.Exact.value in
    let d : Dictionary = c.args.dict.now in
    bounded_by_nil d c.requires.sound c.args.name
    (sym (stand_is value d c.args.name c.note-at.result c.bound_on-bound.result c.note-at.ensures c.bound_on-bound.ensures)
    ∙ sign_of_is (value c.bound_on-bound.result) Zero (sym c.in-Zero.is ∙ c.sign.ensures))

pub rank_of-rank-requires-clause-live : goal.rank_of-rank-requires-clause-live
rank_of-rank-requires-clause-live g c = ap (λ (x : Dictionary). x.spent) c.loop-row.invariant.is ∙ c.requires.live

pub note_at-note-requires-clause-live : goal.note_at-note-requires-clause-live
note_at-note-requires-clause-live g c = ap (λ (x : Dictionary). x.spent) c.loop-row.invariant.is ∙ c.requires.live

pub rank_of-rank-requires-clause-named : goal.rank_of-rank-requires-clause-named
rank_of-rank-requires-clause-named g c =
    let d : Dictionary = c.args.dict.now in
    let s = c.requires.sound in
    let k : ℕ = c.loop-row.row in
    let e : Dictionary = c.loop-row.dict in
    let m = c.loop-row.invariant in
    let hk : k < length d.basics = Prim.omega (arith, c.loop-row-test.true, c.row_count-row-end.ensures) in
    let name : c.basics-basic.result ≡ slice_index d.basics k = c.basics-basic.ensures ∙ ap (λ (x : Dictionary). slice_index x.basics k) m.is in
    subst (Contains e.names) (sym name) (putting_named d s d.basics (λ i. bound_added d c.args.name (slice_index d.basics i)) s.split.first_distinct s.split.first_named k e m hk)

pub set_note_at-requires-clause-live : goal.set_note_at-requires-clause-live
set_note_at-requires-clause-live g c = ap (λ (x : Dictionary). x.spent) c.loop-row.invariant.is ∙ c.requires.live

pub loop-row-preserved : goal.loop-row-preserved
loop-row-preserved g c =
    let value = g.N.Exact.value in
    let d : Dictionary = c.args.dict.now in
    let e : Dictionary = c.loop-row.dict in
    let s = c.requires.sound in
    let w : ℕ = c.args.name in
    let k : ℕ = c.loop-row.row in
    let b : ℕ = slice_index d.basics k in
    let f : ℕ → Noted = λ i. bound_added d w (slice_index d.basics i) in
    let m = c.loop-row.invariant in
    let hk : k < length d.basics = Prim.omega (arith, c.loop-row-test.true, c.row_count-row-end.ensures) in
    let name : c.basics-basic.result ≡ b = c.basics-basic.ensures ∙ ap (λ (x : Dictionary). slice_index x.basics k) m.is in
    let note : noted value c.note_at-note.result ≡ note_of d b = c.note_at-note.ensures ∙ ap (note_of e) (c.rank_of-rank.ensures.name ∙ name) ∙ putting_note d s d.basics f s.split.first_distinct s.split.first_named k e m hk in
    let entry : value c.entry-entry.result ≡ (choice_of d).entry b w = c.entry-entry.ensures.entry ∙ entry_read d e m.notes m.is k c.args.column b w refl c.requires.name in
    let stands : value c.bound_on-bound.result ≡ at_bound (system_in d) (choice_of d) w = stand_is value d w c.note-at.result c.bound_on-bound.result c.note-at.ensures c.bound_on-bound.ensures in
    let n : Noted = with_value (noted value c.note_at-note.result) (value c.in_ok-value.value) in
    putting_step d s d.basics f s.split.first_distinct s.split.first_named k e m n c.set_note_at.new.self hk
    (c.set_note_at.ensures ∙ ap (λ (x : ℕ). with_note e x n) (c.rank_of-rank.ensures.name ∙ name))
    (ap₂ with_value note (c.in_ok-value.ensures.exact ∙ ap₂ ◌+ℚ◌ (ap Noted.value note) (ap₂ ◌*ℚ◌ entry stands))
    ∙ sym (bound_added-basic d s b w (Contains-at d.basics k hk)))

-- an entry of 0 changes nothing
pub loop-row-preserved-in-Zero-sign : goal.loop-row-preserved-in-Zero-sign
loop-row-preserved-in-Zero-sign g c =
    let value = g.N.Exact.value in
    let d : Dictionary = c.args.dict.now in
    let e : Dictionary = c.loop-row.dict in
    let s = c.requires.sound in
    let w : ℕ = c.args.name in
    let k : ℕ = c.loop-row.row in
    let b : ℕ = slice_index d.basics k in
    let f : ℕ → Noted = λ i. bound_added d w (slice_index d.basics i) in
    let m = c.loop-row.invariant in
    let hk : k < length d.basics = Prim.omega (arith, c.loop-row-test.true, c.row_count-row-end.ensures) in
    let entry : value c.entry-entry.result ≡ (choice_of d).entry b w = c.entry-entry.ensures.entry ∙ entry_read d e m.notes m.is k c.args.column b w refl c.requires.name in
    let nil = sign_of_is (value c.entry-entry.result) Zero (sym c.in-Zero-sign.is ∙ c.sign-in-loop-row.ensures) in
    putting_same d s d.basics f s.split.first_distinct s.split.first_named k e m
    (bounded_by_nothing d s w b (Contains-at d.basics k hk) (sym entry ∙ nil))

pub returns-clause-notes : goal.returns-clause-notes
returns-clause-notes g c =
    let d : Dictionary = c.args.dict.now in
    let s = c.requires.sound in
    let w : ℕ = c.args.name in
    let k : ℕ = c.loop-row.row in
    put_anew d s d.basics (bound_added d w) c.loop-row.dict
    (putting_end d s d.basics (λ i. bound_added d w (slice_index d.basics i)) s.split.first_distinct s.split.first_named k c.loop-row.dict c.loop-row.invariant
    (Prim.omega (arith, c.loop-row-test.false, c.row_count-row-end.ensures)))
    (λ b named apart. elim (s.split.either b named) [
      | inl m ↦ absurd (apart m)
      | inr o ↦ sym (bound_added-other d s b w o)
    ])

pub returns-in_err-value-clause-stops : goal.returns-in_err-value-clause-stops
returns-in_err-value-clause-stops g c =
    let value = g.N.Exact.value in
    let d : Dictionary = c.args.dict.now in
    let e : Dictionary = c.loop-row.dict in
    let s = c.requires.sound in
    let w : ℕ = c.args.name in
    let k : ℕ = c.loop-row.row in
    let b : ℕ = slice_index d.basics k in
    let f : ℕ → Noted = λ i. bound_added d w (slice_index d.basics i) in
    let m = c.loop-row.invariant in
    let hk : k < length d.basics = Prim.omega (arith, c.loop-row-test.true, c.row_count-row-end.ensures) in
    let name : c.basics-basic.result ≡ b = c.basics-basic.ensures ∙ ap (λ (x : Dictionary). slice_index x.basics k) m.is in
    let note : noted value c.note_at-note.result ≡ note_of d b = c.note_at-note.ensures ∙ ap (note_of e) (c.rank_of-rank.ensures.name ∙ name) ∙ putting_note d s d.basics f s.split.first_distinct s.split.first_named k e m hk in
    let entry : value c.entry-entry.result ≡ (choice_of d).entry b w = c.entry-entry.ensures.entry ∙ entry_read d e m.notes m.is k c.args.column b w refl c.requires.name in
    let stands : value c.bound_on-bound.result ≡ at_bound (system_in d) (choice_of d) w = stand_is value d w c.note-at.result c.bound_on-bound.result c.note-at.ensures c.bound_on-bound.ensures in
    let p = err_from_is_err_and c.from_residual.result c.from_residual.ensures.1 in
    rw (p.1, p.2)
    (refused_share value g.N.Exact.bound (BoundShare d w) c.note_at-note.result.value c.entry-entry.result c.bound_on-bound.result c.in_err-value.field-0.0
    (note_of d b).value ((choice_of d).entry b w) (at_bound (system_in d) (choice_of d) w) c.in_err-value.ensures (ap Noted.value note) entry stands
    (adding_bound b (Contains-at d.basics k hk)))
