use Rattle.std.proofs.Common.{◌≡◌, ◌<◌, ◌∙◌, ℕ, arith, ap, sym, subst, length, slice_index, inl, inr, refl}
use Rattle.std.specs.List.{Contains}
use mathlib.Core.Path.{ap₂}
use Rattle.fraction_theory.specs.Fraction.{◌+ℚ◌, ◌*ℚ◌}
use Rattle.fraction_theory.specs.declared.Sign.TheVariants.{Zero}
use Rattle.fraction_theory.proofs.SignLaws.{sign_of_is}
use Rattle.linear_system.proofs.ChoiceLaws.{column_entry-basic}
use Rattle.linear_dict.specs.Dictionaries.{Dictionary, choice_of, note_of, system_in, with_note}
use Rattle.linear_dict.specs.Notes.{Noted, noted}
use Rattle.linear_dict.proofs.CauseLemmas.{refused_share}
use Rattle.linear_dict.proofs.SplitLemmas.{Contains-at}
use Rattle.std.proofs.lemmas.Result.{err_from_is_err_and}
use Rattle.simplex_core.specs.Operations.{PriceShare, adding_scaled}
use Rattle.simplex_core.specs.Posings.{price_added}
use Rattle.simplex_core.proofs.Adding.{with_reduced, priced_by_nothing, price_added-basic, price_added-other}
use Rattle.simplex_core.proofs.AnewLaws.{entry_read, put_anew}
use Rattle.simplex_core.proofs.PutLemmas.{putting_start, putting_note, putting_named, putting_same, putting_step, putting_end}
use Rattle.simplex_core.proofs.StandLemmas.{choice_basic}
use Rattle.simplex_core.proofs.posing.add_basic_price.Goals as goal

pub loop-column-init : goal.loop-column-init
loop-column-init g c =
    let d : Dictionary = c.args.dict.now in
    let s = c.requires.sound in
    putting_start d s d.others (λ k. price_added d c.args.name (slice_index d.others k)) s.split.second_distinct s.split.second_named

pub rank_of-rank-requires-clause-named : goal.rank_of-rank-requires-clause-named
rank_of-rank-requires-clause-named g c =
    let d : Dictionary = c.args.dict.now in
    let s = c.requires.sound in
    let k : ℕ = c.loop-column.column in
    let e : Dictionary = c.loop-column.dict in
    let m = c.loop-column.invariant in
    let hk : k < length d.others = Prim.omega (arith, c.loop-column-test.true, c.column_count-column-end.ensures) in
    let name : c.others-other.result ≡ slice_index d.others k = c.others-other.ensures ∙ ap (λ (x : Dictionary). slice_index x.others k) m.is in
    subst (Contains e.names) (sym name) (putting_named d s d.others (λ i. price_added d c.args.name (slice_index d.others i)) s.split.second_distinct s.split.second_named k e m hk)

pub loop-column-preserved : goal.loop-column-preserved
loop-column-preserved g c =
    let value = g.N.Exact.value in
    let d : Dictionary = c.args.dict.now in
    let e : Dictionary = c.loop-column.dict in
    let s = c.requires.sound in
    let j : ℕ = c.args.name in
    let k : ℕ = c.loop-column.column in
    let w : ℕ = slice_index d.others k in
    let f : ℕ → Noted = λ i. price_added d j (slice_index d.others i) in
    let m = c.loop-column.invariant in
    let hk : k < length d.others = Prim.omega (arith, c.loop-column-test.true, c.column_count-column-end.ensures) in
    let basic : Contains d.basics j = subst (Contains d.basics) c.requires.name (Contains-at d.basics c.args.row c.requires.row) in
    let name : c.others-other.result ≡ w = c.others-other.ensures ∙ ap (λ (x : Dictionary). slice_index x.others k) m.is in
    let note : noted value c.note_at-note.result ≡ note_of d w = c.note_at-note.ensures ∙ ap (note_of e) (c.rank_of-rank.ensures.name ∙ name) ∙ putting_note d s d.others f s.split.second_distinct s.split.second_named k e m hk in
    let entry : value c.entry-entry.result ≡ (choice_of d).entry j w = c.entry-entry.ensures.entry ∙ entry_read d e m.notes m.is c.args.row k j w c.requires.name refl in
    let n : Noted = with_reduced (noted value c.note_at-note.result) (value c.in_ok-reduced.reduced) in
    putting_step d s d.others f s.split.second_distinct s.split.second_named k e m n c.set_note_at.new.self hk
    (c.set_note_at.ensures ∙ ap (λ (x : ℕ). with_note e x n) (c.rank_of-rank.ensures.name ∙ name))
    (ap₂ with_reduced note (c.in_ok-reduced.ensures.exact ∙ ap₂ ◌+ℚ◌ (ap Noted.reduced note)
    (ap₂ ◌*ℚ◌ c.requires.price (entry ∙ sym (column_entry-basic (choice_of d) j w (choice_basic d s j basic)))))
    ∙ sym (price_added-other d s w j (Contains-at d.others k hk)))

-- an entry of 0 changes nothing
pub loop-column-preserved-in-Zero : goal.loop-column-preserved-in-Zero
loop-column-preserved-in-Zero g c =
    let value = g.N.Exact.value in
    let d : Dictionary = c.args.dict.now in
    let e : Dictionary = c.loop-column.dict in
    let s = c.requires.sound in
    let j : ℕ = c.args.name in
    let k : ℕ = c.loop-column.column in
    let w : ℕ = slice_index d.others k in
    let f : ℕ → Noted = λ i. price_added d j (slice_index d.others i) in
    let m = c.loop-column.invariant in
    let hk : k < length d.others = Prim.omega (arith, c.loop-column-test.true, c.column_count-column-end.ensures) in
    let basic : Contains d.basics j = subst (Contains d.basics) c.requires.name (Contains-at d.basics c.args.row c.requires.row) in
    let entry : value c.entry-entry.result ≡ (choice_of d).entry j w = c.entry-entry.ensures.entry ∙ entry_read d e m.notes m.is c.args.row k j w c.requires.name refl in
    let nil = sign_of_is (value c.entry-entry.result) Zero (sym c.in-Zero.is ∙ c.sign.ensures) in
    putting_same d s d.others f s.split.second_distinct s.split.second_named k e m
    (priced_by_nothing d s j w (Contains-at d.others k hk) (column_entry-basic (choice_of d) j w (choice_basic d s j basic) ∙ sym entry ∙ nil))

pub returns-clause-notes : goal.returns-clause-notes
returns-clause-notes g c =
    let d : Dictionary = c.args.dict.now in
    let s = c.requires.sound in
    let j : ℕ = c.args.name in
    let k : ℕ = c.loop-column.column in
    put_anew d s d.others (price_added d j) c.loop-column.dict
    (putting_end d s d.others (λ i. price_added d j (slice_index d.others i)) s.split.second_distinct s.split.second_named k c.loop-column.dict c.loop-column.invariant
    (Prim.omega (arith, c.loop-column-test.false, c.column_count-column-end.ensures)))
    (λ w named apart. elim (s.split.either w named) [
      | inl b ↦ sym (price_added-basic d s w j b)
      | inr o ↦ absurd (apart o)
    ])

pub returns-in_err-reduced-clause-stops : goal.returns-in_err-reduced-clause-stops
returns-in_err-reduced-clause-stops g c =
    let value = g.N.Exact.value in
    let d : Dictionary = c.args.dict.now in
    let e : Dictionary = c.loop-column.dict in
    let s = c.requires.sound in
    let j : ℕ = c.args.name in
    let k : ℕ = c.loop-column.column in
    let w : ℕ = slice_index d.others k in
    let f : ℕ → Noted = λ i. price_added d j (slice_index d.others i) in
    let m = c.loop-column.invariant in
    let hk : k < length d.others = Prim.omega (arith, c.loop-column-test.true, c.column_count-column-end.ensures) in
    let basic : Contains d.basics j = subst (Contains d.basics) c.requires.name (Contains-at d.basics c.args.row c.requires.row) in
    let name : c.others-other.result ≡ w = c.others-other.ensures ∙ ap (λ (x : Dictionary). slice_index x.others k) m.is in
    let note : noted value c.note_at-note.result ≡ note_of d w = c.note_at-note.ensures ∙ ap (note_of e) (c.rank_of-rank.ensures.name ∙ name) ∙ putting_note d s d.others f s.split.second_distinct s.split.second_named k e m hk in
    let entry : value c.entry-entry.result ≡ (choice_of d).entry j w = c.entry-entry.ensures.entry ∙ entry_read d e m.notes m.is c.args.row k j w c.requires.name refl in
    let p = err_from_is_err_and c.from_residual.result c.from_residual.ensures.1 in
    rw (p.1, p.2)
    (refused_share value g.N.Exact.bound (PriceShare d j) c.note_at-note.result.reduced c.args.price c.entry-entry.result c.in_err-reduced.field-0.0
    (note_of d w).reduced ((system_in d).price j) ((choice_of d).entry j w) c.in_err-reduced.ensures (ap Noted.reduced note) c.requires.price entry
    (adding_scaled w basic (Contains-at d.others k hk)))
