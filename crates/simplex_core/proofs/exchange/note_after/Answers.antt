use Rattle.std.proofs.Common.{◌≡◌, ◌∙◌, ℕ, pos, ap, sym, subst, refl, slice_index}
use mathlib.Core.Path.{ap₂}
use Rattle.std.specs.List.{Contains}
use Rattle.fraction_theory.specs.Fraction.{Fraction, whole, ◌+ℚ◌, ◌*ℚ◌}
use Rattle.fraction_theory.proofs.FieldLaws.{over-one}
use Rattle.linear_dict.specs.Dictionaries.{Dictionary, choice_of, entry_of, note_of}
use Rattle.linear_dict.specs.Notes.{Noted, noted}
use Rattle.linear_dict.proofs.SplitLemmas.{Contains-at}
use Rattle.simplex_core.proofs.MoveLemmas.{note_with, moved-basic, moved-leaving, moved-staying}
use Rattle.std.proofs.lemmas.Result.{err_from_is_err_and}
use Rattle.linear_dict.proofs.CauseLemmas.{refused_share}
use Rattle.simplex_core.specs.Operations.{MoveShare, adding_rise, adding_price}
use Rattle.simplex_core.proofs.exchange.note_after.Goals as goal

pub returns-in_ok-value-in-Row-clause-note : goal.returns-in_ok-value-in-Row-clause-note
unfolding choice_of
returns-in_ok-value-in-Row-clause-note g c =
    let value = g.N.Exact.value in
    let d : Dictionary = c.args.dict.now in
    let name : ℕ = slice_index d.names c.args.rank in
    let s = c.args.step.now in
    let n : Noted = noted value c.note_at-note.result in
    let entry : value c.entry-entry.result ≡ entry_of d name s.leaving = c.entry-entry.ensures.entry ∙ ap₂ (entry_of d) c.in-Row.ensures.1 c.requires.leaving in
    let moved : value c.in_ok-value-in-Row.value ≡ n.value +ℚ entry_of d name s.leaving *ℚ value s.displacement =
    c.in_ok-value-in-Row.ensures.exact ∙ ap (λ (t : Fraction). n.value +ℚ t *ℚ value s.displacement) entry in
    ap₂ (λ (x y : Fraction). note_with n x y n.at_high) moved (c.of_parts-reduced.ensures ∙ over-one (pos 0))
    ∙ ap (λ (m : Noted). note_with m (m.value +ℚ entry_of d name s.leaving *ℚ value s.displacement) (whole (pos 0)) m.at_high) c.note_at-note.ensures
    ∙ sym (moved-basic d c.requires.sound s.leaving s.entering s.above (value s.bound) (value s.displacement) (value s.price) name
    (subst (Contains d.basics) c.in-Row.ensures.1 (Contains-at d.basics c.in-Row.row c.in-Row.ensures.0)))

pub returns-then-name-step-clause-note : goal.returns-then-name-step-clause-note
unfolding choice_of
returns-then-name-step-clause-note g c =
    let value = g.N.Exact.value in
    let d : Dictionary = c.args.dict.now in
    let name : ℕ = slice_index d.names c.args.rank in
    let s = c.args.step.now in
    let n : Noted = noted value c.note_at-note.result in
    let entry : value c.entry-entry-in-Column.result ≡ entry_of d s.entering name = c.entry-entry-in-Column.ensures.entry ∙ ap₂ (entry_of d) c.requires.entering c.in-Column.ensures.1 in
    let moved : value c.in_ok-reduced-in-Column.reduced ≡ n.reduced +ℚ value s.price *ℚ entry_of d s.entering name =
    c.in_ok-reduced-in-Column.ensures.exact ∙ ap (λ (t : Fraction). n.reduced +ℚ value s.price *ℚ t) entry in
    ap (λ (x : Fraction). note_with n (value s.bound) x s.above) moved
    ∙ ap (λ (m : Noted). note_with m (value s.bound) (m.reduced +ℚ value s.price *ℚ entry_of d s.entering name) s.above) c.note_at-note.ensures
    ∙ sym (moved-leaving d c.requires.sound s.leaving s.entering s.above (value s.bound) (value s.displacement) (value s.price) name
    (subst (Contains d.others) c.in-Column.ensures.1 (Contains-at d.others c.in-Column.column c.in-Column.ensures.0)) (sym c.ranked-name.ensures ∙ c.if-name-step.true))

pub returns-else-name-step-clause-note : goal.returns-else-name-step-clause-note
unfolding choice_of
returns-else-name-step-clause-note g c =
    let value = g.N.Exact.value in
    let d : Dictionary = c.args.dict.now in
    let name : ℕ = slice_index d.names c.args.rank in
    let s = c.args.step.now in
    let n : Noted = noted value c.note_at-note.result in
    let entry : value c.entry-entry-in-Column.result ≡ entry_of d s.entering name = c.entry-entry-in-Column.ensures.entry ∙ ap₂ (entry_of d) c.requires.entering c.in-Column.ensures.1 in
    let moved : value c.in_ok-reduced-in-Column.reduced ≡ n.reduced +ℚ value s.price *ℚ entry_of d s.entering name =
    c.in_ok-reduced-in-Column.ensures.exact ∙ ap (λ (t : Fraction). n.reduced +ℚ value s.price *ℚ t) entry in
    ap (λ (x : Fraction). note_with n n.value x n.at_high) moved
    ∙ ap (λ (m : Noted). note_with m m.value (m.reduced +ℚ value s.price *ℚ entry_of d s.entering name) m.at_high) c.note_at-note.ensures
    ∙ sym (moved-staying d c.requires.sound s.leaving s.entering s.above (value s.bound) (value s.displacement) (value s.price) name
    (subst (Contains d.others) c.in-Column.ensures.1 (Contains-at d.others c.in-Column.column c.in-Column.ensures.0)) (λ q. c.if-name-step.false (c.ranked-name.ensures ∙ q)))

pub returns-in_err-value-in-Row-clause-stops : goal.returns-in_err-value-in-Row-clause-stops
unfolding choice_of
returns-in_err-value-in-Row-clause-stops g c =
    let value = g.N.Exact.value in
    let d : Dictionary = c.args.dict.now in
    let name : ℕ = slice_index d.names c.args.rank in
    let s = c.args.step.now in
    let p = err_from_is_err_and c.from_residual.result c.from_residual.ensures.1 in
    let basic : Contains d.basics name = subst (Contains d.basics) c.in-Row.ensures.1 (Contains-at d.basics c.in-Row.row c.in-Row.ensures.0) in
    let entry : value c.entry-entry.result ≡ entry_of d name s.leaving = c.entry-entry.ensures.entry ∙ ap₂ (entry_of d) c.in-Row.ensures.1 c.requires.leaving in
    rw (p.1, p.2)
    (refused_share value g.N.Exact.bound (MoveShare d s.leaving s.entering (value s.displacement) (value s.price) name) c.note_at-note.result.value c.entry-entry.result s.displacement c.in_err-value-in-Row.field-0.0
    (note_of d name).value (entry_of d name s.leaving) (value s.displacement) c.in_err-value-in-Row.ensures (ap Noted.value c.note_at-note.ensures) entry refl (adding_rise basic))

pub returns-in_err-reduced-in-Column-clause-stops : goal.returns-in_err-reduced-in-Column-clause-stops
unfolding choice_of
returns-in_err-reduced-in-Column-clause-stops g c =
    let value = g.N.Exact.value in
    let d : Dictionary = c.args.dict.now in
    let name : ℕ = slice_index d.names c.args.rank in
    let s = c.args.step.now in
    let p = err_from_is_err_and c.from_residual-in_err-reduced-in-Column.result c.from_residual-in_err-reduced-in-Column.ensures.1 in
    let other : Contains d.others name = subst (Contains d.others) c.in-Column.ensures.1 (Contains-at d.others c.in-Column.column c.in-Column.ensures.0) in
    let entry : value c.entry-entry-in-Column.result ≡ entry_of d s.entering name = c.entry-entry-in-Column.ensures.entry ∙ ap₂ (entry_of d) c.requires.entering c.in-Column.ensures.1 in
    rw (p.1, p.2)
    (refused_share value g.N.Exact.bound (MoveShare d s.leaving s.entering (value s.displacement) (value s.price) name) c.note_at-note.result.reduced s.price c.entry-entry-in-Column.result c.in_err-reduced-in-Column.field-0.0
    (note_of d name).reduced (value s.price) (entry_of d s.entering name) c.in_err-reduced-in-Column.ensures (ap Noted.reduced c.note_at-note.ensures) refl entry (adding_price other))
