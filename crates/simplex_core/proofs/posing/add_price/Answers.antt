use Rattle.std.proofs.Common.{◌∙◌, ℕ, ap, pos, sym, subst}
use Rattle.std.specs.List.{Contains}
use mathlib.Core.Path.{ap₂}
use Rattle.fraction_theory.specs.Fraction.{whole, ◌+ℚ◌}
use Rattle.fraction_theory.proofs.FieldLaws.{ring_ℚ}
use Rattle.fraction_theory.specs.declared.Sign.TheVariants.{Zero}
use Rattle.fraction_theory.proofs.SignLaws.{sign_of_is}
use Rattle.std.proofs.lemmas.Result.{err_from_is_err_and}
use Rattle.linear_dict.specs.Dictionaries.{Dictionary, note_of, system_in}
use Rattle.linear_dict.specs.Notes.{Noted, noted}
use Rattle.linear_dict.proofs.CauseLemmas.{refused_sum}
use Rattle.linear_dict.proofs.SplitLemmas.{Contains-at}
use Rattle.simplex_core.specs.Operations.{PriceShare, adding_own}
use Rattle.simplex_core.proofs.Adding.{with_reduced, priced_by_nil, priced_own}
use Rattle.simplex_core.proofs.Helping.{price_is}
use Rattle.simplex_core.proofs.posing.add_price.Goals as goal

pub returns-in-Zero-clause-notes : goal.returns-in-Zero-clause-notes
returns-in-Zero-clause-notes g c =
    let value = g.N.Exact.value in
    let d : Dictionary = c.args.dict.now in
    priced_by_nil d c.requires.sound c.args.name
    (sym (price_is d c.args.name (noted value c.note-note.result) c.note-note.ensures) ∙ sign_of_is (value c.note-note.result.price) Zero (sym c.in-Zero.is ∙ c.sign.ensures))

pub add_basic_price-requires-clause-price : goal.add_basic_price-requires-clause-price
add_basic_price-requires-clause-price g c = price_is c.args.dict.now c.args.name (noted g.N.Exact.value c.note-note.result) c.note-note.ensures

pub returns-in_ok-reduced-in-Column-clause-notes : goal.returns-in_ok-reduced-in-Column-clause-notes
returns-in_ok-reduced-in-Column-clause-notes g c =
    let value = g.N.Exact.value in
    let d : Dictionary = c.args.dict.now in
    let j : ℕ = c.args.name in
    let r : Noted = noted value c.note-note.result in
    let other : Contains d.others j = subst (Contains d.others) c.in-Column.ensures.1 (Contains-at d.others c.in-Column.field-0 c.in-Column.ensures.0) in
    let n : Noted = with_reduced r (value c.in_ok-reduced-in-Column.reduced) in
    priced_own d c.requires.sound j other n c.set_note.new.self c.set_note.ensures
    (ap₂ with_reduced c.note-note.ensures
    (c.in_ok-reduced-in-Column.ensures.exact ∙ ap₂ ◌+ℚ◌ (ap Noted.reduced c.note-note.ensures) (price_is d j r c.note-note.ensures)))

pub returns-in_err-reduced-in-Column-clause-stops : goal.returns-in_err-reduced-in-Column-clause-stops
returns-in_err-reduced-in-Column-clause-stops g c =
    let value = g.N.Exact.value in
    let d : Dictionary = c.args.dict.now in
    let j : ℕ = c.args.name in
    let r : Noted = noted value c.note-note.result in
    let other : Contains d.others j = subst (Contains d.others) c.in-Column.ensures.1 (Contains-at d.others c.in-Column.field-0 c.in-Column.ensures.0) in
    let p = err_from_is_err_and c.from_residual.result c.from_residual.ensures.1 in
    rw (p.1, p.2)
    (refused_sum value g.N.Exact.bound (PriceShare d j) c.note-note.result.reduced c.note-note.result.price c.in_err-reduced-in-Column.field-0.0
    (note_of d j).reduced ((system_in d).price j) (whole (pos 1)) c.in_err-reduced-in-Column.ensures (ap Noted.reduced c.note-note.ensures)
    (price_is d j r c.note-note.ensures ∙ sym (ring_ℚ.times_one ((system_in d).price j))) (adding_own other))
