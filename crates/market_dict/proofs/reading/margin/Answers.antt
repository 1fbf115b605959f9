use Rattle.std.proofs.Common.{◌∙◌, ap, ap₂, subst, sym, slice_index}
use Rattle.fraction_theory.specs.Fraction.{◌-ℚ◌}
use Rattle.exact_fraction.specs.declared.Op.TheVariants.{Minus}
use Rattle.linear_dict.specs.Dictionaries.{note_of, choice_of, system_in}
use Rattle.linear_dict.specs.Notes.{Noted}
use Rattle.simplex_core.specs.Outcomes.{IsEmptyAt}
use Rattle.simplex_theory.specs.Stuck.{margin}
use Rattle.market_model.specs.Valued.{passed_at}
use Rattle.market_model.proofs.SumSteps.{refusal}
use Rattle.market_dict.proofs.ReadingLemmas.{exact_ok, exact_err, margin_above, margin_below, above_refused, below_refused}
use Rattle.market_dict.proofs.reading.margin.Goals as goal

pub returns-then-above-clause-margin : goal.returns-then-above-clause-margin
returns-then-above-clause-margin g c =
    let d = c.args.dict.now in
    let b = slice_index d.basics c.args.row in
    let note = c.note-note.ensures ∙ ap (note_of d) c.basics.ensures in
    exact_ok g.N.Exact.value g.N.Exact.bound Minus c.note-note.result.high c.note-note.result.value c.exact_difference.result _ c.exact_difference.ensures
    (ap₂ ◌-ℚ◌ (ap Noted.high note) (ap Noted.value note) ∙ margin_above d c.requires.sound c.args.row c.requires.empty.within c.requires.shows ∙ ap (margin (system_in d) (choice_of d) b) (sym c.if-above.true))

pub returns-then-above-clause-pair : goal.returns-then-above-clause-pair
returns-then-above-clause-pair g c =
    let d = c.args.dict.now in
    let b = slice_index d.basics c.args.row in
    let note = c.note-note.ensures ∙ ap (note_of d) c.basics.ensures in
    exact_err g.N.Exact.value g.N.Exact.bound Minus c.note-note.result.high c.note-note.result.value c.exact_difference.result _ c.exact_difference.ensures
    (λ p h. above_refused d c.requires.sound c.args.row c.requires.empty.within c.requires.shows g.N.Exact.bound (passed_at g.N.Exact.value p) (subst (IsEmptyAt d c.args.row) c.if-above.true c.requires.empty)
    (refusal g.N.Exact.value g.N.Exact.bound Minus c.note-note.result.high c.note-note.result.value (note_of d b).high (note_of d b).value p (ap Noted.high note) (ap Noted.value note) h))

pub returns-else-above-clause-margin : goal.returns-else-above-clause-margin
returns-else-above-clause-margin g c =
    let d = c.args.dict.now in
    let b = slice_index d.basics c.args.row in
    let note = c.note-note.ensures ∙ ap (note_of d) c.basics.ensures in
    exact_ok g.N.Exact.value g.N.Exact.bound Minus c.note-note.result.value c.note-note.result.low c.exact_difference-else-above.result _ c.exact_difference-else-above.ensures
    (ap₂ ◌-ℚ◌ (ap Noted.value note) (ap Noted.low note) ∙ margin_below d c.requires.sound c.args.row c.requires.empty.within c.requires.shows ∙ ap (margin (system_in d) (choice_of d) b) (sym c.if-above.false))

pub returns-else-above-clause-pair : goal.returns-else-above-clause-pair
returns-else-above-clause-pair g c =
    let d = c.args.dict.now in
    let b = slice_index d.basics c.args.row in
    let note = c.note-note.ensures ∙ ap (note_of d) c.basics.ensures in
    exact_err g.N.Exact.value g.N.Exact.bound Minus c.note-note.result.value c.note-note.result.low c.exact_difference-else-above.result _ c.exact_difference-else-above.ensures
    (λ p h. below_refused d c.requires.sound c.args.row c.requires.empty.within c.requires.shows g.N.Exact.bound (passed_at g.N.Exact.value p) (subst (IsEmptyAt d c.args.row) c.if-above.false c.requires.empty)
    (refusal g.N.Exact.value g.N.Exact.bound Minus c.note-note.result.value c.note-note.result.low (note_of d b).value (note_of d b).low p (ap Noted.value note) (ap Noted.low note) h))
