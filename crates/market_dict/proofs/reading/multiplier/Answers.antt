use Rattle.std.proofs.Common.{◌≢◌, ◌∙◌, ℕ, ap, subst, sym, slice_index}
use Rattle.std.specs.List.{Contains}
use Rattle.fraction_theory.specs.Fraction.{neg_ℚ}
use Rattle.linear_dict.specs.Dictionaries.{choice_of}
use Rattle.linear_dict.proofs.SplitLemmas.{Contains-at}
use Rattle.simplex_core.proofs.StandLemmas.{choice_basic, choice_other}
use Rattle.market_dict.proofs.ReadingLemmas.{multiplier_self, multiplier_basic, multiplier_other, names_differ}
use Rattle.market_dict.proofs.reading.multiplier.Goals as goal

pub returns-then-place-row : goal.returns-then-place-row
returns-then-place-row g c =
    let d = c.args.dict.now in
    c.datum.ensures
    ∙ sym (multiplier_self (choice_of d) (slice_index d.basics c.args.row) (slice_index d.names c.args.rank) (sym c.in-Row.ensures.1 ∙ ap (slice_index d.basics) c.if-place-row.true))

pub returns-else-place-row : goal.returns-else-place-row
returns-else-place-row g c =
    let d = c.args.dict.now in
    let w = slice_index d.names c.args.rank in
    let other : w ≢ slice_index d.basics c.args.row =
    λ e. names_differ d.basics c.requires.sound.split.first_distinct c.in-Row.place c.args.row c.in-Row.ensures.0 c.requires.row c.if-place-row.false (c.in-Row.ensures.1 ∙ e) in
    let basic : Contains d.basics w = subst (Contains d.basics) c.in-Row.ensures.1 (Contains-at d.basics c.in-Row.place c.in-Row.ensures.0) in
    c.datum-else-place-row.ensures ∙ sym (multiplier_basic (choice_of d) (slice_index d.basics c.args.row) w other (choice_basic d c.requires.sound w basic))

pub returns-in-Column : goal.returns-in-Column
returns-in-Column g c =
    let d = c.args.dict.now in
    let b = slice_index d.basics c.args.row in
    let w = slice_index d.names c.args.rank in
    let column : Contains d.others w = subst (Contains d.others) c.in-Column.ensures.1 (Contains-at d.others c.in-Column.column c.in-Column.ensures.0) in
    let other : w ≢ b = λ e. c.requires.sound.split.apart b (Contains-at d.basics c.args.row c.requires.row) (subst (Contains d.others) e column) in
    c.neg.ensures ∙ ap neg_ℚ (c.entry.ensures.entry ∙ ap (λ (v : ℕ). (choice_of d).entry b v) c.in-Column.ensures.1) ∙ sym (multiplier_other (choice_of d) b w other (choice_other d c.requires.sound w column))
