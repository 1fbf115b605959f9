use Rattle.std.proofs.Common.{◌≢◌, ◌∙◌, pos, ℕ, subst, slice_index}
use Rattle.std.specs.List.{Contains}
use Rattle.fraction_theory.specs.Fraction.{whole}
use Rattle.linear_dict.specs.Dictionaries.{choice_of, system_in}
use Rattle.linear_dict.proofs.SplitLemmas.{Contains-at}
use Rattle.optimal_face.specs.Faces.{IsStill}
use Rattle.first_best.specs.Holding.{held_by}
use Rattle.first_best.proofs.HoldLemmas.{basic_can_not, other_can_not}
use Rattle.first_best.proofs.holding.can_not_move.Goals as goal

pub returns-in-Row : goal.returns-in-Row
returns-in-Row g c = λ told.
    let d = c.args.dict.now in
    let held = held_by d.names c.args.held.now in
    let name = c.in-Row.ensures.1 ∙ c.rank_of-rank.ensures.name in
    basic_can_not d c.requires.sound held c.args.name (subst (Contains d.basics) name (Contains-at d.basics c.in-Row.row c.in-Row.ensures.0))
    (λ v o. subst (λ (b : ℕ). (choice_of d).entry b v ≢ whole (pos 0) → IsStill (system_in d) held v) name (c.is_row_still.ensures told v o))

pub returns-in-Column : goal.returns-in-Column
returns-in-Column g c = λ told.
    let d = c.args.dict.now in
    let held = held_by d.names c.args.held.now in
    let name = c.in-Column.ensures.1 ∙ c.rank_of-rank.ensures.name in
    other_can_not d c.requires.sound held c.args.name (subst (Contains d.others) name (Contains-at d.others c.in-Column.field-0 c.in-Column.ensures.0))
    (subst (IsStill (system_in d) held) c.rank_of-rank.ensures.name (c.is_still.ensures told))
