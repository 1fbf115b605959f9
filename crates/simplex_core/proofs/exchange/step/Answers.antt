use Rattle.std.proofs.Common.{◌≡◌, ◌∙◌, ℕ, Bool, arith, ap, sym, subst, subst₂, length, slice_index}
use Rattle.std.proofs.lemmas.Result.{IfOk-equal}
use mathlib.Core.Path.{ap₂}
use Rattle.std.specs.List.{Contains}
use Rattle.fraction_theory.specs.Fraction.{Fraction, ◌-ℚ◌}
use Rattle.linear_dict.specs.Dictionaries.{Dictionary, system_in, entry_of, note_of, pivoted}
use Rattle.linear_dict.specs.Notes.{Noted, noted}
use Rattle.linear_dict.specs.Places.{place_in}
use Rattle.linear_dict.specs.Tables.{cell}
use Rattle.linear_dict.proofs.NameLemmas.{entry_at, place_in-at}
use Rattle.linear_dict.proofs.SplitLemmas.{Contains-at}
use Rattle.simplex_theory.specs.Steps.{violated_bound, displacement}
use Rattle.simplex_core.specs.States.{state_of}
use Rattle.simplex_core.specs.Turns.{moved_note, noted_anew, turned}
use Rattle.simplex_core.proofs.Helping.{value_is}
use Rattle.simplex_core.proofs.StepLemmas.{pivoted_live, pivoted_rows, pivoted_columns, pivoted_entering, pivoted_leaving, bound_is, turned_is}
use Rattle.exact_fraction.specs.declared.Op.TheVariants.{Minus}
use Rattle.std.proofs.lemmas.Result.{err_from_is_err_and}
use Rattle.linear_dict.specs.Causes.{IsRefused, PivotShare}
use Rattle.simplex_core.specs.Fixed.{IsFixedPair}
use Rattle.simplex_core.specs.Operations.{MovesShare}
use Rattle.simplex_core.proofs.Pairs.{pair_by, displace_pair, if_err_as, move_pair, turn_pair}
use Rattle.simplex_core.proofs.TurnLaws.{pivot_not_nil}
use Rattle.simplex_core.proofs.exchange.step.Goals as goal

pub note-note-requires-clause-named : goal.note-note-requires-clause-named
note-note-requires-clause-named g c =
    let d : Dictionary = c.args.dict.now in
    subst (Contains d.names) c.requires.leaving (c.requires.sound.split.first_named (slice_index d.basics c.args.leaving.now.row) (Contains-at d.basics c.args.leaving.now.row c.requires.row))

pub note-price-requires-clause-named : goal.note-price-requires-clause-named
note-price-requires-clause-named g c =
    let d : Dictionary = c.args.dict.now in
    subst (Contains d.names) c.requires.entering (c.requires.sound.split.second_named (slice_index d.others c.args.entering.now.column) (Contains-at d.others c.args.entering.now.column c.requires.column))

pub pivot-requires-clause-entry : goal.pivot-requires-clause-entry
pivot-requires-clause-entry g c = λ e. pivot_not_nil c.args.dict.now c.requires.ready c.args.leaving.now.name c.args.entering.now.name c.args.leaving.now.above c.requires.leaves c.requires.enters
    (sym (entry_at c.args.dict.now c.requires.sound c.args.leaving.now.row c.args.entering.now.column c.requires.row c.requires.column ∙ ap₂ (entry_of c.args.dict.now) c.requires.leaving c.requires.entering) ∙ e)

pub move_notes-requires-clause-live : goal.move_notes-requires-clause-live
move_notes-requires-clause-live g c = ap (λ (x : Dictionary). x.spent) c.in_ok-pivot.ensures.pivoted ∙ pivoted_live c.args.dict.now c.args.leaving.now.row c.args.entering.now.column ∙ c.requires.live

pub move_notes-requires-clause-row : goal.move_notes-requires-clause-row
move_notes-requires-clause-row g c =
    Prim.omega (arith, c.requires.row, ap (λ (x : Dictionary). length x.basics) c.in_ok-pivot.ensures.pivoted, pivoted_rows c.args.dict.now c.args.leaving.now.row c.args.entering.now.column)

pub move_notes-requires-clause-entering : goal.move_notes-requires-clause-entering
move_notes-requires-clause-entering g c =
    ap (λ (x : Dictionary). slice_index x.basics c.args.leaving.now.row) c.in_ok-pivot.ensures.pivoted
    ∙ pivoted_entering c.args.dict.now c.args.leaving.now.row c.args.entering.now.column c.requires.row ∙ c.requires.entering

pub move_notes-requires-clause-column : goal.move_notes-requires-clause-column
move_notes-requires-clause-column g c =
    Prim.omega (arith, c.requires.column, ap (λ (x : Dictionary). length x.others) c.in_ok-pivot.ensures.pivoted, pivoted_columns c.args.dict.now c.args.leaving.now.row c.args.entering.now.column)

pub move_notes-requires-clause-leaving : goal.move_notes-requires-clause-leaving
move_notes-requires-clause-leaving g c =
    ap (λ (x : Dictionary). slice_index x.others c.args.entering.now.column) c.in_ok-pivot.ensures.pivoted
    ∙ pivoted_leaving c.args.dict.now c.args.leaving.now.row c.args.entering.now.column c.requires.column ∙ c.requires.leaving

pub returns-clause-turned : goal.returns-clause-turned
unfolding displacement
returns-clause-turned g c =
    let value = g.N.Exact.value in
    let d : Dictionary = c.args.dict.now in
    let v : ℕ = c.args.leaving.now.name in
    let k : ℕ = c.args.entering.now.name in
    let a : Bool = c.args.leaving.now.above in
    let n : Noted = noted value c.note-note.result in
    let is : n ≡ note_of d v = c.note-note.ensures in
    let bound : value c.bound_on-bound.result ≡ violated_bound (system_in d) v a = bound_is value d v c.note-note.result a c.bound_on-bound.result is c.bound_on-bound.ensures in
    let far : value c.in_ok-displacement.displacement ≡ displacement (system_in d) (state_of d) v a = c.in_ok-displacement.ensures.exact ∙ ap₂ (λ (x y : Fraction). x -ℚ y) bound (value_is d v n is) in
    IfOk-equal c.move_notes.result c.move_notes.new.dict
    (noted_anew c.pivot.new.self (moved_note c.pivot.new.self v k a (value c.bound_on-bound.result) (value c.in_ok-displacement.displacement) (value c.note-price.result.reduced))) (turned d v k a)
    c.move_notes.ensures.notes
    (ap (λ (x : Dictionary). noted_anew x (moved_note x v k a (value c.bound_on-bound.result) (value c.in_ok-displacement.displacement) (value c.note-price.result.reduced))) c.in_ok-pivot.ensures.pivoted
    ∙ turned_is d c.args.leaving.now.row c.args.entering.now.column c.requires.sound v k a (value c.bound_on-bound.result) (value c.in_ok-displacement.displacement) (value c.note-price.result.reduced)
    c.requires.row c.requires.leaving c.requires.column c.requires.entering bound far (ap Noted.reduced c.note-price.ensures))

pub returns-in_err-displacement-clause-pair : goal.returns-in_err-displacement-clause-pair
returns-in_err-displacement-clause-pair g c =
    let value = g.N.Exact.value in
    let d : Dictionary = c.args.dict.now in
    let v : ℕ = c.args.leaving.now.name in
    let k : ℕ = c.args.entering.now.name in
    let a : Bool = c.args.leaving.now.above in
    let n : Noted = noted value c.note-note.result in
    let is : n ≡ note_of d v = c.note-note.ensures in
    let bound : value c.bound_on-bound.result ≡ violated_bound (system_in d) v a = bound_is value d v c.note-note.result a c.bound_on-bound.result is c.bound_on-bound.ensures in
    let p = err_from_is_err_and c.from_residual.result c.from_residual.ensures.1 in
    rw (p.1, p.2)
    (pair_by value g.N.Exact.bound d Minus c.bound_on-bound.result c.note-note.result.value c.in_err-displacement.field-0.0 (violated_bound (system_in d) v a) (note_of d v).value
    c.in_err-displacement.ensures bound (ap Noted.value is) (displace_pair d c.requires.ready g.N.Exact.bound v a c.requires.leaves))

pub returns-in_err-pivot-clause-pair : goal.returns-in_err-pivot-clause-pair
returns-in_err-pivot-clause-pair g c =
    let value = g.N.Exact.value in
    let d : Dictionary = c.args.dict.now in
    let v : ℕ = c.args.leaving.now.name in
    let k : ℕ = c.args.entering.now.name in
    let e = c.in_err-pivot.field-0.0 in
    let r = c.in_err-pivot.ensures.stops in
    let row : c.args.leaving.now.row ≡ place_in d.basics v = sym (place_in-at d.basics c.args.leaving.now.row v c.requires.sound.split.first_distinct c.requires.row c.requires.leaving) in
    let column : c.args.entering.now.column ≡ place_in d.others k = sym (place_in-at d.others c.args.entering.now.column k c.requires.sound.split.second_distinct c.requires.column c.requires.entering) in
    let p = err_from_is_err_and c.from_residual-in_err-pivot.result c.from_residual-in_err-pivot.ensures.1 in
    rw (p.1, p.2)
    (turn_pair d c.requires.ready v k c.args.leaving.now.above c.requires.leaves c.requires.enters g.N.Exact.bound e.op (value e.left) (value e.right) r.x r.a r.b
    (subst₂ (λ (i j : ℕ). PivotShare (length d.basics) (length d.others) (cell (length d.others) d.table) i j r.x r.a r.b) row column r.asked) r.refused)

pub returns-clause-pair : goal.returns-clause-pair
unfolding displacement
returns-clause-pair g c =
    let value = g.N.Exact.value in
    let d : Dictionary = c.args.dict.now in
    let v : ℕ = c.args.leaving.now.name in
    let k : ℕ = c.args.entering.now.name in
    let a : Bool = c.args.leaving.now.above in
    let n : Noted = noted value c.note-note.result in
    let is : n ≡ note_of d v = c.note-note.ensures in
    let bound : value c.bound_on-bound.result ≡ violated_bound (system_in d) v a = bound_is value d v c.note-note.result a c.bound_on-bound.result is c.bound_on-bound.ensures in
    let far : value c.in_ok-displacement.displacement ≡ displacement (system_in d) (state_of d) v a = c.in_ok-displacement.ensures.exact ∙ ap₂ (λ (x y : Fraction). x -ℚ y) bound (value_is d v n is) in
    let price : value c.note-price.result.reduced ≡ (note_of d k).reduced = ap Noted.reduced c.note-price.ensures in
    let pivot : c.pivot.new.self ≡ pivoted d (place_in d.basics v) (place_in d.others k) =
    c.in_ok-pivot.ensures.pivoted
    ∙ ap₂ (pivoted d) (sym (place_in-at d.basics c.args.leaving.now.row v c.requires.sound.split.first_distinct c.requires.row c.requires.leaving))
    (sym (place_in-at d.others c.args.entering.now.column k c.requires.sound.split.second_distinct c.requires.column c.requires.entering)) in
    if_err_as (IsRefused value g.N.Exact.bound (MovesShare c.pivot.new.self v k (value c.in_ok-displacement.displacement) (value c.note-price.result.reduced))) (IsFixedPair value g.N.Exact.bound d) c.move_notes.result
    (λ e r.
    move_pair d c.requires.ready v k a c.requires.leaves c.requires.enters g.N.Exact.bound e.op (value e.left) (value e.right) r.x r.a r.b
    (subst (λ (x : Dictionary). MovesShare x v k (displacement (system_in d) (state_of d) v a) (note_of d k).reduced r.x r.a r.b) pivot
    (subst₂ (λ (x y : Fraction). MovesShare c.pivot.new.self v k x y r.x r.a r.b) far price r.asked)) r.refused)
    c.move_notes.ensures.stops
