use Rattle.std.proofs.Common.{◌≡◌, ◌∙◌, ℕ, List, arith, ap, ap₂, map, pos, subst, sym, slice_index, slice_index_or, true}
use Rattle.std.specs.List.{Contains}
use Rattle.fraction_theory.specs.Fraction.{Fraction, whole}
use Rattle.linear_dict.specs.Dictionaries.{Dictionary}
use Rattle.linear_dict.specs.Notes.{Noted}
use Rattle.linear_dict.specs.Places.{place_in}
use Rattle.linear_dict.proofs.NameLemmas.{place_in-at}
use Rattle.linear_dict.proofs.SplitLemmas.{Contains-at}
use Rattle.first_best.proofs.HoldLemmas.{read_of}
use Rattle.first_best.proofs.RaiseLemmas.{raised-basic, raised-here, raised-staying}
use Rattle.first_best.proofs.raising.note_raised.Goals as goal

with_value : Noted → Fraction → Noted
with_value n x = record n { value = x }

at_its_high : Noted → Noted
at_its_high n = record n { value = n.high; at_high = true }

pub returns-in-Row : goal.returns-in-Row
unfolding with_value
returns-in-Row g c =
    let value = g.N.Exact.value in
    let d : Dictionary = c.args.dict.now in
    let name : ℕ = slice_index d.names c.args.rank in
    let k : ℕ = c.in-Row.row in
    let values : List Fraction = map value c.args.values.now in
    let at : place_in d.basics name ≡ k = place_in-at d.basics k name c.requires.sound.split.first_distinct c.in-Row.ensures.0 c.in-Row.ensures.1 in
    let read : value c.index-values-row.result ≡ slice_index_or values (place_in d.basics name) (whole (pos 0)) =
    read_of value c.args.values.now k c.index-values-row.result (whole (pos 0)) (Prim.omega (arith, c.in-Row.ensures.0, c.requires.values)) c.index-values-row.is
    ∙ ap (λ (i : ℕ). slice_index_or values i (whole (pos 0))) (sym at) in
    ap₂ with_value c.note_at-note.ensures read
    ∙ sym (raised-basic d c.requires.sound c.args.name values name (subst (Contains d.basics) c.in-Row.ensures.1 (Contains-at d.basics k c.in-Row.ensures.0)))

pub returns-then-ranked-name : goal.returns-then-ranked-name
unfolding at_its_high
returns-then-ranked-name g c =
    let d : Dictionary = c.args.dict.now in
    let name : ℕ = slice_index d.names c.args.rank in
    ap at_its_high c.note_at-note.ensures
    ∙ sym (raised-here d c.requires.sound c.args.name (map g.N.Exact.value c.args.values.now) name
    (subst (Contains d.others) c.in-Column.ensures.1 (Contains-at d.others c.in-Column.field-0 c.in-Column.ensures.0)) (sym c.ranked.ensures ∙ c.if-ranked-name.true))

pub returns-else-ranked-name : goal.returns-else-ranked-name
returns-else-ranked-name g c =
    let d : Dictionary = c.args.dict.now in
    let name : ℕ = slice_index d.names c.args.rank in
    c.note_at-note.ensures
    ∙ sym (raised-staying d c.requires.sound c.args.name (map g.N.Exact.value c.args.values.now) name
    (subst (Contains d.others) c.in-Column.ensures.1 (Contains-at d.others c.in-Column.field-0 c.in-Column.ensures.0)) (λ q. c.if-ranked-name.false (c.ranked.ensures ∙ q)))
