use Rattle.std.proofs.Common.{◌≡◌, ◌∙◌, ℕ, List, ap, map, slice_index, subst₂, sym}
use Rattle.fraction_theory.specs.Fraction.{Fraction, ◌-ℚ◌}
use Rattle.linear_dict.specs.Dictionaries.{Dictionary, note_of}
use Rattle.linear_dict.specs.Notes.{Noted, noted}
use Rattle.simplex_core.specs.Turns.{noted_anew}
use Rattle.first_best.specs.Raising.{AreRaised, as_raised, raised_note}
use Rattle.first_best.proofs.raising.raise.Goals as goal

pub returns-in-Some-clause-high : goal.returns-in-Some-clause-high
returns-in-Some-clause-high g c = λ _.
    let value = g.N.Exact.value in
    let d : Dictionary = c.args.dict.now in
    let j : ℕ = c.args.name in
    let values : List Fraction = map value c.in-Some.values.items in
    let note : noted value c.note-note.result ≡ note_of d j = c.note-note.ensures in
    let by : value c.in-Ok.by ≡ (note_of d j).high -ℚ (note_of d j).low = c.in-Ok.ensures.exact ∙ ap (λ (n : Noted). n.high -ℚ n.low) note in
    let are : AreRaised d (slice_index d.others c.args.column) (value c.in-Ok.by) d.basics values = (rw c.in-Some.is at c.in_ok-values.ensures) in
    as_raised values (sym (ap Noted.at_high note) ∙ c.if-note.false)
    (subst₂ (λ (w : ℕ) (x : Fraction). AreRaised d w x d.basics values) c.requires.name by are)
    (c.put_raised.ensures ∙ ap (λ (xs : List g.row.N.Denot). noted_anew d (raised_note d j (map value xs))) c.deref.ensures.value)
