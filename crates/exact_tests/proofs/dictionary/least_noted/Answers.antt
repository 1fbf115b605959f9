use Rattle.std.proofs.Common.{◌≡◌, ◌∙◌, arith, ap, length, sym}
use Rattle.linear_dict.specs.Dictionaries.{Dictionary, with_note}
use Rattle.exact_tests.proofs.dictionary.least_noted.Goals as goal

pub note_at-requires-clause-live : goal.note_at-requires-clause-live
unfolding with_note
note_at-requires-clause-live g c = ap (λ (d : Dictionary). d.spent) c.set_note.ensures ∙ sym c.spent.ensures.answer ∙ c.if-spent.false

pub note_at-requires-clause-within : goal.note_at-requires-clause-within
unfolding with_note
note_at-requires-clause-within g c =
    let same : length c.set_note.new.self.names ≡ length c.args.dict.now.names = ap (λ (d : Dictionary). length d.names) c.set_note.ensures in
    Prim.omega (arith, same, c.name_count.ensures, c.if-name_count-eq0.false)

pub set_note_at-requires-clause-live : goal.set_note_at-requires-clause-live
unfolding with_note
set_note_at-requires-clause-live g c = ap (λ (d : Dictionary). d.spent) c.set_note.ensures ∙ sym c.spent.ensures.answer ∙ c.if-spent.false

pub set_note_at-requires-clause-within : goal.set_note_at-requires-clause-within
unfolding with_note
set_note_at-requires-clause-within g c =
    let same : length c.set_note.new.self.names ≡ length c.args.dict.now.names = ap (λ (d : Dictionary). length d.names) c.set_note.ensures in
    Prim.omega (arith, same, c.name_count.ensures, c.if-name_count-eq0.false)

pub note_at-read-requires-clause-live : goal.note_at-read-requires-clause-live
unfolding with_note
note_at-read-requires-clause-live g c =
    ap (λ (d : Dictionary). d.spent) c.set_note_at.ensures ∙ ap (λ (d : Dictionary). d.spent) c.set_note.ensures ∙ sym c.spent.ensures.answer ∙ c.if-spent.false

pub note_at-read-requires-clause-within : goal.note_at-read-requires-clause-within
unfolding with_note
note_at-read-requires-clause-within g c =
    let once : length c.set_note.new.self.names ≡ length c.args.dict.now.names = ap (λ (d : Dictionary). length d.names) c.set_note.ensures in
    let twice : length c.set_note_at.new.self.names ≡ length c.set_note.new.self.names = ap (λ (d : Dictionary). length d.names) c.set_note_at.ensures in
    Prim.omega (arith, once, twice, c.name_count.ensures, c.if-name_count-eq0.false)
