use Rattle.std.proofs.Common.{◌≡◌, ◌∙◌, ap, sym}
use Rattle.linear_dict.specs.Dictionaries.{note_of}
use Rattle.linear_dict.specs.Notes.{Noted, noted}
use Rattle.first_best.specs.Holding.{held_by}
use Rattle.first_best.proofs.HoldLemmas.{held-at, high-held, low-held}
use Rattle.first_best.proofs.holding.bounds_of.Goals as goal

pub returns-clause-low : goal.returns-clause-low
returns-clause-low g c = λ price.
    let d = c.args.dict.now in
    let value = g.N.Exact.value in
    let r = c.note_at.result in
    let note : noted value r ≡ note_of d c.args.name = c.note_at.ensures ∙ ap (note_of d) c.rank_of-rank.ensures.name in
    low-held value d (held_by d.names c.args.held.now) price c.args.name r.low r.high (ap Noted.low note) (ap Noted.high note) c.held_bounds.result.low c.hold_at.result
    (c.hold_at.ensures ∙ sym (held-at d c.requires.sound c.args.held.now c.rank_of-rank.result c.args.name c.rank_of-rank.ensures.within c.rank_of-rank.ensures.name)) c.held_bounds.ensures.low

pub returns-clause-high : goal.returns-clause-high
returns-clause-high g c = λ price.
    let d = c.args.dict.now in
    let value = g.N.Exact.value in
    let r = c.note_at.result in
    let note : noted value r ≡ note_of d c.args.name = c.note_at.ensures ∙ ap (note_of d) c.rank_of-rank.ensures.name in
    high-held value d (held_by d.names c.args.held.now) price c.args.name r.low r.high (ap Noted.low note) (ap Noted.high note) c.held_bounds.result.high c.hold_at.result
    (c.hold_at.ensures ∙ sym (held-at d c.requires.sound c.args.held.now c.rank_of-rank.result c.args.name c.rank_of-rank.ensures.within c.rank_of-rank.ensures.name)) c.held_bounds.ensures.high
