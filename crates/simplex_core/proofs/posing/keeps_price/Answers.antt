use Rattle.std.proofs.Common.{◌≡◌, ◌∙◌, ap, inr, sym, subst, slice_index}
use Rattle.std.specs.List.{Contains}
use Rattle.fraction_theory.specs.declared.Sign.TheVariants.{Zero}
use Rattle.fraction_theory.proofs.SignLaws.{sign_of_is}
use Rattle.linear_dict.specs.Dictionaries.{note_of}
use Rattle.linear_dict.specs.Notes.{Noted, noted}
use Rattle.linear_dict.proofs.SplitLemmas.{Contains-at}
use Rattle.simplex_core.proofs.posing.keeps_price.Goals as goal

pub returns-in-Column-Zero-Zero : goal.returns-in-Column-Zero-Zero
returns-in-Column-Zero-Zero g c = λ _.
    let value = g.N.Exact.value in
    let d = c.args.dict.now in
    let is : slice_index d.names c.rank_of-rank.result ≡ slice_index d.columns c.args.column = c.rank_of-rank.ensures.name ∙ c.column_name-name.ensures in
    let note : noted value c.note_at-note.result ≡ note_of d (slice_index d.columns c.args.column) = c.note_at-note.ensures ∙ ap (note_of d) is in
    let place = c.in-Column-Zero-Zero.ensures in
    inr (
      subst (Contains d.others) (place.1 ∙ is) (Contains-at d.others c.in-Column-Zero-Zero.field-0-0 place.0),
      sym (ap Noted.price note) ∙ sign_of_is (value c.note_at-note.result.price) Zero c.in-Column-Zero-Zero.ensures',
      sym (ap Noted.reduced note) ∙ sign_of_is (value c.note_at-note.result.reduced) Zero c.in-Column-Zero-Zero.ensures'',
    )
