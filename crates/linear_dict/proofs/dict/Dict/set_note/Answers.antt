use Rattle.std.proofs.Common.{◌∙◌, ap, ℕ}
use Rattle.linear_dict.specs.Dictionaries.{with_note}
use Rattle.linear_dict.specs.Notes.{noted}
use Rattle.linear_dict.proofs.dict.Dict.set_note.Goals as goal

pub returns : goal.returns
returns g c = c.set_note_at.ensures ∙ ap (λ (w : ℕ). with_note c.args.self.now w (noted g.N.Exact.value c.args.note)) c.rank_of-rank.ensures.name
