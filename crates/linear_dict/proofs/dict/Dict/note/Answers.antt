use Rattle.std.proofs.Common.{◌∙◌, ap, ℕ}
use Rattle.linear_dict.specs.Dictionaries.{note_of}
use Rattle.linear_dict.proofs.dict.Dict.note.Goals as goal

pub returns : goal.returns
returns g c = c.note_at.ensures ∙ ap (λ (w : ℕ). note_of c.args.self.now w) c.rank_of.ensures.name
