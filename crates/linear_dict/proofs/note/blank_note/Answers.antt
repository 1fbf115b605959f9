use Rattle.linear_dict.proofs.StartLemmas.{blank_note}
use Rattle.linear_dict.proofs.note.blank_note.Goals as goal

pub returns : goal.returns
returns g c = blank_note g.N.Exact.value c.of_parts-zero.result c.of_parts-zero.ensures
