use Rattle.std.proofs.Common.{◌∙◌, ap}
use Rattle.linear_dict.specs.Dictionaries.{Dictionary}
use Rattle.linear_dict.specs.Notes.{noted}
use Rattle.simplex_core.specs.States.{state_of}
use Rattle.simplex_core.proofs.Helping.{value_is}
use Rattle.simplex_core.proofs.solving.Solved.value.Goals as goal

pub returns : goal.returns
returns g c = value_is c.self.inside.dict c.args.var (noted g.N.Exact.value c.note.result) c.note.ensures ∙ ap (λ (d : Dictionary). (state_of d).value c.args.var) c.self.view_is
