use Rattle.std.proofs.Common.{◌∙◌, ap}
use Rattle.linear_dict.specs.Dictionaries.{Dictionary}
use Rattle.linear_dict.specs.Notes.{noted}
use Rattle.simplex_core.specs.States.{state_of}
use Rattle.simplex_core.proofs.Helping.{reduced_is}
use Rattle.simplex_core.proofs.solving.Solved.reduced.Goals as goal

pub returns : goal.returns
returns g c = reduced_is c.self.inside.dict c.args.var (noted g.N.Exact.value c.note.result) c.note.ensures ∙ ap (λ (d : Dictionary). (state_of d).reduced c.args.var) c.self.view_is
