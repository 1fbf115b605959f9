use Rattle.std.proofs.Common.{◌<◌, ◌∙◌, List, ap, arith, length, get_or}
use Rattle.std.proofs.lemmas.List.{length-map}
use Rattle.linear_dict.specs.Dictionaries.{Dictionary, note_of}
use Rattle.linear_dict.specs.Indexes.{name_of}
use Rattle.linear_dict.specs.declared.index.Variable.{Variable}
use Rattle.linear_dict.proofs.IndexLemmas.{note_read}
use Rattle.linear_dict.proofs.dict.Dict.note_at.Goals as goal

pub returns : goal.returns
unfolding note_of
returns g c =
    let vs : List (Variable g.row.N.Denot) = c.self.inside.variables.items in
    let l = ap (λ (d : Dictionary). length d.names) c.self.view_is in
    let below : c.args.rank < length vs = Prim.omega (arith, l, length-map vs (name_of {N = g.row.N.Denot}), c.requires.within) in
    note_read g.N.Exact.value vs c.args.rank c.index.result.now below c.index.ensures c.self.invariant.1.ascending
    ∙ ap (λ (d : Dictionary). note_of d (get_or d.names c.args.rank 0)) c.self.view_is
