use Rattle.std.proofs.Common.{◌<◌, ℕ, List, ap, arith, length, subst, sym, get_or}
use Rattle.std.proofs.lemmas.List.{length-map}
use Rattle.linear_dict.specs.Dictionaries.{Dictionary}
use Rattle.linear_dict.specs.Indexes.{name_of}
use Rattle.linear_dict.specs.Places.{StandsAt}
use Rattle.linear_dict.specs.declared.index.Variable.{Variable}
use Rattle.linear_dict.proofs.IndexLemmas.{index_read}
use Rattle.linear_dict.proofs.dict.Dict.place_at.Goals as goal

pub returns : goal.returns
returns g c =
    let s = c.self.inside in
    let vs : List (Variable g.row.N.Denot) = s.variables.items in
    let l = ap (λ (d : Dictionary). length d.names) c.self.view_is in
    let below : c.args.rank < length vs = Prim.omega (arith, l, length-map vs (name_of {N = g.row.N.Denot}), c.requires.within) in
    let r = index_read vs c.args.rank c.index.result.now below c.index.ensures in
    subst (λ (d : Dictionary). StandsAt d.basics d.others (get_or d.names c.args.rank 0) c.index.result.now.place) c.self.view_is
    (subst (λ (w : ℕ). StandsAt s.basics.items s.others.items w c.index.result.now.place) (sym r.1)
    (c.self.invariant.0.stands c.args.rank c.index.result.now r.0))
