use Rattle.std.proofs.Common.{rules, ◌∙◌, subst}
use Rattle.std.specs.List.{Contains}
use Rattle.linear_dict.specs.Dictionaries.{Dictionary}
use Rattle.linear_dict.proofs.SplitLemmas.{Contains-at}
use Rattle.first_best.proofs.RaiseLemmas.{held_high, same_high}
use Rattle.first_best.proofs.raising.hold_high.Goals as goal

pub returns-clause-same : goal.returns-clause-same
returns-clause-same g c =
    let d : Dictionary = c.args.dict.now in
    let f = c.requires.face in
    let name = c.rank_of-rank.ensures.name in
    let some = c.in-Some.ensures in
    same_high d c.raise.new.dict f.0 c.args.held.now c.rank_of-rank.result c.args.name f.1 c.rank_of-rank.ensures.within name
    (subst (Contains d.others) (some.name ∙ name) (Contains-at d.others c.in-Some.column some.column)) some.within some.free (c.in_ok-raise.ensures.high (Prim.search rules))

pub returns-clause-face : goal.returns-clause-face
returns-clause-face g c = λ names face.
    let d : Dictionary = c.args.dict.now in
    let name = c.rank_of-rank.ensures.name in
    let some = c.in-Some.ensures in
    held_high d c.raise.new.dict names c.args.held.now c.rank_of-rank.result c.args.name face c.rank_of-rank.ensures.within name
    (subst (Contains d.others) (some.name ∙ name) (Contains-at d.others c.in-Some.column some.column)) some.within some.free (c.in_ok-raise.ensures.high (Prim.search rules))
