use Rattle.std.proofs.Common.{◌≡◌, ◌∙◌, ℕ, List, ap, arith, length, subst, sym, get_or}
use Rattle.std.specs.List.{Contains}
use Rattle.std.specs.List.Sorted.{IsStrictlyIncreasing}
use Rattle.linear_dict.specs.Dictionaries.{Dictionary}
use Rattle.linear_dict.specs.Places.{place_in}
use Rattle.linear_dict.proofs.NameLemmas.{place_in-within}
use Rattle.linear_dict.proofs.dict.Dict.rank_of.Goals as goal

pub rank-requires-clause-ascending : goal.rank-requires-clause-ascending
rank-requires-clause-ascending g c = subst IsStrictlyIncreasing (sym (c.deref.ensures.value ∙ c.self.invariant.2)) c.self.invariant.1.ascending

pub rank-requires-clause-named : goal.rank-requires-clause-named
rank-requires-clause-named g c =
    subst (λ (ns : List ℕ). Contains ns c.args.name) (sym (c.deref.ensures.value ∙ c.self.invariant.2 ∙ ap (λ (d : Dictionary). d.names) c.self.view_is)) c.requires.named

pub returns-clause-within : goal.returns-clause-within
returns-clause-within g c =
    let e : c.deref.result.now ≡ c.args.self.now.names = c.deref.ensures.value ∙ c.self.invariant.2 ∙ ap (λ (d : Dictionary). d.names) c.self.view_is in
    let l : length c.deref.result.now ≡ length c.args.self.now.names = ap length e in
    Prim.omega (arith, c.rank.ensures.within, l)

pub returns-clause-name : goal.returns-clause-name
returns-clause-name g c =
    let e : c.deref.result.now ≡ c.args.self.now.names = c.deref.ensures.value ∙ c.self.invariant.2 ∙ ap (λ (d : Dictionary). d.names) c.self.view_is in
    let at : c.rank.result ≡ place_in c.args.self.now.names c.args.name = c.rank.ensures.place ∙ ap (λ (ns : List ℕ). place_in ns c.args.name) e in
    ap (λ (k : ℕ). get_or c.args.self.now.names k 0) at ∙ (place_in-within c.args.self.now.names c.args.name c.requires.named).1
