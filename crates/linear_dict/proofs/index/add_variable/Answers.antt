use Rattle.std.proofs.Common.{◌≡◌, ◌∙◌, Err, List, ℕ, ap, map, subst, sym}
use Rattle.std.specs.List.{insert}
use Rattle.std.specs.List.Sorted.{IsBinarySearchResult}
use Rattle.std.specs.Ordering.{nat_cmp}
use Rattle.linear_dict.specs.declared.index.Variable.{Variable}
use Rattle.linear_dict.specs.Indexes.{name_of, AddsVariable}
use Rattle.linear_dict.proofs.IndexLemmas.{adds_here, map-insert}
use Rattle.linear_dict.proofs.NameLemmas.{found}
use Rattle.linear_dict.proofs.index.add_variable.Goals as goal

pub returns-in-Ok-insert-2-clause-added : goal.returns-in-Ok-insert-2-clause-added
returns-in-Ok-insert-2-clause-added g c =
    let vs : List (Variable g.row.N.Denot) = c.args.variables.now.items in
    let name : ℕ = c.args.variable.name in
    let rank : ℕ = c.in-Err-binary_search.rank in
    let names : c.deref.result.now ≡ map name_of vs = c.deref.ensures.value ∙ c.in-Ok.ensures.items ∙ c.requires.named in
    let h = found (map name_of vs) name (Err rank) (subst (λ (ns : List ℕ). IsBinarySearchResult (λ y. nat_cmp y name) ns (Err rank)) names c.in-Err-binary_search.ensures.position) c.requires.ascending in
    subst (λ (ws : List (Variable g.row.N.Denot)). AddsVariable vs c.args.variable ws) (sym c.in-Ok-insert.ensures.items)
    (adds_here vs c.args.variable rank c.requires.ascending h.0 h.1 h.2)

pub returns-in-Ok-insert-2-clause-named : goal.returns-in-Ok-insert-2-clause-named
returns-in-Ok-insert-2-clause-named g c =
    let vs : List (Variable g.row.N.Denot) = c.args.variables.now.items in
    let rank : ℕ = c.in-Err-binary_search.rank in
    c.in-Ok-insert-2.ensures.items
    ∙ ap (λ (ns : List ℕ). insert ns rank c.args.variable.name) (c.in-Ok.ensures.items ∙ c.requires.named)
    ∙ sym (map-insert name_of vs rank c.args.variable)
    ∙ sym (ap (map name_of) c.in-Ok-insert.ensures.items)
