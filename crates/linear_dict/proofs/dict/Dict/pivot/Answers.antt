use Rattle.std.proofs.Common.{◌≡◌, false, true, ◌≢◌, ◌∙◌, ℕ, List, pos, arith, ap, sym, subst, subst₂, length, map}
use Rattle.std.proofs.lemmas.List.{length-map, length-set}
use Rattle.std.proofs.lemmas.Result.{err_from_is_err_and}
use mathlib.Core.Path.{ap₂}
use Rattle.std.specs.List.{Contains}
use Rattle.std.specs.List.Sorted.{IsStrictlyIncreasing}
use Rattle.fraction_theory.specs.Fraction.{whole}
use Rattle.linear_dict.specs.declared.index.Variable.{Variable}
use Rattle.linear_dict.specs.Causes.{IsPairOf, IsRefused, PivotShare}
use Rattle.linear_dict.specs.Dictionaries.{Dictionary, pivoted, seen, system_in}
use Rattle.linear_dict.specs.Places.{place_in}
use Rattle.linear_dict.specs.Tables.{cell, table_of, pivoted_cell}
use Rattle.linear_dict.proofs.ExchangeLemmas.{pivot_pair, spent_dictionary}
use Rattle.linear_dict.proofs.MovedLemmas.{pivot_in_code}
use Rattle.linear_dict.proofs.dict.Dict.pivot.Goals as goal

pub rank-leaving_rank-requires-clause-ascending : goal.rank-leaving_rank-requires-clause-ascending
rank-leaving_rank-requires-clause-ascending g c =
    subst IsStrictlyIncreasing (sym (c.deref.ensures.value ∙ c.self.invariant.2)) c.self.invariant.1.ascending

pub returns-in_err-pivot_table-clause-sound : goal.returns-in_err-pivot_table-clause-sound
returns-in_err-pivot_table-clause-sound g c =
    let s = c.self.inside in
    let value = g.N.Exact.value in
    let new : List g.row.N.Denot = c.pivot_table.new.table.items in
    spent_dictionary
    (seen value s.columns.items s.rows.items s.coefficients.items s.others.items s.basics.items s.table.items s.variables.items s.spent)
    (map value new) c.self.invariant.1 (length-map new value ∙ c.pivot_table.ensures.count ∙ sym (length-map s.table.items value))

pub invariant_of-self : goal.invariant_of-self
invariant_of-self g c =
    let s = c.self.inside in
    let value = g.N.Exact.value in
    let new : List g.row.N.Denot = c.pivot_table.new.table.items in (
      c.self.invariant.0,
      spent_dictionary
          (seen value s.columns.items s.rows.items s.coefficients.items s.others.items s.basics.items s.table.items s.variables.items s.spent)
          (map value new) c.self.invariant.1 (length-map new value ∙ c.pivot_table.ensures.count ∙ sym (length-map s.table.items value)),
      c.self.invariant.2,
      Prim.omega (arith, c.self.invariant.3, c.pivot_table.ensures.capacity),
      λ told. let no : false ≡ true = told in absurd Prim.cc,
    )

pub returns-in_err-pivot_table-clause-pair : goal.returns-in_err-pivot_table-clause-pair
returns-in_err-pivot_table-clause-pair g c =
    let s = c.self.inside in
    let value = g.N.Exact.value in
    let e = c.in_err-pivot_table.field-0.0 in
    let lr : length s.basics.items ≡ length c.args.self.now.basics = ap (λ (d : Dictionary). length d.basics) c.self.view_is in
    let lc : length s.others.items ≡ length c.args.self.now.others = ap (λ (d : Dictionary). length d.others) c.self.view_is in
    let rows : c.len.result ≡ length s.basics.items = Prim.omega (arith, c.len.ensures, s.basics.ok.0) in
    let columns : c.len-2.result ≡ length s.others.items = Prim.omega (arith, c.len-2.ensures, s.others.ok.0) in
    let entry : cell (length s.others.items) (map value s.table.items) c.args.r c.args.c ≢ whole (pos 0) = subst (λ (d : Dictionary). cell (length d.others) d.table c.args.r c.args.c ≢ whole (pos 0)) (sym c.self.view_is) c.requires.entry in
    let refused = subst₂ (λ (m n : ℕ). IsRefused value g.N.Exact.bound (PivotShare m n (cell n (map value s.table.items)) c.args.r c.args.c) e) rows columns c.in_err-pivot_table.ensures.stops in
    let p = err_from_is_err_and c.from_residual.result c.from_residual.ensures.1 in
    rw (p.1, p.2)
    (subst (λ (d : Dictionary). IsPairOf value g.N.Exact.bound (system_in d) e) c.self.view_is
    (pivot_pair (seen value s.columns.items s.rows.items s.coefficients.items s.others.items s.basics.items s.table.items s.variables.items s.spent) c.self.invariant.1 c.args.r c.args.c
    (Prim.omega (arith, lr, c.requires.row)) (Prim.omega (arith, lc, c.requires.column)) g.N.Exact.bound (ap (λ (d : Dictionary). d.spent) c.self.view_is ∙ c.requires.live) entry
    e.op (value e.left) (value e.right) refused.x refused.a refused.b refused.asked refused.refused))

pub rank-leaving_rank-requires-clause-named : goal.rank-leaving_rank-requires-clause-named
rank-leaving_rank-requires-clause-named g c =
    let l : length c.self.inside.basics.items ≡ length c.args.self.now.basics = ap (λ (d : Dictionary). length d.basics) c.self.view_is in
    subst (λ (us : List ℕ). Contains us c.index-leaving.result.now) (sym (c.deref.ensures.value ∙ c.self.invariant.2))
    (c.self.invariant.1.split.first_named c.index-leaving.result.now (c.args.r, Prim.omega (arith, l, c.requires.row), sym c.index-leaving.ensures))

pub rank-entering_rank-requires-clause-ascending : goal.rank-entering_rank-requires-clause-ascending
rank-entering_rank-requires-clause-ascending g c =
    subst IsStrictlyIncreasing (sym (c.deref-2.ensures.value ∙ c.self.invariant.2)) c.self.invariant.1.ascending

pub rank-entering_rank-requires-clause-named : goal.rank-entering_rank-requires-clause-named
rank-entering_rank-requires-clause-named g c =
    let l : length c.self.inside.others.items ≡ length c.args.self.now.others = ap (λ (d : Dictionary). length d.others) c.self.view_is in
    subst (λ (us : List ℕ). Contains us c.index-entering.result.now) (sym (c.deref-2.ensures.value ∙ c.self.invariant.2))
    (c.self.invariant.1.split.second_named c.index-entering.result.now (c.args.c, Prim.omega (arith, l, c.requires.column), sym c.index-entering.ensures))

pub invariant_of-self-2 : goal.invariant_of-self-2
invariant_of-self-2 g c =
    let s = c.self.inside in
    let vs : List (Variable g.row.N.Denot) = s.variables.items in
    let lr : length s.basics.items ≡ length c.args.self.now.basics = ap (λ (d : Dictionary). length d.basics) c.self.view_is in
    let lc : length s.others.items ≡ length c.args.self.now.others = ap (λ (d : Dictionary). length d.others) c.self.view_is in
    let rows : c.len.result ≡ length s.basics.items = Prim.omega (arith, c.len.ensures, s.basics.ok.0) in
    let columns : c.len-2.result ≡ length s.others.items = Prim.omega (arith, c.len-2.ensures, s.others.ok.0) in
    let entry : cell (length s.others.items) (map g.N.Exact.value s.table.items) c.args.r c.args.c ≢ whole (pos 0) = subst (λ (d : Dictionary). cell (length d.others) d.table c.args.r c.args.c ≢ whole (pos 0)) (sym c.self.view_is) c.requires.entry in
    let p = pivot_in_code g.N.Exact.value s.columns.items s.rows.items s.coefficients.items s.others.items s.basics.items s.table.items vs s.spent
    c.args.r c.args.c c.index-leaving.result.now c.index-entering.result.now c.rank-leaving_rank.result c.rank-entering_rank.result c.index_mut.result.now c.index_mut-2.result.now c.pivot_table.new.table.items
    c.self.invariant.0 c.self.invariant.1 (ap (λ (d : Dictionary). d.spent) c.self.view_is ∙ c.requires.live)
    (Prim.omega (arith, lr, c.requires.row)) (Prim.omega (arith, lc, c.requires.column)) entry
    c.index-leaving.ensures c.index-entering.ensures
    (c.rank-leaving_rank.ensures.place ∙ ap (λ (us : List ℕ). place_in us c.index-leaving.result.now) (c.deref.ensures.value ∙ c.self.invariant.2))
    (c.rank-entering_rank.ensures.place ∙ ap (λ (us : List ℕ). place_in us c.index-entering.result.now) (c.deref-2.ensures.value ∙ c.self.invariant.2))
    c.index_mut.ensures.value c.index_mut-2.ensures.value
    (c.in_ok-pivot_table.ensures.pivoted
    ∙ ap₂ (λ (m n : ℕ). table_of m n (pivoted_cell (cell n (map g.N.Exact.value s.table.items)) c.args.r c.args.c)) rows columns) in (
      p.0,
      p.2,
      c.self.invariant.2 ∙ sym p.3,
      Prim.omega (arith, c.self.invariant.3, c.pivot_table.ensures.capacity, length-set s.others.items c.args.c c.index-leaving.result.now),
      λ told. let no : false ≡ true = told in absurd Prim.cc,
    )

pub returns-clause-pivoted : goal.returns-clause-pivoted
returns-clause-pivoted g c =
    let s = c.self.inside in
    let vs : List (Variable g.row.N.Denot) = s.variables.items in
    let lr : length s.basics.items ≡ length c.args.self.now.basics = ap (λ (d : Dictionary). length d.basics) c.self.view_is in
    let lc : length s.others.items ≡ length c.args.self.now.others = ap (λ (d : Dictionary). length d.others) c.self.view_is in
    let rows : c.len.result ≡ length s.basics.items = Prim.omega (arith, c.len.ensures, s.basics.ok.0) in
    let columns : c.len-2.result ≡ length s.others.items = Prim.omega (arith, c.len-2.ensures, s.others.ok.0) in
    let entry : cell (length s.others.items) (map g.N.Exact.value s.table.items) c.args.r c.args.c ≢ whole (pos 0) = subst (λ (d : Dictionary). cell (length d.others) d.table c.args.r c.args.c ≢ whole (pos 0)) (sym c.self.view_is) c.requires.entry in
    (pivot_in_code g.N.Exact.value s.columns.items s.rows.items s.coefficients.items s.others.items s.basics.items s.table.items vs s.spent
    c.args.r c.args.c c.index-leaving.result.now c.index-entering.result.now c.rank-leaving_rank.result c.rank-entering_rank.result c.index_mut.result.now c.index_mut-2.result.now c.pivot_table.new.table.items
    c.self.invariant.0 c.self.invariant.1 (ap (λ (d : Dictionary). d.spent) c.self.view_is ∙ c.requires.live)
    (Prim.omega (arith, lr, c.requires.row)) (Prim.omega (arith, lc, c.requires.column)) entry
    c.index-leaving.ensures c.index-entering.ensures
    (c.rank-leaving_rank.ensures.place ∙ ap (λ (us : List ℕ). place_in us c.index-leaving.result.now) (c.deref.ensures.value ∙ c.self.invariant.2))
    (c.rank-entering_rank.ensures.place ∙ ap (λ (us : List ℕ). place_in us c.index-entering.result.now) (c.deref-2.ensures.value ∙ c.self.invariant.2))
    c.index_mut.ensures.value c.index_mut-2.ensures.value
    (c.in_ok-pivot_table.ensures.pivoted
    ∙ ap₂ (λ (m n : ℕ). table_of m n (pivoted_cell (cell n (map g.N.Exact.value s.table.items)) c.args.r c.args.c)) rows columns)).1
    ∙ ap (λ (d : Dictionary). pivoted d c.args.r c.args.c) c.self.view_is

pub returns-clause-sound : goal.returns-clause-sound
returns-clause-sound g c = (invariant_of-self-2 g c).1
