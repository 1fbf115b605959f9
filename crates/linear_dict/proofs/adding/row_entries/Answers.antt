use Rattle.std.proofs.Common.{◌∙◌, ap, sym, Some, ℕ, List, take}
use Rattle.std.proofs.lemmas.List.{take_all}
use Rattle.std.proofs.lemmas.Option.{slice_get-get_or}
use Rattle.fraction_theory.specs.Sums.{sum_by}
use Rattle.linear_dict.specs.Adding.{row_term}
use Rattle.std.proofs.lemmas.Result.{err_from_is_err_and}
use Rattle.fraction_theory.specs.Fraction.{Fraction}
use Rattle.linear_dict.specs.declared.index.Variable.{Variable}
use Rattle.linear_dict.specs.Causes.{RowShare, TermShare, of_variable}
use Rattle.linear_dict.proofs.CauseLemmas.{refused_as}
use Rattle.linear_dict.proofs.AddingLemmas.{sums_more, sums_same}
use Rattle.linear_dict.proofs.adding.row_entries.Goals as goal

pub add_term-requires-clause-within : goal.add_term-requires-clause-within
add_term-requires-clause-within g c =
    c.requires.within.each c.loop-k.k c.index-variables-k.result (slice_get-get_or c.args.variables.now c.loop-k.k c.index-variables-k.result c.loop-k-test.true ∙ ap Some (sym c.index-variables-k.is))

pub loop-k-preserved : goal.loop-k-preserved
loop-k-preserved g c =
    sums_same g.N.Exact.value c.add_term.new.sums.items c.args.columns _ _ (c.in_ok-add_term.ensures.added _ c.loop-k.invariant)
    (λ k h. sums_more g.N.Exact.value c.args.columns c.args.table.now c.args.entries.now c.args.variables.now c.loop-k.k k c.index-variables-k.result c.loop-k-test.true c.index-variables-k.is)

pub returns-clause-sums : goal.returns-clause-sums
returns-clause-sums g c =
    sums_same g.N.Exact.value c.loop-k.sums.items c.args.columns _ _ c.loop-k.invariant
    (λ k h. ap (sum_by (row_term g.N.Exact.value c.args.columns c.args.table.now c.args.entries.now k)) (take_all c.loop-k.k c.args.variables.now c.loop-k-test.false))

pub returns-in_err-add_term-clause-stops : goal.returns-in_err-add_term-clause-stops
returns-in_err-add_term-clause-stops g c =
    let value = g.N.Exact.value in
    let vs : List (Variable g.row.N.Denot) = c.args.variables.now in
    let table : List g.row.N.Denot = c.args.table.now in
    let entries : List g.row.N.Denot = c.args.entries.now in
    let k : ℕ = c.loop-k.k in
    let v : Variable g.row.N.Denot = c.index-variables-k.result in
    let f : ℕ → Fraction = λ x. sum_by (row_term value c.args.columns table entries x) (take k vs) in
    let p = err_from_is_err_and c.from_residual-in_err-add_term.result c.from_residual-in_err-add_term.ensures.1 in
    rw (p.1, p.2)
    (refused_as value g.N.Exact.bound (TermShare value c.args.columns table entries v f) (RowShare value c.args.columns table entries vs) c.in_err-add_term.field-0.0
    (λ x a b o. of_variable k v x a b (slice_get-get_or vs k v c.loop-k-test.true ∙ ap Some (sym c.index-variables-k.is)) o)
    (c.in_err-add_term.ensures.stops f c.loop-k.invariant))
