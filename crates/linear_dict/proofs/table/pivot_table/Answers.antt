use Rattle.std.proofs.Common.{◌≡◌, ◌+◌, ◌∙◌, ℕ, List, Vec, Global, length, map, subst, sym, arith, refl}
use Rattle.fraction_theory.specs.Fraction.{Fraction}
use Rattle.std.proofs.lemmas.Result.{err_from_is_err_and}
use Rattle.std.specs.Vec.{vec_capacity}
use Rattle.linear_dict.specs.Causes.{ClearShare, PivotShare, SolveShare}
use Rattle.linear_dict.proofs.CauseLemmas.{clear_of_pivot, refused_as, solve_of_pivot}
use Rattle.linear_dict.specs.Changes.{AreChanges, place_of}
use Rattle.linear_dict.specs.Tables.{cell, pivoted_cell, pivoted_row, Shows}
use Rattle.linear_dict.specs.declared.changes.Change.{Change}
use Rattle.linear_dict.proofs.ChangeLemmas.{changes_same}
use Rattle.linear_dict.proofs.TableLemmas.{shows_is}
use Rattle.linear_dict.proofs.PivotLemmas.{pivoting-solved, pivoting-yet, pivoting, pivoting_start, pivoting_step, pivoting_skip, pivoting_end}
use Rattle.linear_dict.proofs.table.pivot_table.Goals as goal
use Rattle.linear_dict.proofs.table.pivot_table.Goals.{then-i-row+in_ok-clear_row, else-i-row}

pub loop-i-init : goal.loop-i-init
loop-i-init g c =
    let value : g.row.N.Denot → Fraction = g.N.Exact.value in
    let f : ℕ → ℕ → Fraction = cell c.args.columns (map value c.args.table.now.items) in
    let solved = pivoting_start f c.args.row c.args.column c.args.rows c.args.columns (map value c.solve_row.new.table.items) (c.in_ok-solve_row.ensures.solved c.args.rows c.requires.size) in
    let listed = subst (λ (xs : List g.row.N.Denot). AreChanges c.args.columns c.args.column (cell c.args.columns (map value xs) c.args.row) (map place_of c.list_changes.new.changes.items)) c.deref.ensures.value
    c.list_changes.ensures.listed in (
      c.solve_row.ensures.count,
      solved,
      changes_same c.args.columns c.args.column (cell c.args.columns (map value c.solve_row.new.table.items) c.args.row) (pivoted_row f c.args.row c.args.column) (map place_of c.list_changes.new.changes.items)
          (λ j hj. solved.at c.args.row j c.requires.row hj ∙ pivoting-solved f c.args.row c.args.column 0 c.args.row j refl) listed,
      c.list_changes.ensures.capacity,
    )

pub clear_row-requires-clause-listed : goal.clear_row-requires-clause-listed
clear_row-requires-clause-listed g c =
    let value : g.row.N.Denot → Fraction = g.N.Exact.value in
    let f : ℕ → ℕ → Fraction = cell c.args.columns (map value c.args.table.now.items) in
    changes_same c.args.columns c.args.column (pivoted_row f c.args.row c.args.column) (cell c.args.columns (map value c.loop-i.table.items) c.args.row) (map place_of c.loop-i.changes.items)
    (λ j hj. sym (c.loop-i.invariant.1.at c.args.row j c.requires.row hj ∙ pivoting-solved f c.args.row c.args.column c.loop-i.i c.args.row j refl)) c.loop-i.invariant.2

pub loop-i-preserved : goal.loop-i-preserved
loop-i-preserved g c =
    let value : g.row.N.Denot → Fraction = g.N.Exact.value in
    let old : List g.row.N.Denot = c.args.table.now.items in
    let cur : List g.row.N.Denot = c.loop-i.table.items in
    let f : ℕ → ℕ → Fraction = cell c.args.columns (map value old) in
    let Kept : Vec (Change g.row.N.Denot) Global → Type 0 =
    λ t. AreChanges c.args.columns c.args.column (pivoted_row f c.args.row c.args.column) (map place_of t.items) × (vec_capacity t ≡ vec_capacity c.args.changes.now) in
    let Done : Vec g.row.N.Denot Global → Type 0 = λ t. (length t.items ≡ length old) × Shows c.args.rows c.args.columns (map value t.items) (pivoting f c.args.row c.args.column (c.loop-i.i + 1)) in
    elim c.if-i-row.branch [
      | then-i-row+in_ok-clear_row w ↦
          let done = subst Done (sym w.table-is) (
            w.clear_row.ensures.count ∙ c.loop-i.invariant.0,
            pivoting_step f c.args.row c.args.column c.args.rows c.args.columns (map value cur) c.loop-i.i (map value w.clear_row.new.table.items) c.loop-i.invariant.1
                (w.in_ok-clear_row.ensures.cleared c.args.rows (c.loop-i.invariant.0 ∙ c.requires.size)) w.if-i-row.true c.loop-i-test.true c.requires.row c.requires.within,
          ) in
          let kept = subst Kept (sym w.changes-is) (
            subst (AreChanges c.args.columns c.args.column (pivoted_row f c.args.row c.args.column)) (sym w.clear_row.ensures.places) c.loop-i.invariant.2,
            w.clear_row.ensures.capacity ∙ c.loop-i.invariant.3,
          ) in
          (done.0, done.1, kept.0, kept.1)
      | else-i-row w ↦
          let done = subst Done (sym w.table-is)
          (c.loop-i.invariant.0, pivoting_skip f c.args.row c.args.column c.args.rows c.args.columns (map value cur) c.loop-i.i c.loop-i.invariant.1 w.if-i-row.false) in
          let kept = subst Kept (sym w.changes-is) (c.loop-i.invariant.2, c.loop-i.invariant.3) in
          (done.0, done.1, kept.0, kept.1)
    ]

pub returns-clause-pivoted : goal.returns-clause-pivoted
returns-clause-pivoted g c =
    let f : ℕ → ℕ → Fraction = cell c.args.columns (map g.N.Exact.value c.args.table.now.items) in
    shows_is c.args.rows c.args.columns (map g.N.Exact.value c.loop-i.table.items) (pivoted_cell f c.args.row c.args.column)
    (pivoting_end f c.args.row c.args.column c.args.rows c.args.columns (map g.N.Exact.value c.loop-i.table.items) c.loop-i.i c.loop-i.invariant.1 c.loop-i-test.false)

pub returns-in_err-solve_row-clause-stops : goal.returns-in_err-solve_row-clause-stops
returns-in_err-solve_row-clause-stops g c =
    let value : g.row.N.Denot → Fraction = g.N.Exact.value in
    let f : ℕ → ℕ → Fraction = cell c.args.columns (map value c.args.table.now.items) in
    let p = err_from_is_err_and c.from_residual.result c.from_residual.ensures.1 in
    rw (p.1, p.2)
    (refused_as value g.N.Exact.bound (SolveShare c.args.columns f c.args.row c.args.column) (PivotShare c.args.rows c.args.columns f c.args.row c.args.column) c.in_err-solve_row.field-0.0
    (solve_of_pivot c.args.rows c.args.columns f c.args.row c.args.column) (c.in_err-solve_row.ensures.stops c.args.rows c.requires.size))

pub returns-in_err-clear_row-clause-stops : goal.returns-in_err-clear_row-clause-stops
returns-in_err-clear_row-clause-stops g c =
    let value : g.row.N.Denot → Fraction = g.N.Exact.value in
    let f : ℕ → ℕ → Fraction = cell c.args.columns (map value c.args.table.now.items) in
    let cur : ℕ → ℕ → Fraction = cell c.args.columns (map value c.loop-i.table.items) in
    let i : ℕ = c.loop-i.i in
    let s = c.loop-i.invariant.1 in
    let p = err_from_is_err_and c.from_residual-in_err-clear_row.result c.from_residual-in_err-clear_row.ensures.1 in
    rw (p.1, p.2)
    (refused_as value g.N.Exact.bound (ClearShare c.args.columns cur i c.args.row c.args.column) (PivotShare c.args.rows c.args.columns f c.args.row c.args.column) c.in_err-clear_row.field-0.0
    (clear_of_pivot c.args.rows c.args.columns f cur i c.args.row c.args.column c.loop-i-test.true c.if-i-row.true c.requires.within
    (λ j hj. s.at i j c.loop-i-test.true hj ∙ pivoting-yet f c.args.row c.args.column i i j c.if-i-row.true (Prim.omega arith))
    (λ j hj. s.at c.args.row j c.requires.row hj ∙ pivoting-solved f c.args.row c.args.column i c.args.row j refl))
    (c.in_err-clear_row.ensures.stops c.args.rows (c.loop-i.invariant.0 ∙ c.requires.size)))
