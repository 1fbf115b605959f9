use Rattle.std.proofs.Common.{ℕ, ◌≡◌, ◌+◌, ◌*◌, length, ◌∙◌, arith, ap, sym, subst, List, Vec, Global, inl, inr, map}
use mathlib.Core.Path.{ap₂}
use Rattle.fraction_theory.specs.Fraction.{Fraction, ◌*ℚ◌, neg_ℚ, recip_ℚ}
use Rattle.std.proofs.lemmas.Result.{err_from_is_err_and}
use Rattle.linear_dict.specs.Causes.{SolveShare, divide}
use Rattle.linear_dict.specs.Tables.{cell}
use Rattle.linear_dict.proofs.CauseLemmas.{refused_product}
use Rattle.linear_dict.specs.Tables.{solved_cell}
use Rattle.linear_dict.proofs.ProductLemmas.{zero_divided}
use Rattle.linear_dict.proofs.TableLemmas.{cell_read_within}
use Rattle.linear_dict.proofs.PivotLemmas.{is_stage_start, is_stage_keep, is_stage_skip, is_stage_step, is_stage_end, read_stage, solved_number, IsStage}
use Rattle.linear_dict.proofs.table.solve_row.Goals as goal
use Rattle.linear_dict.proofs.table.solve_row.Goals.{then-j-column+then-not-is_zero+in_ok-divided, else-j-column, else-j-column-via-then-j-column+else-not-is_zero, else-j-column-via-else-j-column}

pub recip-inverse-requires : goal.recip-inverse-requires
recip-inverse-requires g c = λ e. c.requires.entry
    (sym (cell_read_within g.N.Exact.value c.args.table.now.items c.args.columns c.args.row c.args.column c.index.result.now (Prim.omega (arith, c.requires.room, c.requires.within)) c.index.ensures) ∙ e)

pub loop-j-init : goal.loop-j-init
loop-j-init g c = is_stage_start g.N.Exact.value c.args.columns c.args.table.now.items (solved_number g.N.Exact.value c.args.columns c.args.table.now.items c.args.row c.args.column) c.args.row c.args.column

pub loop-j-preserved : goal.loop-j-preserved
loop-j-preserved g c =
    let value : g.row.N.Denot → Fraction = g.N.Exact.value in
    let old : List g.row.N.Denot = c.args.table.now.items in
    let cur : List g.row.N.Denot = c.loop-j.table.items in
    let columns : ℕ = c.args.columns in
    let row : ℕ = c.args.row in
    let column : ℕ = c.args.column in
    let j : ℕ = c.loop-j.j in
    let f : ℕ → ℕ → Fraction = cell columns (map value old) in
    let number : ℕ → Fraction = solved_number value columns old row column in
    let entry : (rows : ℕ) → length old ≡ rows * columns → value c.index-entry.result.now ≡ f row j =
    read_stage value columns old cur number row column j row j c.index-entry.result.now c.requires.within c.requires.room c.loop-j-test.true (inr (inl (Prim.omega arith))) c.loop-j.invariant c.index-entry.ensures in
    elim c.if-j-column.branch [
      | then-j-column+then-not-is_zero+in_ok-divided w ↦
          subst (λ (t : Vec g.row.N.Denot Global). IsStage value columns old t.items number row column (j + 1)) (sym w.table-is)
          (is_stage_step value columns old cur number row column j w.in_ok-divided.divided c.requires.within c.requires.room c.loop-j-test.true w.if-j-column.true
          (λ rows e. w.in_ok-divided.ensures.exact
          ∙ ap₂ ◌*ℚ◌
          (w.neg.ensures ∙ ap neg_ℚ (entry rows e))
          (c.recip-inverse.ensures ∙ ap recip_ℚ (cell_read_within value old columns row column c.index.result.now (Prim.omega (arith, c.requires.room, c.requires.within)) c.index.ensures)))
          c.loop-j.invariant)
      | else-j-column w ↦
          subst (λ (t : Vec g.row.N.Denot Global). IsStage value columns old t.items number row column (j + 1)) (sym w.table-is)
          (elim w.else-j-column.branch [
            | else-j-column-via-then-j-column+else-not-is_zero v ↦
                is_stage_keep value columns old cur number row column j
                (λ rows e. zero_divided (f row j) (recip_ℚ (f row column)) (sym (entry rows e) ∙ v.is_zero.ensures.0 v.if-not-is_zero.false))
                c.loop-j.invariant
            | else-j-column-via-else-j-column v ↦ is_stage_skip value columns old cur number row column j v.if-j-column.false c.loop-j.invariant
          ])
    ]

pub returns-clause-solved : goal.returns-clause-solved
unfolding solved_cell
returns-clause-solved g c = λ rows e.
    is_stage_end g.N.Exact.value c.args.columns c.args.table.now.items c.loop-j.table.items
    (solved_number g.N.Exact.value c.args.columns c.args.table.now.items c.args.row c.args.column) c.args.row c.args.column c.loop-j.j c.recip-inverse.result _
    c.requires.within c.requires.room c.loop-j-test.false c.loop-j.invariant rows e
    (c.recip-inverse.ensures ∙ ap recip_ℚ (cell_read_within g.N.Exact.value c.args.table.now.items c.args.columns c.args.row c.args.column c.index.result.now (Prim.omega (arith, c.requires.room, c.requires.within)) c.index.ensures))

pub returns-in_err-divided-clause-stops : goal.returns-in_err-divided-clause-stops
returns-in_err-divided-clause-stops g c =
    let value : g.row.N.Denot → Fraction = g.N.Exact.value in
    let old : List g.row.N.Denot = c.args.table.now.items in
    let columns : ℕ = c.args.columns in
    let row : ℕ = c.args.row in
    let column : ℕ = c.args.column in
    let j : ℕ = c.loop-j.j in
    let f : ℕ → ℕ → Fraction = cell columns (map value old) in
    let p = err_from_is_err_and c.from_residual.result c.from_residual.ensures.1 in
    rw (p.1, p.2) (λ rows e.
    refused_product value g.N.Exact.bound (SolveShare columns f row column) c.neg.result c.recip-inverse.result c.in_err-divided.field-0.0 (neg_ℚ (f row j)) (recip_ℚ (f row column)) c.in_err-divided.ensures
    (c.neg.ensures ∙ ap neg_ℚ (read_stage value columns old c.loop-j.table.items (solved_number value columns old row column) row column j row j c.index-entry.result.now
    c.requires.within c.requires.room c.loop-j-test.true (inr (inl (Prim.omega arith))) c.loop-j.invariant c.index-entry.ensures rows e))
    (c.recip-inverse.ensures ∙ ap recip_ℚ (cell_read_within value old columns row column c.index.result.now (Prim.omega (arith, c.requires.room, c.requires.within)) c.index.ensures))
    (divide j c.loop-j-test.true c.if-j-column.true))
