use Rattle.std.proofs.Common.{ℕ, ◌≤◌, arith, inr, subst}
use borrow.Author.Count.{below_more}
use Rattle.fraction_theory.specs.declared.Sign.TheVariants as sign
use Rattle.cost_reading.specs.CostRows.{degree_column, row_at}
use Rattle.cost_reading.specs.Cells.{IsSign}
use Rattle.cost_reading.proofs.Degrees.{not_zero, other}
use Rattle.cost_reading.proofs.polynomials.pass_higher.Goals as goal

pub returns-in-Below : goal.returns-in-Below
returns-in-Below c =
    (c.loop-degree.degree, omega arith, inr (other (row_at c.args.costs.now c.args.row) c.args.count c.loop-degree.degree _ _ c.loop-degree-test.true c.degree_column.ensures c.in_ok-sign.ensures (not_zero c.in_ok-sign.field-0 c.in-Below.is)))

pub loop-degree-preserved : goal.loop-degree-preserved
loop-degree-preserved c =
    let r = row_at c.args.costs.now c.args.row in
    let here : IsSign r (degree_column c.args.count c.loop-degree.degree) sign.Zero =
    Prim.rw c.in-Zero.is at (subst (λ (col : ℕ). IsSign r col c.in_ok-sign.field-0) c.degree_column.ensures c.in_ok-sign.ensures) in
    below_more (λ (degree : ℕ). 3 ≤ degree → IsSign r (degree_column c.args.count degree) sign.Zero) c.loop-degree.degree c.loop-degree.invariant (λ _. here)
