use Rattle.std.proofs.Common.{Some, None, ℕ, ◌≡◌, arith, refl, subst, w64}
use Rattle.std.proofs.lemmas.Int.{ints, to_z-of_z}
use mir.Val.{to_z, of_z}
use Rattle.std.proofs.lemmas.Result.{err_from_is_err_and}
use Rattle.cost_reading.specs.CostRows.{degree_column, row_at}
use Rattle.cost_reading.specs.Cells.{IsMisread, IsSign}
use Rattle.cost_reading.proofs.Faults.{of_coefficient, of_constant, of_higher}
use Rattle.cost_reading.proofs.polynomials.read_factors.Goals as goal

pub returns-in_err-pass_higher : goal.returns-in_err-pass_higher
returns-in_err-pass_higher c =
    let p = err_from_is_err_and c.from_residual.result c.from_residual.ensures.1 in
    Prim.rw (p.1, p.2) (of_higher (row_at c.args.costs.now c.args.row) c.args.count _ c.requires.model c.requires.count c.in_err-pass_higher.ensures)

pub returns-in_err-square : goal.returns-in_err-square
returns-in_err-square c =
    let p = err_from_is_err_and c.from_residual-in_err-square.result c.from_residual-in_err-square.ensures.1 in
    Prim.rw (p.1, p.2) (of_coefficient (row_at c.args.costs.now c.args.row) c.args.count 2 (Some 15) _ c.requires.model c.requires.count refl c.in_err-square.ensures)

pub returns-in_err-linear : goal.returns-in_err-linear
returns-in_err-linear c =
    let p = err_from_is_err_and c.from_residual-in_err-linear.result c.from_residual-in_err-linear.ensures.1 in
    Prim.rw (p.1, p.2) (of_coefficient (row_at c.args.costs.now c.args.row) c.args.count 1 (Some 12) _ c.requires.model c.requires.count refl c.in_err-linear.ensures)

pub returns-in_err-_constant : goal.returns-in_err-_constant
returns-in_err-_constant c =
    let r = row_at c.args.costs.now c.args.row in
    let p = err_from_is_err_and c.from_residual-in_err-_constant.result c.from_residual-in_err-_constant.ensures.1 in
    let bad : IsMisread r (degree_column c.args.count 0) None c.in_err-_constant.field-0.0 =
    subst (λ (col : ℕ). IsMisread r col None c.in_err-_constant.field-0.0) c.degree_column.ensures c.in_err-_constant.ensures in
    Prim.rw (p.1, p.2) (of_constant r c.args.count _ c.requires.model c.requires.count bad)

pub returns : goal.returns
returns c =
    let square : to_z w64 (of_z w64 c.in_ok-square.square) ≡ c.in_ok-square.square = search (arith, ints, to_z-of_z) in
    let linear : to_z w64 (of_z w64 c.in_ok-linear.linear) ≡ c.in_ok-linear.linear = search (arith, ints, to_z-of_z) in
    let r = row_at c.args.costs.now c.args.row in
    Prim.rw (square, linear) (record {
      second = c.in_ok-square.ensures;
      first = c.in_ok-linear.ensures;
      constant = (c.in_ok-_constant._constant, subst (λ (col : ℕ). IsSign r col c.in_ok-_constant._constant) c.degree_column.ensures c.in_ok-_constant.ensures);
      higher = c.in_ok-pass_higher.ensures;
    })
