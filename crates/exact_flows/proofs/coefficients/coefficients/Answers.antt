use Rattle.std.proofs.Common.{◌<◌, ◌+◌, arith, subst, sym}
use Rattle.std.proofs.lemmas.Result.{err_from_is_err_and}
use Rattle.network_theory.specs.Networks.{Network}
use Rattle.exact_flows.specs.FlowSystems.{IsRowOf, of_sum}
use Rattle.exact_flows.specs.declared.rows.Row.TheVariants.{Injection}
use Rattle.exact_flows.specs.Lines.{line_network}
use Rattle.exact_flows.proofs.Places.{bus_is}
use Rattle.exact_flows.proofs.coefficients.coefficients.Goals as goal

pub returns-in_err-row_coefficient-clause-pair : goal.returns-in_err-row_coefficient-clause-pair
returns-in_err-row_coefficient-clause-pair g c =
    let n : Network = line_network g.N.Exact.value c.args.buses c.args.lines.now in
    let h = c.in_err-row_coefficient.ensures.stops in
    let inside : c.loop-column.column + 1 < c.args.buses = Prim.omega (arith, c.loop-column-test.true, c.loop-column.auto.column-end, c.requires.reference) in
    let p = err_from_is_err_and c.from_residual.result c.from_residual.ensures.1 in
    rw (p.1, p.2)
    (of_sum h.0 c.bus_at.result (subst (IsRowOf n c.args.reference) h.1 c.requires.row)
    (subst (λ i. IsRowOf n c.args.reference (Injection i)) (sym c.bus_at.ensures) (bus_is c.args.buses c.args.reference c.loop-column.column inside)) h.2)
