use Rattle.std.proofs.Common.{◌≡◌, ◌+◌, ℕ, arith, subst}
use Rattle.exact_flows.specs.Building.{IsExchanged}
use Rattle.exact_flows.specs.Lines.{line_network}
use Rattle.exact_flows.proofs.solving.solved.Goals as goal

pub returns-clause-solved : goal.returns-clause-solved
returns-clause-solved g c = λ count all.
    let end : c.loop-column.column ≡ count = Prim.omega (arith, all, c.loop-column-test.false, c.loop-column.auto) in
    subst (λ (k : ℕ). IsExchanged (line_network g.N.Exact.value c.args.buses c.args.lines.now) c.args.reference k c.loop-column.dict) end c.loop-column.invariant
