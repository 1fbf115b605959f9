use Rattle.std.proofs.Common.{◌∙◌, ap, sym, pos}
use Rattle.std.proofs.lemmas.Result.{err_from_is_err_and}
use Rattle.fraction_theory.specs.Fraction.{◌+ℚ◌}
use Rattle.fraction_theory.proofs.FieldLaws.{over-one}
use Rattle.exact_flows.specs.FlowSystems.{bus_term}
use Rattle.exact_flows.specs.Lines.{line_branch}
use Rattle.exact_flows.proofs.Terms.{sum_more, sum_all, sum_pair}
use Rattle.exact_flows.proofs.coefficients.bus_coefficient.Goals as goal

pub loop-k-init : goal.loop-k-init
loop-k-init g c = c.of_parts-sum.ensures ∙ over-one (pos 0)

pub loop-k-preserved : goal.loop-k-preserved
loop-k-preserved g c =
    let value = g.N.Exact.value in
    c.in_ok-sum.ensures.sum
    ∙ ap (λ t. t +ℚ bus_term c.args.bus c.args.other (line_branch value c.index-lines-k.result)) c.loop-k.invariant
    ∙ sym (sum_more value c.args.lines.now c.args.bus c.args.other c.loop-k.k c.index-lines-k.result c.loop-k-test.true c.index-lines-k.is)

pub returns-clause-sum : goal.returns-clause-sum
returns-clause-sum g c = c.loop-k.invariant ∙ sum_all g.N.Exact.value c.args.lines.now c.args.bus c.args.other c.loop-k.k c.loop-k-test.false

pub returns-in_err-sum-clause-stops : goal.returns-in_err-sum-clause-stops
returns-in_err-sum-clause-stops g c =
    let value = g.N.Exact.value in
    let p = err_from_is_err_and c.from_residual.result c.from_residual.ensures.1 in
    rw (p.1, p.2)
    (sum_pair value c.args.lines.now c.args.bus c.args.other g.N.Exact.bound c.loop-k.k c.loop-k.sum c.index-lines-k.result c.in_err-sum.field-0.0 c.loop-k-test.true c.index-lines-k.is c.loop-k.invariant
    c.in_err-sum.ensures.stops)
