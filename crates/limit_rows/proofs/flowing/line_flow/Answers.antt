use Rattle.std.proofs.Common.{rules, Err, ◌≡◌, ◌∙◌, ℤ, ap, sym, length, arith, map, w64}
use Rattle.std.proofs.lemmas.Int.{to_z-of_z}
use mir.Val.{to_z, of_z}
use Rattle.fraction_theory.specs.Fraction.{over}
use Rattle.fraction_theory.proofs.FieldLaws.{+ℚ_nil}
use Rattle.market_data.specs.Scales.{factor_one}
use Rattle.market_model.specs.LimitRows.{line_flow as flow_of_line}
use Rattle.market_model.specs.Valued.{passed_at}
use Rattle.market_model.specs.PutIn.{put_in}
use Rattle.market_model.proofs.PlaceLists.{put_read}
use Rattle.limit_rows.proofs.FlowSteps.{line_step, line_refused}
use Rattle.limit_rows.proofs.flowing.line_flow.Goals as goal

pub loop-bus-init : goal.loop-bus-init
loop-bus-init g c = c.offset_of-flow.ensures ∙ sym (+ℚ_nil _)

pub loop-bus-preserved : goal.loop-bus-preserved
loop-bus-preserved g c =
    let known : to_z w64 (of_z w64 c.shift_of.result) ≡ c.shift_of.result = to_z-of_z w64 c.shift_of.result (record { sfits = c.shift_of.type_inv }) in
    line_step c.args.market.now (put_in (map g.N.Exact.value c.args.injections.now)) c.args.line c.loop-bus.bus _ (g.N.Exact.value c.index-injections-bus.result) (g.N.Exact.value c.loop-bus.flow) _
    (ap (λ (z : ℤ). over z factor_one) (known ∙ c.shift_of.ensures.is))
    (put_read g.N.Exact.value c.args.injections.now c.loop-bus.bus c.index-injections-bus.result c.loop-bus-test.true c.index-injections-bus.is)
    c.loop-bus.invariant c.in_ok-flow.ensures.sum

pub returns-clause-flow : goal.returns-clause-flow
unfolding flow_of_line
returns-clause-flow g c =
    let all : c.loop-bus.bus ≡ length c.args.market.now.buses = omega (arith, c.requires.injections) in
    rw all at c.loop-bus.invariant

pub returns-in_err-flow-clause-stops : goal.returns-in_err-flow-clause-stops
returns-in_err-flow-clause-stops g c =
    let given : c.from_residual.result ≡ Err c.in_err-flow.field-0.0 = search rules in
    let known : to_z w64 (of_z w64 c.shift_of.result) ≡ c.shift_of.result = to_z-of_z w64 c.shift_of.result (record { sfits = c.shift_of.type_inv }) in
    rw given
    (line_refused c.args.market.now (put_in (map g.N.Exact.value c.args.injections.now)) c.args.line c.loop-bus.bus _ (g.N.Exact.value c.index-injections-bus.result) (g.N.Exact.value c.loop-bus.flow)
    g.N.Exact.bound (passed_at g.N.Exact.value c.in_err-flow.field-0.0)
    (omega (arith, c.loop-bus-test.true, c.requires.injections))
    (ap (λ (z : ℤ). over z factor_one) (known ∙ c.shift_of.ensures.is))
    (put_read g.N.Exact.value c.args.injections.now c.loop-bus.bus c.index-injections-bus.result c.loop-bus-test.true c.index-injections-bus.is)
    c.loop-bus.invariant c.in_err-flow.ensures.stops)
