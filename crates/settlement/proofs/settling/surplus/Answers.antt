use Rattle.std.proofs.Common.{rules, Err, refl, ◌≡◌, ◌∙◌, ap, sym}
use Rattle.fraction_theory.specs.Fraction.{neg_ℚ, ◌+ℚ◌}
use Rattle.fraction_theory.specs.Sums.{sum_by}
use Rattle.fraction_theory.proofs.FieldLaws.{+ℚ_nil}
use Rattle.market_model.specs.declared.answered.Load.{Load}
use Rattle.market_model.specs.declared.answered.UnitPay.{UnitPay}
use Rattle.market_model.proofs.ListSteps.{sum_step, sum_end}
use Rattle.settlement.proofs.ListLemmas.{sum_step_behind}
use Rattle.exact_fraction.specs.declared.Op.TheVariants as Op
use Rattle.market_model.specs.Valued.{passed_at}
use Rattle.market_model.proofs.SumSteps.{refusal}
use Rattle.settlement.proofs.MoneyLemmas.{load_refused, paid_total, unit_refused}
use Rattle.settlement.proofs.settling.surplus.Goals as goal

pub loop-load-preserved : goal.loop-load-preserved
loop-load-preserved g c =
    sum_step (λ (load : Load g.row.N.Denot). g.N.Exact.value load.pays) c.args.loads.now c.loop-load.load-index c.load-item.result _ _ c.loop-load-test.true c.load-item.is c.loop-load.invariant c.in_ok-surplus.ensures.exact

pub loop-unit-init : goal.loop-unit-init
loop-unit-init g c =
    c.loop-load.invariant ∙ sum_end (λ (load : Load g.row.N.Denot). g.N.Exact.value load.pays) c.args.loads.now c.loop-load.load-index c.loop-load-test.false ∙ sym (+ℚ_nil _)

pub loop-unit-preserved : goal.loop-unit-preserved
loop-unit-preserved g c =
    sum_step_behind (λ (unit : UnitPay g.row.N.Denot). neg_ℚ (g.N.Exact.value unit.paid)) c.args.units.now (sum_by (λ (load : Load g.row.N.Denot). g.N.Exact.value load.pays) c.args.loads.now)
    c.loop-unit.unit-index c.unit-item.result _ _ c.loop-unit-test.true c.unit-item.is c.loop-unit.invariant
    (c.in_ok-surplus-2.ensures.exact ∙ ap (λ t. g.N.Exact.value c.loop-unit.surplus +ℚ t) c.neg.ensures)

pub returns-clause-left : goal.returns-clause-left
returns-clause-left g c =
    c.loop-unit.invariant
    ∙ ap (λ t. sum_by (λ (load : Load g.row.N.Denot). g.N.Exact.value load.pays) c.args.loads.now +ℚ t)
    (sum_end (λ (unit : UnitPay g.row.N.Denot). neg_ℚ (g.N.Exact.value unit.paid)) c.args.units.now c.loop-unit.unit-index c.loop-unit-test.false)
    ∙ paid_total g.N.Exact.value c.args.loads.now c.args.units.now

pub returns-in_err-surplus-clause-stops : goal.returns-in_err-surplus-clause-stops
returns-in_err-surplus-clause-stops g c =
    let given : c.from_residual.result ≡ Err c.in_err-surplus.field-0.0 = search rules in
    rw given
    (load_refused g.N.Exact.value c.args.loads.now c.args.units.now g.N.Exact.bound (passed_at g.N.Exact.value c.in_err-surplus.field-0.0) c.loop-load.load-index c.load-item.result (g.N.Exact.value c.loop-load.surplus)
    c.loop-load-test.true c.load-item.is c.loop-load.invariant
    (refusal g.N.Exact.value g.N.Exact.bound Op.Plus c.loop-load.surplus _ _ _ c.in_err-surplus.field-0.0 refl refl c.in_err-surplus.ensures))

pub returns-in_err-surplus-2-clause-stops : goal.returns-in_err-surplus-2-clause-stops
returns-in_err-surplus-2-clause-stops g c =
    let given : c.from_residual-in_err-surplus-2.result ≡ Err c.in_err-surplus-2.field-0.0 = search rules in
    rw given
    (unit_refused g.N.Exact.value c.args.loads.now c.args.units.now g.N.Exact.bound (passed_at g.N.Exact.value c.in_err-surplus-2.field-0.0) c.loop-unit.unit-index c.unit-item.result (g.N.Exact.value c.loop-unit.surplus)
    c.loop-unit-test.true c.unit-item.is c.loop-unit.invariant
    (refusal g.N.Exact.value g.N.Exact.bound Op.Plus c.loop-unit.surplus c.neg.result _ _ c.in_err-surplus-2.field-0.0 refl c.neg.ensures c.in_err-surplus-2.ensures))
