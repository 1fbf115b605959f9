use Rattle.std.proofs.Common.{◌∙◌, arith}
use Rattle.fraction_theory.specs.Fraction.{Fraction}
use Rattle.market_model.specs.declared.answered.Dual.{Dual}
use Rattle.market_model.specs.Valued.{dual_at}
use Rattle.cert_verify.specs.declared.verdicts.Reason.TheVariants as reason
use Rattle.cert_verify.specs.Reasons.{has_no_row}
use Rattle.cert_verify.proofs.FindLemmas.{item_here, item_more, item_none}
use Rattle.cert_verify.proofs.RowLemmas.{no_row_by}
use Rattle.cert_verify.proofs.duals.missing_row.Goals as goal

pub returns-then-is_none : goal.returns-then-is_none
returns-then-is_none g c =
    item_here (λ (e : Dual Fraction). reason.NoRow e.row) (has_no_row c.args.market.now) (dual_at g.N.Exact.value) c.args.limits.now c.loop-dual.dual-index c.dual-item.result c.loop-dual.invariant
    (omega (arith, c.loop-dual-test.true)) c.dual-item.is
    (no_row_by c.args.market.now (dual_at g.N.Exact.value c.dual-item.result) c.row_named.result c.row_named.ensures c.is_none.result c.is_none.ensures ∙ c.if-is_none.true)

pub loop-dual-preserved : goal.loop-dual-preserved
loop-dual-preserved g c =
    item_more (λ (e : Dual Fraction). reason.NoRow e.row) (has_no_row c.args.market.now) (dual_at g.N.Exact.value) c.args.limits.now c.loop-dual.dual-index c.dual-item.result c.loop-dual.invariant
    (omega (arith, c.loop-dual-test.true)) c.dual-item.is
    (no_row_by c.args.market.now (dual_at g.N.Exact.value c.dual-item.result) c.row_named.result c.row_named.ensures c.is_none.result c.is_none.ensures ∙ c.if-is_none.false)

pub returns : goal.returns
returns g c =
    item_none (λ (e : Dual Fraction). reason.NoRow e.row) (has_no_row c.args.market.now) (dual_at g.N.Exact.value) c.args.limits.now c.loop-dual.dual-index c.loop-dual.invariant (omega (arith, c.loop-dual-test.false))
