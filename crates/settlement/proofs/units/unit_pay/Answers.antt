use Rattle.std.proofs.Common.{rules, Err, ◌≡◌, inr, refl}
use Rattle.exact_fraction.specs.declared.Op.TheVariants.{Times}
use Rattle.market_model.proofs.SumSteps.{product_too_large, refusal}
use Rattle.settlement.proofs.units.unit_pay.Goals as goal

pub returns-in_err-paid-clause-stops : goal.returns-in_err-paid-clause-stops
returns-in_err-paid-clause-stops g c =
    let given : c.from_residual-in_err-paid.result ≡ Err c.in_err-paid.field-0.0 = search rules in
    rw given
    (inr (refusal g.N.Exact.value g.N.Exact.bound Times c.args.price c.in_ok-mw.mw _ _ c.in_err-paid.field-0.0 refl c.in_ok-mw.ensures.output
    (product_too_large g.N.Exact.value g.N.Exact.bound c.args.price c.in_ok-mw.mw c.in_err-paid.field-0.0 c.in_err-paid.ensures)))
