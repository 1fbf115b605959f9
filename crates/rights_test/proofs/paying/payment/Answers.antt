use Rattle.std.proofs.Common.{rules, Err, ◌≡◌, ◌∙◌, ap₂, inr}
use Rattle.fraction_theory.specs.Fraction.{◌-ℚ◌}
use Rattle.exact_fraction.specs.declared.Op.TheVariants.{Times}
use Rattle.market_model.proofs.SumSteps.{product_too_large, refusal}
use Rattle.rights_test.proofs.PaySteps.{price_read}
use Rattle.rights_test.proofs.paying.payment.Goals as goal

pub returns-in_err-paid-clause-stops : goal.returns-in_err-paid-clause-stops
returns-in_err-paid-clause-stops g c =
    let value = g.N.Exact.value in
    let t = c.args.right.now in
    let prices = c.args.prices.now in
    let given : c.from_residual-in_err-paid.result ≡ Err c.in_err-paid.field-0.0 = search rules in
    let more = c.in_ok-more.ensures.exact
    ∙ ap₂ ◌-ℚ◌ (price_read value prices t.to c.index-prices-right.result c.requires.to) (price_read value prices t.from c.index-prices-right-2.result c.requires.from) in
    rw given
    (inr (refusal value g.N.Exact.bound Times c.mw_of-mw.result c.in_ok-more.more _ _ c.in_err-paid.field-0.0 c.mw_of-mw.ensures more
    (product_too_large value g.N.Exact.bound c.mw_of-mw.result c.in_ok-more.more c.in_err-paid.field-0.0 c.in_err-paid.ensures)))
