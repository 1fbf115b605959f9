use Rattle.std.proofs.Common.{◌≡◌, rules, Err, refl}
use Rattle.exact_fraction.specs.declared.Op.TheVariants.{Times}
use Rattle.market_model.proofs.SumSteps.{product_too_large, refusal}
use Rattle.price_search.specs.Refusals.{of_prices}
use Rattle.price_search.proofs.BoundLists.{with_one}
use Rattle.price_search.proofs.posing.worth_cap.Goals as goal

pub returns-in_err-prices-clause-stops : goal.returns-in_err-prices-clause-stops
returns-in_err-prices-clause-stops g c =
    let value = g.N.Exact.value in
    let given : c.from_residual-in_err-prices.result ≡ Err c.in_err-prices.field-0.0 = search rules in
    let all = with_one (value c.in_ok-all.all) (value c.datum.result) (value c.args.caps.factor) c.in_ok-all.ensures.exact c.datum.ensures in
    rw given
    (of_prices (refusal value g.N.Exact.bound Times c.args.caps.most c.in_ok-all.all _ _ c.in_err-prices.field-0.0 refl all (product_too_large value g.N.Exact.bound c.args.caps.most c.in_ok-all.all c.in_err-prices.field-0.0 c.in_err-prices.ensures)))
