use Rattle.std.proofs.Common.{◌≡◌, Err, None, length, rules, subst}
use Rattle.market_model.specs.Valued.{passed_at}
use Rattle.one_price.specs.Margins.{by_none}
use Rattle.price_search.specs.declared.energy.Hold.TheVariants.{Up, Down}
use Rattle.price_search.specs.Energy.{IsNearest}
use Rattle.price_search.proofs.EnergyLemmas.{ceiling_margin_refused, ceiling_price, ceiling_refused, floor_margin_refused, floor_price, floor_refused}
use Rattle.price_search.proofs.energy.energy_price.Goals as goal

pub returns-in_err-margin-clause-stops : goal.returns-in_err-margin-clause-stops
returns-in_err-margin-clause-stops g c = λ x d accepted shows is.
    let p = c.in_err-margin.field-0.0 in
    let given : c.from_residual.result ≡ Err p = search rules in
    rw given (floor_margin_refused g.N.Exact.bound c.args.market.now x d (passed_at g.N.Exact.value p) (c.in_err-margin.ensures.stops x d accepted shows))

pub returns-in-Some-clause-price : goal.returns-in-Some-clause-price
returns-in-Some-clause-price g c = λ x d accepted shows is.
    let value = g.N.Exact.value in
    let m = c.args.market.now in
    let found = subst (IsNearest value Up m x d (length m.blocks)) c.in-Some.is (c.in_ok-margin.ensures.nearest x d accepted shows) in
    floor_price value g.N.Exact.bound m x d c.args.energy c.in-Some.margin is found c.exact_difference.result c.exact_difference.ensures

pub returns-in-Some-clause-stops : goal.returns-in-Some-clause-stops
returns-in-Some-clause-stops g c = λ x d accepted shows is.
    let value = g.N.Exact.value in
    let m = c.args.market.now in
    let found = subst (IsNearest value Up m x d (length m.blocks)) c.in-Some.is (c.in_ok-margin.ensures.nearest x d accepted shows) in
    floor_refused value g.N.Exact.bound m x d c.args.energy c.in-Some.margin is found c.exact_difference.result c.exact_difference.ensures

pub returns-in_err-margin-2-clause-stops : goal.returns-in_err-margin-2-clause-stops
returns-in_err-margin-2-clause-stops g c = λ x d accepted shows is.
    let value = g.N.Exact.value in
    let m = c.args.market.now in
    let up : c.in_ok-margin.field-0 ≡ None = search rules in
    let none = subst (IsNearest value Up m x d (length m.blocks)) up (c.in_ok-margin.ensures.nearest x d accepted shows) in
    let p = c.in_err-margin-2.field-0.0 in
    let given : c.from_residual-in_err-margin-2.result ≡ Err p = search rules in
    rw given (ceiling_margin_refused g.N.Exact.bound m x d (passed_at value p) none (c.in_err-margin-2.ensures.stops x d accepted shows))

pub returns-in-Some-2-clause-price : goal.returns-in-Some-2-clause-price
returns-in-Some-2-clause-price g c = λ x d accepted shows is.
    let value = g.N.Exact.value in
    let m = c.args.market.now in
    let up : c.in_ok-margin.field-0 ≡ None = search rules in
    let none = subst (IsNearest value Up m x d (length m.blocks)) up (c.in_ok-margin.ensures.nearest x d accepted shows) in
    let found = subst (IsNearest value Down m x d (length m.blocks)) c.in-Some-2.is (c.in_ok-margin-2.ensures.nearest x d accepted shows) in
    ceiling_price value g.N.Exact.bound m x d c.args.energy c.in-Some-2.margin is none found c.exact_difference-in-Some-2.result c.exact_difference-in-Some-2.ensures

pub returns-in-Some-2-clause-stops : goal.returns-in-Some-2-clause-stops
returns-in-Some-2-clause-stops g c = λ x d accepted shows is.
    let value = g.N.Exact.value in
    let m = c.args.market.now in
    let up : c.in_ok-margin.field-0 ≡ None = search rules in
    let none = subst (IsNearest value Up m x d (length m.blocks)) up (c.in_ok-margin.ensures.nearest x d accepted shows) in
    let found = subst (IsNearest value Down m x d (length m.blocks)) c.in-Some-2.is (c.in_ok-margin-2.ensures.nearest x d accepted shows) in
    ceiling_refused value g.N.Exact.bound m x d c.args.energy c.in-Some-2.margin is none found c.exact_difference-in-Some-2.result c.exact_difference-in-Some-2.ensures

pub returns-in-None-clause-price : goal.returns-in-None-clause-price
returns-in-None-clause-price g c = λ x d accepted shows is.
    let value = g.N.Exact.value in
    let m = c.args.market.now in
    let up : c.in_ok-margin.field-0 ≡ None = search rules in
    let none = subst (IsNearest value Up m x d (length m.blocks)) up (c.in_ok-margin.ensures.nearest x d accepted shows) in
    let free = subst (IsNearest value Down m x d (length m.blocks)) c.in-None.is (c.in_ok-margin-2.ensures.nearest x d accepted shows) in
    by_none none free c.datum.ensures
