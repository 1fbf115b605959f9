use Rattle.std.specs.Prelude.{◌≡◌, IfErr, IfOk}
use Rattle.std.proofs.Common.{subst}
use Rattle.market_model.specs.declared.limits.Row.{Row}
use Rattle.market_model.specs.LimitRows.{factor_terms, row_factor}
use Rattle.market_model.specs.NamedSums.{IsRefusedIn}
use Rattle.market_model.specs.Valued.{passed_at}
use Rattle.limit_rows.proofs.factors.coefficient.Goals as goal

pub returns-clause-factor : goal.returns-clause-factor
returns-clause-factor g c =
    λ r is named.
    subst (λ (s : Row). IfOk c.row_factor.result (λ factor. g.N.Exact.value factor ≡ row_factor c.args.market.now s c.args.bus)) (c.found_row.ensures.is r is named) c.row_factor.ensures.factor

pub returns-clause-stops : goal.returns-clause-stops
returns-clause-stops g c =
    λ r is named.
    subst (λ (s : Row). IfErr c.row_factor.result (λ passed. IsRefusedIn (factor_terms c.args.market.now s c.args.bus) g.N.Exact.bound (passed_at g.N.Exact.value passed))) (c.found_row.ensures.is r is named) c.row_factor.ensures.stops
