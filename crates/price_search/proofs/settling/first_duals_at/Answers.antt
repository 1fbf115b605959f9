use Rattle.std.proofs.Common.{Err, ◌≡◌, ◌∙◌, ap}
use Rattle.std.proofs.lemmas.Result.{err_from_is_err_and}
use Rattle.market_model.specs.declared.stops.Stop.TheVariants.{Passed as StoppedBy}
use Rattle.market_model.specs.Valued.{duals_at}
use Rattle.price_search.specs.Points.{caps_at}
use Rattle.price_search.specs.Settling.{IsPriceRefusal, IsSearchRefusal, of_caps, of_search}
use Rattle.price_search.proofs.SettlingLemmas.{refused_weaker}
use Rattle.price_search.proofs.settling.first_duals_at.Goals as goal

pub price_caps-requires : goal.price_caps-requires
price_caps-requires g c = (c.requires.point.0, c.requires.point.1.reached)

pub returns-in_err-caps-clause-stops : goal.returns-in_err-caps-clause-stops
returns-in_err-caps-clause-stops g c = λ x is.
    let p = err_from_is_err_and c.from_residual.result c.from_residual.ensures.1 in
    let given : c.from_residual.result ≡ Err (StoppedBy c.in_err-caps.field-0.0) = p.1 ∙ ap Err p.2 in
    rw given (of_caps (c.in_err-caps.ensures.stops x is.reached))

pub first_duals_within-requires : goal.first_duals_within-requires
first_duals_within-requires g c =
    let a = c.requires.point in (
      a.0,
      a.1,
      record {
        duals = duals_at g.N.Exact.value c.args.duals.now;
        proper = c.requires.proper;
        supported = a.2;
        caps = c.in_ok-caps.ensures.caps a.0 a.1.reached c.requires.proper;
      },
    )

pub returns-clause-first : goal.returns-clause-first
returns-clause-first g c = λ x is supported.
    c.first_duals_within.ensures.first x is
    (record {
      duals = duals_at g.N.Exact.value c.args.duals.now;
      proper = c.requires.proper;
      supported = supported;
      caps = c.in_ok-caps.ensures.caps x is.reached c.requires.proper;
    })

pub returns-clause-stops : goal.returns-clause-stops
returns-clause-stops g c = λ x is.
    let value = g.N.Exact.value in
    let bound = g.N.Exact.bound in
    let m = c.args.market.now in
    let e = duals_at value c.args.duals.now in
    let caps = caps_at value c.in_ok-caps.caps in
    refused_weaker value (IsSearchRefusal m x caps bound) (IsPriceRefusal m x e bound) (λ p h. of_search caps (c.in_ok-caps.ensures.told x is.reached) h) c.first_duals_within.result
    (c.first_duals_within.ensures.stops x is)
