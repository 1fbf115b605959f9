use Rattle.std.proofs.Common.{rules, Err, ◌≡◌}
use Rattle.market_model.proofs.StopLemmas.{on_passed_weaker}
use Rattle.clear_loop.specs.Bounding.{in_prices}
use Rattle.clear_loop.proofs.bounding.farkas_bound.Goals as goal

pub returns-in_err-own-clause-stops : goal.returns-in_err-own-clause-stops
returns-in_err-own-clause-stops g c =
    let given : c.from_residual.result ≡ Err c.in_err-own.field-0.0 = search rules in
    rw given
    (on_passed_weaker c.in_err-own.field-0.0 _ _ (λ p why. in_prices why) c.in_err-own.ensures.stops)
