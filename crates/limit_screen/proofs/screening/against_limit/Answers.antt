use Rattle.std.proofs.Common.{sym, ap, subst, ◌∙◌}
use Rattle.fraction_theory.specs.Fraction.{Fraction, ◌-ℚ◌}
use Rattle.fraction_theory.specs.Order.{◌<ℚ◌}
use Rattle.exact_fraction.specs.Passes.{IsTooLarge}
use Rattle.exact_fraction.proofs.Excesses.{excess_fits}
use Rattle.market_model.specs.Dispatch.{zero}
use Rattle.limit_screen.proofs.ScreenLemmas.{above_nil}
use Rattle.limit_screen.proofs.screening.against_limit.Goals as goal

pub returns-in_ok-exact_difference-in-Greater-clause-stands : goal.returns-in_ok-exact_difference-in-Greater-clause-stands
returns-in_ok-exact_difference-in-Greater-clause-stands g c =
    let is = c.in_ok-exact_difference-in-Greater.ensures.exact ∙ ap (λ (x : Fraction). x -ℚ g.N.Exact.value c.args.limit) c.size-size.ensures in (
      subst (λ x. zero <ℚ x) (sym c.in_ok-exact_difference-in-Greater.ensures.exact) (above_nil (g.N.Exact.value c.size-size.result) (g.N.Exact.value c.args.limit) c.in-Greater.ensures),
      is,
    )

pub returns-in-Less-clause-stands : goal.returns-in-Less-clause-stands
returns-in-Less-clause-stands g c = subst (λ x. x <ℚ g.N.Exact.value c.args.limit) c.size-size.ensures c.in-Less.ensures

pub returns-in-Equal-clause-stands : goal.returns-in-Equal-clause-stands
returns-in-Equal-clause-stands g c = sym c.size-size.ensures ∙ c.in-Equal.ensures

pub returns-in_err-exact_difference-in-Greater-clause-fits : goal.returns-in_err-exact_difference-in-Greater-clause-fits
returns-in_err-exact_difference-in-Greater-clause-fits g c =
    let mw = c.requires.0 in
    let size = c.size-size.result in
    let within = g.met.N.Exact.value_fits size in
    absurd
    (excess_fits g.N.Exact.bound (g.N.Exact.value size) mw c.requires.1 (subst (λ x. x <ℚ g.N.Exact.value size) c.requires.2 c.in-Greater.ensures) within.0 within.1
    (subst (λ x. IsTooLarge g.N.Exact.bound (g.N.Exact.value size -ℚ x)) c.requires.2 c.in_err-exact_difference-in-Greater.ensures.too_large))
