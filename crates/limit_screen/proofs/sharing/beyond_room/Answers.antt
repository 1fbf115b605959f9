use Rattle.std.proofs.Common.{subst}
use Rattle.fraction_theory.specs.Fraction.{◌-ℚ◌}
use Rattle.fraction_theory.specs.Order.{◌<ℚ◌}
use Rattle.exact_fraction.specs.Passes.{IsTooLarge}
use Rattle.exact_fraction.proofs.Excesses.{excess_fits}
use Rattle.limit_screen.proofs.sharing.beyond_room.Goals as goal

pub returns-in_err-exact_difference-in-Greater-clause-fits : goal.returns-in_err-exact_difference-in-Greater-clause-fits
returns-in_err-exact_difference-in-Greater-clause-fits g c =
    let mw = c.requires.0 in
    let used = c.args.used in
    let within = g.met.N.Exact.value_fits used in
    absurd
    (excess_fits g.N.Exact.bound (g.N.Exact.value used) mw c.requires.1 (subst (λ x. x <ℚ g.N.Exact.value used) c.requires.2 c.in-Greater.ensures) within.0 within.1
    (subst (λ x. IsTooLarge g.N.Exact.bound (g.N.Exact.value used -ℚ x)) c.requires.2 c.in_err-exact_difference-in-Greater.ensures.too_large))
