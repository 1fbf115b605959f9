use Rattle.std.proofs.Common.{rules, Err, ◌≡◌}
use Rattle.market_model.specs.declared.stops.Stop.TheVariants as why
use Rattle.cert_sums.proofs.putting.injections.Goals as goal

pub returns-in_err-injections-clause-stops : goal.returns-in_err-injections-clause-stops
returns-in_err-injections-clause-stops g c =
    let given : c.from_residual-in_err-injections.result ≡ Err (why.Passed c.in_err-injections.field-0.0) = search rules in
    rw given c.in_err-injections.ensures.stops
