use Rattle.std.proofs.Common.{rules, Err, ◌≡◌, ◌∙◌, ap, sym, map}
use Rattle.market_model.specs.Optimality.{energy_worth}
use Rattle.market_model.specs.declared.stops.Stop.TheVariants as why
use Rattle.cert_verify.proofs.NamingLemmas.{price_more, pushed}
use Rattle.cert_verify.proofs.against.energy_worths.Goals as goal

pub returns-in_err-worth-clause-stops : goal.returns-in_err-worth-clause-stops
returns-in_err-worth-clause-stops g c =
    let given : c.from_residual.result ≡ Err (why.Passed c.in_err-worth.field-0.0) = search rules in
    λ d price rows rooms. rw given (c.in_err-worth.ensures.stops d price rows rooms)

pub loop-unit-preserved : goal.loop-unit-preserved
loop-unit-preserved g c = λ d price rows rooms.
    ap (map g.N.Exact.value) (pushed c.push.result _ _ c.push.ensures (sym c.is_err.ensures.value ∙ c.if-is_err.false))
    ∙ price_more g.N.Exact.value (energy_worth c.args.market.now d) c.loop-unit.worths c.in_ok-worth.worth c.loop-unit.unit (c.loop-unit.invariant d price rows rooms) (c.in_ok-worth.ensures.worth d price rows rooms)
