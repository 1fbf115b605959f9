use Rattle.std.proofs.Common.{rules, Err, ◌≡◌, ◌∙◌, ap₂, map}
use Rattle.fraction_theory.specs.Fraction.{Fraction}
use Rattle.market_model.specs.Valued.{passed_at}
use Rattle.cert_sums.proofs.CarriedLemmas.{flow_there, refused_there}
use Rattle.cert_verify.specs.Reasons.{passes}
use Rattle.cert_verify.specs.Stops.{of_most}
use Rattle.cert_verify.proofs.RowLemmas.{limit_pair}
use Rattle.cert_verify.proofs.limits.is_overloaded.Goals as goal

pub returns-in_err-flow-clause-stops : goal.returns-in_err-flow-clause-stops
returns-in_err-flow-clause-stops g c =
    let given : c.from_residual.result ≡ Err c.in_err-flow.field-0.0 = search rules in
    λ x are. rw given
    (limit_pair c.args.market.now x c.args.row g.N.Exact.bound (passed_at g.N.Exact.value c.in_err-flow.field-0.0) c.requires.listed
    (refused_there c.args.market.now x (map g.N.Exact.value c.args.carried.now) are c.args.row c.requires.line c.requires.lost g.N.Exact.bound (passed_at g.N.Exact.value c.in_err-flow.field-0.0) c.in_err-flow.ensures.stops))

pub returns-in_err-most-clause-stops : goal.returns-in_err-most-clause-stops
returns-in_err-most-clause-stops g c =
    let given : c.from_residual-in_err-most.result ≡ Err c.in_err-most.field-0.0 = search rules in
    λ x are. rw given (of_most c.args.row c.requires.listed c.in_err-most.ensures.stops)

pub returns-clause-broken : goal.returns-clause-broken
returns-clause-broken g c = λ x are.
    c.passes.ensures
    ∙ ap₂ (λ (f l : Fraction). passes f l)
    (c.in_ok-flow.ensures.flow ∙ flow_there c.args.market.now x (map g.N.Exact.value c.args.carried.now) are c.args.row c.requires.line c.requires.lost) c.in_ok-most.ensures.most
