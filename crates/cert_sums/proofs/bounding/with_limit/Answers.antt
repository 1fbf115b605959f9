use Rattle.std.proofs.Common.{rules, Err, ◌≡◌, ◌∙◌, map}
use Rattle.std.proofs.lemmas.Result.{IfOk-weaker, IfErr-weaker}
use Rattle.market_model.specs.Dispatch.{empty}
use Rattle.market_model.specs.Valued.{passed_at}
use Rattle.cert_sums.specs.Named.{priced_at}
use Rattle.cert_sums.specs.Refusals.{in_flow, in_most}
use Rattle.cert_sums.proofs.BoundLemmas.{above_side, below_side, left_sum}
use Rattle.cert_sums.proofs.CarriedLemmas.{flow_there, refused_there}
use Rattle.cert_sums.proofs.bounding.with_limit.Goals as goal

pub returns-in_err-flow-clause-stops : goal.returns-in_err-flow-clause-stops
returns-in_err-flow-clause-stops g c = λ x are.
    let value = g.N.Exact.value in
    let given : c.from_residual.result ≡ Err c.in_err-flow.field-0.0 = search rules in
    rw given
    (in_flow (refused_there c.args.market.now x (map value c.args.carried.now) are c.args.entry.now.row c.requires.line c.requires.lost g.N.Exact.bound (passed_at value c.in_err-flow.field-0.0) c.in_err-flow.ensures.stops))

pub returns-in_err-most-clause-stops : goal.returns-in_err-most-clause-stops
returns-in_err-most-clause-stops g c = λ x are.
    let given : c.from_residual-in_err-most.result ≡ Err c.in_err-most.field-0.0 = search rules in
    rw given (in_most c.in_err-most.ensures.stops)

pub returns-clause-sum : goal.returns-clause-sum
returns-clause-sum g c = λ d priced are.
    let m = c.args.market.now in
    let value = g.N.Exact.value in
    let there = flow_there m (empty m) (map value c.args.carried.now) are c.args.entry.now.row c.requires.line c.requires.lost in
    IfOk-weaker c.with_below.result _ _
    (λ more e. left_sum m d (priced_at value c.args.entry.now) (value c.args.sum) (value c.in_ok-above.above) (value more) (value c.in_ok-most.most) (value c.in_ok-flow.flow) priced
    c.in_ok-most.ensures.most (c.in_ok-flow.ensures.flow ∙ there) c.in_ok-above.ensures.sum e)
    c.with_below.ensures.sum

pub returns-in_err-above-clause-stops : goal.returns-in_err-above-clause-stops
returns-in_err-above-clause-stops g c = λ x are.
    let value = g.N.Exact.value in
    let given : c.from_residual-in_err-above.result ≡ Err c.in_err-above.field-0.0 = search rules in
    let there = flow_there c.args.market.now x (map value c.args.carried.now) are c.args.entry.now.row c.requires.line c.requires.lost in
    rw given
    (above_side c.args.market.now x (priced_at value c.args.entry.now) (value c.args.sum) (value c.in_ok-most.most) (value c.in_ok-flow.flow) g.N.Exact.bound (passed_at value c.in_err-above.field-0.0)
    c.in_ok-most.ensures.most (c.in_ok-flow.ensures.flow ∙ there) c.in_err-above.ensures.stops)

pub returns-clause-stops : goal.returns-clause-stops
returns-clause-stops g c = λ x are.
    let value = g.N.Exact.value in
    let there = flow_there c.args.market.now x (map value c.args.carried.now) are c.args.entry.now.row c.requires.line c.requires.lost in
    IfErr-weaker c.with_below.result _ _
    (λ p h. below_side c.args.market.now x (priced_at value c.args.entry.now) (value c.args.sum) (value c.in_ok-most.most) (value c.in_ok-flow.flow) g.N.Exact.bound (passed_at value p)
    c.in_ok-most.ensures.most (c.in_ok-flow.ensures.flow ∙ there) (value c.in_ok-above.above) c.in_ok-above.ensures.sum h)
    c.with_below.ensures.stops
