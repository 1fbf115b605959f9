use Rattle.std.proofs.Common.{rules, Err, ◌≡◌, ◌∙◌, arith}
use Rattle.market_model.specs.Valued.{passed_at}
use Rattle.market_model.proofs.RowMembers.{at_places}
use Rattle.cert_sums.specs.Named.{priced_at}
use Rattle.cert_sums.proofs.NamedLemmas.{named_at, named_count, is_row, congestion_step, congestion_all, congestion_refused, factor_stops}
use Rattle.cert_sums.proofs.pricing.congestion_at.Goals as goal

pub loop-entry-init : goal.loop-entry-init
loop-entry-init g c = λ d are. c.datum-sum.ensures

pub row_factor-requires-clause-line : goal.row_factor-requires-clause-line
row_factor-requires-clause-line g c =
    let m = c.args.market.now in
    let k = c.loop-entry.entry-index in
    let h = named_at g.N.Exact.value m c.requires.named.0 c.args.named.now c.requires.named.1 k c.entry-item.result c.loop-entry-test.true c.entry-item.is in
    (at_places m c.lines-lines.ensures.market c.entry-item.result.row (is_row m c.requires.named.0 k (priced_at g.N.Exact.value c.entry-item.result) h)).0

pub row_factor-requires-clause-lost : goal.row_factor-requires-clause-lost
row_factor-requires-clause-lost g c =
    let m = c.args.market.now in
    let k = c.loop-entry.entry-index in
    let h = named_at g.N.Exact.value m c.requires.named.0 c.args.named.now c.requires.named.1 k c.entry-item.result c.loop-entry-test.true c.entry-item.is in
    (at_places m c.lines-lines.ensures.market c.entry-item.result.row (is_row m c.requires.named.0 k (priced_at g.N.Exact.value c.entry-item.result) h)).1

pub loop-entry-preserved : goal.loop-entry-preserved
loop-entry-preserved g c = λ d are.
    let m = c.args.market.now in
    let k = c.loop-entry.entry-index in
    congestion_step m d c.args.bus k (priced_at g.N.Exact.value c.entry-item.result) (named_at g.N.Exact.value m d c.args.named.now are k c.entry-item.result c.loop-entry-test.true c.entry-item.is)
    _ (g.N.Exact.value c.loop-entry.sum) _ c.in_ok-factor.ensures.factor (c.loop-entry.invariant d are) c.in_ok-sum.ensures.sum

pub returns-clause-sum : goal.returns-clause-sum
returns-clause-sum g c = λ d are.
    c.loop-entry.invariant d are
    ∙ congestion_all c.args.market.now d c.args.bus c.loop-entry.entry-index (omega (arith, c.loop-entry-test.false, named_count g.N.Exact.value c.args.market.now d c.args.named.now are))

pub returns-in_err-sum-clause-stops : goal.returns-in_err-sum-clause-stops
returns-in_err-sum-clause-stops g c =
    let m = c.args.market.now in
    let k = c.loop-entry.entry-index in
    let given : c.from_residual-in_err-sum.result ≡ Err c.in_err-sum.field-0.0 = search rules in
    λ d are. rw given
    (congestion_refused m d c.args.bus k (priced_at g.N.Exact.value c.entry-item.result) (named_at g.N.Exact.value m d c.args.named.now are k c.entry-item.result c.loop-entry-test.true c.entry-item.is)
    _ (g.N.Exact.value c.loop-entry.sum) g.N.Exact.bound (passed_at g.N.Exact.value c.in_err-sum.field-0.0)
    c.in_ok-factor.ensures.factor (c.loop-entry.invariant d are) c.in_err-sum.ensures.stops)

pub returns-in_err-factor-clause-stops : goal.returns-in_err-factor-clause-stops
returns-in_err-factor-clause-stops g c =
    let m = c.args.market.now in
    let k = c.loop-entry.entry-index in
    let given : c.from_residual.result ≡ Err c.in_err-factor.field-0.0 = search rules in
    λ d are. rw given
    (factor_stops m d c.args.bus k (priced_at g.N.Exact.value c.entry-item.result) (named_at g.N.Exact.value m d c.args.named.now are k c.entry-item.result c.loop-entry-test.true c.entry-item.is)
    g.N.Exact.bound (passed_at g.N.Exact.value c.in_err-factor.field-0.0) c.requires.bus c.in_err-factor.ensures.stops)
