use Rattle.std.proofs.Common.{rules, Err, ◌≡◌, ◌∙◌, arith}
use Rattle.market_model.specs.Dispatch.{empty}
use Rattle.market_model.specs.Valued.{passed_at}
use Rattle.market_model.proofs.RowMembers.{at_places}
use Rattle.cert_sums.specs.Named.{priced_at}
use Rattle.cert_sums.proofs.BoundLemmas.{limits_none, limits_all, limits_step, limit_refused}
use Rattle.cert_sums.proofs.NamedLemmas.{named_at, named_count, is_row, priced_is}
use Rattle.cert_sums.proofs.bounding.with_limits.Goals as goal

pub loop-entry-init : goal.loop-entry-init
loop-entry-init g c = λ d are flows start. limits_none c.args.market.now d (g.N.Exact.value c.args.of_energy) start

pub with_limit-requires-clause-line : goal.with_limit-requires-clause-line
with_limit-requires-clause-line g c =
    let m = c.args.market.now in
    let k = c.loop-entry.entry-index in
    let h = named_at g.N.Exact.value m c.requires.named.0 c.args.named.now c.requires.named.1 k c.entry-item.result c.loop-entry-test.true c.entry-item.is in
    (at_places m c.lines-lines.ensures.market c.entry-item.result.row (is_row m c.requires.named.0 k (priced_at g.N.Exact.value c.entry-item.result) h)).0

pub with_limit-requires-clause-lost : goal.with_limit-requires-clause-lost
with_limit-requires-clause-lost g c =
    let m = c.args.market.now in
    let k = c.loop-entry.entry-index in
    let h = named_at g.N.Exact.value m c.requires.named.0 c.args.named.now c.requires.named.1 k c.entry-item.result c.loop-entry-test.true c.entry-item.is in
    (at_places m c.lines-lines.ensures.market c.entry-item.result.row (is_row m c.requires.named.0 k (priced_at g.N.Exact.value c.entry-item.result) h)).1

pub loop-entry-preserved : goal.loop-entry-preserved
loop-entry-preserved g c = λ d are flows start.
    let m = c.args.market.now in
    let k = c.loop-entry.entry-index in
    let e = priced_at g.N.Exact.value c.entry-item.result in
    let h = named_at g.N.Exact.value m d c.args.named.now are k c.entry-item.result c.loop-entry-test.true c.entry-item.is in
    limits_step m d k e h (g.N.Exact.value c.loop-entry.sum) _ (c.loop-entry.invariant d are flows start) (c.in_ok-sum.ensures.sum d (priced_is m d k e h) flows)

pub returns-clause-sum : goal.returns-clause-sum
returns-clause-sum g c = λ d are flows start.
    c.loop-entry.invariant d are flows start
    ∙ limits_all c.args.market.now d c.loop-entry.entry-index (omega (arith, c.loop-entry-test.false, named_count g.N.Exact.value c.args.market.now d c.args.named.now are))

pub returns-in_err-sum-clause-stops : goal.returns-in_err-sum-clause-stops
returns-in_err-sum-clause-stops g c =
    let m = c.args.market.now in
    let k = c.loop-entry.entry-index in
    let given : c.from_residual.result ≡ Err c.in_err-sum.field-0.0 = search rules in
    λ d are flows start. rw given
    (limit_refused m d k (priced_at g.N.Exact.value c.entry-item.result) (named_at g.N.Exact.value m d c.args.named.now are k c.entry-item.result c.loop-entry-test.true c.entry-item.is)
    (g.N.Exact.value c.loop-entry.sum) g.N.Exact.bound (passed_at g.N.Exact.value c.in_err-sum.field-0.0) (c.loop-entry.invariant d are flows start) (c.in_err-sum.ensures.stops (empty m) flows))
