use Rattle.std.proofs.Common.{rules, Err, ◌≡◌, ◌∙◌, ap, arith, sym}
use Rattle.market_model.specs.Valued.{passed_at}
use Rattle.market_model.proofs.RowMembers.{at_places}
use Rattle.cert_sums.specs.Named.{priced_at}
use Rattle.cert_sums.proofs.NamedLemmas.{named_at, named_count, is_row}
use Rattle.cert_sums.proofs.OwnLemmas.{own_none, own_all, own_passed, own_step, own_refused, pickup_stops}
use Rattle.cert_sums.proofs.own_pricing.own_price.Goals as goal
use Rattle.cert_sums.proofs.own_pricing.own_price.Goals.{then-loses_unit+in_ok-factor+in_ok-sum, else-loses_unit}

pub loop-entry-init : goal.loop-entry-init
loop-entry-init g c = λ d price are start. own_none c.args.market.now d price c.args.unit (g.N.Exact.value c.args.at_bus) start

pub loses_unit-requires : goal.loses_unit-requires
loses_unit-requires g c =
    let m = c.args.market.now in
    let k = c.loop-entry.entry-index in
    let h = named_at g.N.Exact.value m c.requires.named.0 c.args.named.now c.requires.named.1 k c.entry-item.result c.loop-entry-test.true c.entry-item.is in
    (at_places m c.lines-lines.ensures.market c.entry-item.result.row (is_row m c.requires.named.0 k (priced_at g.N.Exact.value c.entry-item.result) h)).1

pub row_pickup-requires-clause-line : goal.row_pickup-requires-clause-line
row_pickup-requires-clause-line g c =
    let m = c.args.market.now in
    let k = c.loop-entry.entry-index in
    let h = named_at g.N.Exact.value m c.requires.named.0 c.args.named.now c.requires.named.1 k c.entry-item.result c.loop-entry-test.true c.entry-item.is in
    (at_places m c.lines-lines.ensures.market c.entry-item.result.row (is_row m c.requires.named.0 k (priced_at g.N.Exact.value c.entry-item.result) h)).0

pub row_pickup-requires-clause-lost : goal.row_pickup-requires-clause-lost
row_pickup-requires-clause-lost g c =
    let m = c.args.market.now in
    let k = c.loop-entry.entry-index in
    let h = named_at g.N.Exact.value m c.requires.named.0 c.args.named.now c.requires.named.1 k c.entry-item.result c.loop-entry-test.true c.entry-item.is in
    (at_places m c.lines-lines.ensures.market c.entry-item.result.row (is_row m c.requires.named.0 k (priced_at g.N.Exact.value c.entry-item.result) h)).1

pub loop-entry-preserved : goal.loop-entry-preserved
loop-entry-preserved g c = λ d price are start.
    let m = c.args.market.now in
    let value = g.N.Exact.value in
    let k = c.loop-entry.entry-index in
    let e = priced_at value c.entry-item.result in
    let h = named_at value m d c.args.named.now are k c.entry-item.result c.loop-entry-test.true c.entry-item.is in
    let before = c.loop-entry.invariant d price are start in
    elim c.if-loses_unit.branch [
      | then-loses_unit+in_ok-factor+in_ok-sum w ↦ ap value w.sum-is
          ∙ own_step m d price c.args.unit k e h (sym c.loses_unit.ensures ∙ w.if-loses_unit.true) _ (value c.loop-entry.sum) _ w.in_ok-factor.ensures.factor before w.in_ok-sum.ensures.sum
      | else-loses_unit w ↦ ap value w.sum-is ∙ own_passed m d price c.args.unit k e h (value c.loop-entry.sum) (sym c.loses_unit.ensures ∙ w.if-loses_unit.false) before
    ]

pub returns-clause-price : goal.returns-clause-price
returns-clause-price g c = λ d price are start.
    c.loop-entry.invariant d price are start
    ∙ own_all c.args.market.now d price c.args.unit c.loop-entry.entry-index (omega (arith, c.loop-entry-test.false, named_count g.N.Exact.value c.args.market.now d c.args.named.now are))

pub returns-in_err-factor-clause-stops : goal.returns-in_err-factor-clause-stops
returns-in_err-factor-clause-stops g c = λ d price are start.
    let m = c.args.market.now in
    let k = c.loop-entry.entry-index in
    let h = named_at g.N.Exact.value m d c.args.named.now are k c.entry-item.result c.loop-entry-test.true c.entry-item.is in
    let given : c.from_residual.result ≡ Err c.in_err-factor.field-0.0 = search rules in
    rw given
    (pickup_stops m d price c.args.unit k (priced_at g.N.Exact.value c.entry-item.result) h g.N.Exact.bound (passed_at g.N.Exact.value c.in_err-factor.field-0.0) c.in_err-factor.ensures.stops)

pub returns-in_err-sum-clause-stops : goal.returns-in_err-sum-clause-stops
returns-in_err-sum-clause-stops g c = λ d price are start.
    let m = c.args.market.now in
    let k = c.loop-entry.entry-index in
    let h = named_at g.N.Exact.value m d c.args.named.now are k c.entry-item.result c.loop-entry-test.true c.entry-item.is in
    let given : c.from_residual-in_err-sum.result ≡ Err c.in_err-sum.field-0.0 = search rules in
    rw given
    (own_refused m d price c.args.unit k (priced_at g.N.Exact.value c.entry-item.result) h (sym c.loses_unit.ensures ∙ c.if-loses_unit.true) g.N.Exact.bound (passed_at g.N.Exact.value c.in_err-sum.field-0.0)
    _ (g.N.Exact.value c.loop-entry.sum) c.requires.unit c.in_ok-factor.ensures.factor (c.loop-entry.invariant d price are start) c.in_err-sum.ensures.stops)
