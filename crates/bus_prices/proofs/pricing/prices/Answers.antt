use Rattle.std.proofs.Common.{rules, Err, ℕ, ◌≡◌, ◌∙◌, ◌<◌, ◌≤◌, ◌+◌, ap, arith, inl, length, map, refl}
use Rattle.std.proofs.lemmas.Result.{IfErr-weaker, IfOk-weaker}
use Rattle.std.proofs.lemmas.List.{length-map}
use Rattle.market_model.specs.Dispatch.{places}
use Rattle.market_model.specs.declared.limits.Row.{Row}
use Rattle.market_model.specs.LimitRows.{row_factor}
use Rattle.market_model.specs.Optimality.{named_rows, price_terms}
use Rattle.market_model.specs.RightAnswers.{price_of_parts}
use Rattle.market_model.specs.SumTables.{price_at as total_at}
use Rattle.market_model.specs.Valued.{dual_at, duals_at, passed_at}
use Rattle.limit_rows.proofs.DualLemmas.{named_count, dual_one_sided, dual_row}
use Rattle.bus_prices.proofs.PriceLemmas.{added_refused, congestion_all, congestion_step, congestion_to, made_of_parts, same_parts, total_refused}
use Rattle.bus_prices.proofs.pricing.prices.Goals as goal

pub found_row-row-requires : goal.found_row-row-requires
found_row-row-requires g c =
    let r = dual_row g.N.Exact.value c.args.market.now c.args.duals.now c.requires.duals c.slice-dual-items.result.now c.loop-dual.dual-index c.dual-item.result
    c.slice-dual-items.ensures c.loop-dual-test.true c.dual-item.is c.lines-lines.ensures.market in
    (r.0, r.1.row, r.1.name)

pub opposite_net_price-requires : goal.opposite_net_price-requires
opposite_net_price-requires g c =
    dual_one_sided g.N.Exact.value c.args.market.now c.args.duals.now c.requires.duals c.slice-dual-items.result.now c.loop-dual.dual-index c.dual-item.result
    c.slice-dual-items.ensures c.loop-dual-test.true c.dual-item.is

pub loop-dual-preserved : goal.loop-dual-preserved
loop-dual-preserved g c =
    let m = c.args.market.now in
    let value = g.N.Exact.value in
    let d = duals_at value c.args.duals.now in
    let k = c.loop-dual.dual-index in
    let r = dual_row value m c.args.duals.now c.requires.duals c.slice-dual-items.result.now k c.dual-item.result c.slice-dual-items.ensures c.loop-dual-test.true c.dual-item.is c.lines-lines.ensures.market in
    let is = c.found_row-row.ensures.is r.0 r.1.row r.1.name in
    same_parts value d.energy _ (λ bus. congestion_to m d bus (k + 1)) _
    (λ bus. congestion_step m d bus k (dual_at value c.dual-item.result) r.0 (value c.opposite_net_price.result) (row_factor m c.found_row-row.result bus) (congestion_to m d bus k) _ r.1 c.opposite_net_price.ensures
    (ap (λ (s : Row). row_factor m s bus) is) refl refl)
    (c.in_ok-add_row.ensures.parts d.energy (λ bus. congestion_to m d bus k) c.loop-dual.invariant)

pub returns-in_err-add_row-clause-stops : goal.returns-in_err-add_row-clause-stops
returns-in_err-add_row-clause-stops g c =
    let m = c.args.market.now in
    let value = g.N.Exact.value in
    let d = duals_at value c.args.duals.now in
    let k = c.loop-dual.dual-index in
    let r = dual_row value m c.args.duals.now c.requires.duals c.slice-dual-items.result.now k c.dual-item.result c.slice-dual-items.ensures c.loop-dual-test.true c.dual-item.is c.lines-lines.ensures.market in
    let is = c.found_row-row.ensures.is r.0 r.1.row r.1.name in
    let given : c.from_residual.result ≡ Err c.in_err-add_row.field-0.0 = search rules in
    rw given (added_refused m d k (dual_at value c.dual-item.result) r.0 c.found_row-row.result (value c.opposite_net_price.result) g.N.Exact.bound (passed_at value c.in_err-add_row.field-0.0) r.1
    c.opposite_net_price.ensures is (c.in_err-add_row.ensures.stops d.energy (λ bus. congestion_to m d bus k) c.loop-dual.invariant))

pub returns-clause-prices : goal.returns-clause-prices
returns-clause-prices g c =
    let m = c.args.market.now in
    let d = duals_at g.N.Exact.value c.args.duals.now in
    let k = c.loop-dual.dual-index in
    let count = named_count m c.lines-lines.ensures.market d c.requires.duals.named in
    let all : length (named_rows m d) ≤ k = omega (arith, c.loop-dual-test.false, ap length c.slice-dual-items.ensures, count, length-map c.args.duals.now.limits (dual_at g.N.Exact.value)) in
    IfOk-weaker c.put_totals.result _ _
    (λ _ is.
    is ∙ ap (λ (n : ℕ). map (λ bus. price_of_parts d.energy (congestion_to m d bus k)) (places n)) (c.loop-dual.auto.out ∙ c.put_energy.auto.out ∙ c.requires.out)
    ∙ made_of_parts m d (λ bus. congestion_to m d bus k) (length m.buses) (λ bus. congestion_all m d bus k all))
    (c.put_totals.ensures.prices d.energy (λ bus. congestion_to m d bus k) c.loop-dual.invariant)

pub returns-clause-stops : goal.returns-clause-stops
returns-clause-stops g c =
    let m = c.args.market.now in
    let d = duals_at g.N.Exact.value c.args.duals.now in
    let k = c.loop-dual.dual-index in
    let count = named_count m c.lines-lines.ensures.market d c.requires.duals.named in
    let all : length (named_rows m d) ≤ k = omega (arith, c.loop-dual-test.false, ap length c.slice-dual-items.ensures, count, length-map c.args.duals.now.limits (dual_at g.N.Exact.value)) in
    IfErr-weaker c.put_totals.result _ _
    (λ p why.
    let inside : why.0 < length m.buses = omega (arith, why.1, c.loop-dual.auto.out, c.requires.out) in
    inl (why.0, inside, (price_terms m d why.0, total_at, total_refused m d why.0 (congestion_to m d why.0 k) g.N.Exact.bound (passed_at g.N.Exact.value p) (congestion_all m d why.0 k all) why.2)))
    (c.put_totals.ensures.stops d.energy (λ bus. congestion_to m d bus k) c.loop-dual.invariant)
