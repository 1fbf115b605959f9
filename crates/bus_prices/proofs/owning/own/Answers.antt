use Rattle.std.proofs.Common.{rules, Err, ◌≡◌, ◌≤◌, ◌∙◌, ◌+◌, ap, arith, length, map}
use Rattle.std.proofs.lemmas.List.{length-map}
use Rattle.fraction_theory.specs.Fraction.{◌+ℚ◌}
use Rattle.market_model.specs.declared.answered.RowId.{RowId}
use Rattle.market_model.specs.Dispatch.{unit_at}
use Rattle.market_model.specs.LimitRows.{unit_of}
use Rattle.market_model.specs.Optimality.{named_rows, own_price}
use Rattle.market_model.specs.Valued.{dual_at, duals_at, passed_at, total_at}
use Rattle.market_model.proofs.PlaceLists.{map_same}
use Rattle.market_model.proofs.RowMembers.{at_places}
use Rattle.limit_rows.proofs.DualLemmas.{dual_one_sided, dual_row, named_count}
use Rattle.bus_prices.specs.PriceParts.{added_to_own}
use Rattle.bus_prices.proofs.OwnLemmas.{no_unit, own_all, own_none, own_same, own_step, own_to, share_refused}
use Rattle.bus_prices.proofs.owning.own.Goals as goal
use Rattle.bus_prices.proofs.owning.own.Goals.{then-dual-ne0+in_ok-add_pickup, else-dual-ne0}

pub loop-dual-init : goal.loop-dual-init
loop-dual-init g c =
    let m = c.args.market.now in
    let value = g.N.Exact.value in
    let price = total_at value c.args.prices.now in
    c.put_bus_prices.ensures.prices
    ∙ map_same (λ u. price (unit_at m u).bus) (λ u. own_to m (duals_at value c.args.duals.now) price u 0) (length m.units) (λ u lt. own_none m (duals_at value c.args.duals.now) price u)

pub found_row-row-requires : goal.found_row-row-requires
found_row-row-requires g c =
    let r = dual_row g.N.Exact.value c.args.market.now c.args.duals.now c.requires.duals c.slice-dual-items.result.now c.loop-dual.dual-index c.dual-item.result
    c.slice-dual-items.ensures c.loop-dual-test.true c.dual-item.is c.lines-lines.ensures.market in
    (r.0, r.1.row, r.1.name)

pub opposite_net_price-requires : goal.opposite_net_price-requires
opposite_net_price-requires g c =
    dual_one_sided g.N.Exact.value c.args.market.now c.args.duals.now c.requires.duals c.slice-dual-items.result.now c.loop-dual.dual-index c.dual-item.result
    c.slice-dual-items.ensures c.loop-dual-test.true c.dual-item.is

pub returns-in_err-add_pickup-clause-stops : goal.returns-in_err-add_pickup-clause-stops
returns-in_err-add_pickup-clause-stops g c =
    let m = c.args.market.now in
    let value = g.N.Exact.value in
    let d = duals_at value c.args.duals.now in
    let price = total_at value c.args.prices.now in
    let k = c.loop-dual.dual-index in
    let r = dual_row value m c.args.duals.now c.requires.duals c.slice-dual-items.result.now k c.dual-item.result c.slice-dual-items.ensures c.loop-dual-test.true c.dual-item.is c.lines-lines.ensures.market in
    let is = c.found_row-row.ensures.is r.0 r.1.row r.1.name in
    let given : c.from_residual.result ≡ Err c.in_err-add_pickup.field-0.0 = search rules in
    rw given
    (share_refused m d price k (dual_at value c.dual-item.result) r.0 c.found_row-row.result (value c.opposite_net_price.result) g.N.Exact.bound (passed_at value c.in_err-add_pickup.field-0.0) r.1
    c.opposite_net_price.ensures is (c.in_err-add_pickup.ensures.stops (λ u. own_to m d price u k) c.loop-dual.invariant))

pub loop-dual-preserved : goal.loop-dual-preserved
loop-dual-preserved g c =
    let m = c.args.market.now in
    let value = g.N.Exact.value in
    let d = duals_at value c.args.duals.now in
    let price = total_at value c.args.prices.now in
    let k = c.loop-dual.dual-index in
    let e = dual_at value c.dual-item.result in
    let market = c.lines-lines.ensures.market in
    let r = dual_row value m c.args.duals.now c.requires.duals c.slice-dual-items.result.now k c.dual-item.result c.slice-dual-items.ensures c.loop-dual-test.true c.dual-item.is market in
    elim c.if-dual-ne0.branch [
      | then-dual-ne0+in_ok-add_pickup w ↦
          let is = w.found_row-row.ensures.is r.0 r.1.row r.1.name in
          ap (map value) w.out-is ∙ w.in_ok-add_pickup.ensures.own (λ u. own_to m d price u k) c.loop-dual.invariant
          ∙ map_same (λ u. own_to m d price u k +ℚ added_to_own m w.found_row-row.result (value w.opposite_net_price.result) u) (λ u. own_to m d price u (k + 1)) (length m.units)
          (λ u lt. own_step m d price u k e r.0 r.1 w.found_row-row.result (value w.opposite_net_price.result) w.opposite_net_price.ensures is)
      | else-dual-ne0 w ↦
          let none : unit_of m r.0.cause ≡ 0 = ap (λ (id : RowId). id.unit) r.1.name ∙ w.if-dual-ne0.false in
          ap (map value) w.out-is ∙ c.loop-dual.invariant
          ∙ map_same (λ u. own_to m d price u k) (λ u. own_to m d price u (k + 1)) (length m.units)
          (λ u lt. own_same m d price u k e r.0 r.1 (no_unit m market r.0.cause (at_places m market r.0 r.1.row).1 none u))
    ]

pub returns-clause-own : goal.returns-clause-own
returns-clause-own g c =
    let m = c.args.market.now in
    let d = duals_at g.N.Exact.value c.args.duals.now in
    let price = total_at g.N.Exact.value c.args.prices.now in
    let k = c.loop-dual.dual-index in
    let count = named_count m c.lines-lines.ensures.market d c.requires.duals.named in
    let all : length (named_rows m d) ≤ k = omega (arith, c.loop-dual-test.false, ap length c.slice-dual-items.ensures, count, length-map c.args.duals.now.limits (dual_at g.N.Exact.value)) in
    c.loop-dual.invariant ∙ map_same (λ u. own_to m d price u k) (own_price m d price) (length m.units) (λ u lt. own_all m d price u k all)
