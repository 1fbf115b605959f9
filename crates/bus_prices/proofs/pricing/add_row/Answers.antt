use Rattle.std.proofs.Common.{rules, Err, inr, ◌≡◌, ◌<◌, ◌∙◌, length, ap₂, arith}
use Rattle.fraction_theory.specs.Fraction.{◌+ℚ◌, ◌*ℚ◌}
use Rattle.market_model.specs.LimitRows.{row_factor}
use Rattle.market_model.specs.SumTables.{factor_at_bus}
use Rattle.bus_prices.proofs.PriceLemmas.{part_put, read_congestion, read_energy, still_left}
use Rattle.bus_prices.proofs.pricing.add_row.Goals as goal

pub loop-bus-preserved : goal.loop-bus-preserved
loop-bus-preserved g c =
    let value = g.N.Exact.value in
    let i = c.loop-bus.bus in
    let old = c.args.out.now in
    let inside : i < length c.loop-bus.out = omega (arith, c.loop-bus-test.true) in
    let was_inside : i < length old = omega (arith, inside, c.loop-bus.auto.out) in
    record {
      done = λ energy before h.
          part_put value energy (λ bus. before bus +ℚ value c.args.price *ℚ row_factor c.args.market.now c.args.row bus) i c.loop-bus.out _ inside (c.loop-bus.invariant.done energy before h)
          (read_energy value energy before old c.loop-bus.out i c.index-out-bus.result was_inside h c.loop-bus.invariant.left)
          (c.in_ok-congestion.ensures.exact
          ∙ ap₂ (λ u v. u +ℚ value c.args.price *ℚ v) (read_congestion value energy before old c.loop-bus.out i c.index-out-bus.result was_inside h c.loop-bus.invariant.left) c.in_ok-row_factor.ensures.factor);
      left = still_left old c.loop-bus.out i _ c.loop-bus.invariant.left;
    }

pub returns-in_err-row_factor-clause-stops : goal.returns-in_err-row_factor-clause-stops
returns-in_err-row_factor-clause-stops g c =
    let inside : c.loop-bus.bus < length c.args.market.now.buses = omega (arith, c.loop-bus-test.true, c.loop-bus.auto.out, c.requires.out) in
    let given : c.from_residual.result ≡ Err c.in_err-row_factor.field-0.0 = search rules in
    λ energy before h. rw given (inr (_, factor_at_bus c.loop-bus.bus inside, c.in_err-row_factor.ensures.stops))
