use Rattle.std.proofs.Common.{rules, Err, refl, ◌≡◌, ◌∙◌, ap, ap₂, length, map}
use Rattle.fraction_theory.specs.Fraction.{◌*ℚ◌}
use Rattle.exact_fraction.specs.declared.Op.TheVariants.{Times}
use Rattle.market_model.specs.Dispatch.{empty}
use Rattle.market_model.specs.Valued.{passed_at}
use Rattle.market_model.proofs.StopLemmas.{on_passed_weaker}
use Rattle.market_model.proofs.SumSteps.{product_too_large, refusal}
use Rattle.market_model.specs.declared.stops.Stop.TheVariants as why
use Rattle.cert_sums.proofs.BoundLemmas.{nothing_is, nothing_put, nothing_put_by, nothing_carried, injection_pair, carried_pair_of, balance_pair, energy_refused}
use Rattle.cert_sums.proofs.bounding.farkas_bound.Goals as goal

pub returns-in_err-by_bus-clause-stops : goal.returns-in_err-by_bus-clause-stops
returns-in_err-by_bus-clause-stops g c =
    let m = c.args.market.now in
    let value = g.N.Exact.value in
    let is = nothing_is value m c.deref.result.now c.in_ok-nothing.nothing.items _ c.deref.ensures.value c.in_ok-nothing.ensures.zeros (c.len.ensures ∙ ap length c.blocks-2.ensures.list) in
    let given : c.from_residual-in_err-by_bus.result ≡ Err c.in_err-by_bus.field-0.0 = search rules in
    λ d energy are priced rooms. rw given
    (on_passed_weaker c.in_err-by_bus.field-0.0 _ _
    (λ p. injection_pair m (map value c.deref.result.now) is d g.N.Exact.bound (passed_at value p)) c.in_err-by_bus.ensures.stops)

pub returns-in_err-carried-clause-stops : goal.returns-in_err-carried-clause-stops
returns-in_err-carried-clause-stops g c =
    let m = c.args.market.now in
    let value = g.N.Exact.value in
    let is = nothing_is value m c.deref.result.now c.in_ok-nothing.nothing.items _ c.deref.ensures.value c.in_ok-nothing.ensures.zeros (c.len.ensures ∙ ap length c.blocks-2.ensures.list) in
    let is-2 = nothing_is value m c.deref-2.result.now c.in_ok-nothing.nothing.items _ c.deref-2.ensures.value c.in_ok-nothing.ensures.zeros (c.len.ensures ∙ ap length c.blocks-2.ensures.list) in
    let puts = nothing_put m (map value c.deref.result.now) is (map value c.deref-3.result.now) (ap (map value) c.deref-3.ensures.value ∙ c.in_ok-by_bus.ensures.injections) in
    let own = nothing_put_by m (map value c.deref-2.result.now) is-2 (map value c.deref-3.result.now) puts in
    let given : c.from_residual-in_err-carried.result ≡ Err c.in_err-carried.field-0.0 = search rules in
    λ d energy are priced rooms. rw given
    (on_passed_weaker c.in_err-carried.field-0.0 _ _
    (λ p. carried_pair_of m (map value c.deref-2.result.now) is-2 d g.N.Exact.bound (passed_at value p)) (c.in_err-carried.ensures.stops own))

pub returns-in_err-all-clause-stops : goal.returns-in_err-all-clause-stops
returns-in_err-all-clause-stops g c =
    let m = c.args.market.now in
    let value = g.N.Exact.value in
    let is = nothing_is value m c.deref.result.now c.in_ok-nothing.nothing.items _ c.deref.ensures.value c.in_ok-nothing.ensures.zeros (c.len.ensures ∙ ap length c.blocks-2.ensures.list) in
    let all = nothing_put m (map value c.deref.result.now) is (map value c.deref-4.result.now) (ap (map value) c.deref-4.ensures.value ∙ c.in_ok-by_bus.ensures.injections) in
    let given : c.from_residual-in_err-all.result ≡ Err (why.Passed c.in_err-all.field-0.0) = search rules in
    λ d energy are priced rooms. rw given (balance_pair m d g.N.Exact.bound (passed_at value c.in_err-all.field-0.0) (c.in_err-all.ensures.stops (empty m) all))

pub returns-in_err-of_energy-clause-stops : goal.returns-in_err-of_energy-clause-stops
returns-in_err-of_energy-clause-stops g c =
    let m = c.args.market.now in
    let value = g.N.Exact.value in
    let is = nothing_is value m c.deref.result.now c.in_ok-nothing.nothing.items _ c.deref.ensures.value c.in_ok-nothing.ensures.zeros (c.len.ensures ∙ ap length c.blocks-2.ensures.list) in
    let all = nothing_put m (map value c.deref.result.now) is (map value c.deref-4.result.now) (ap (map value) c.deref-4.ensures.value ∙ c.in_ok-by_bus.ensures.injections) in
    let given : c.from_residual-in_err-of_energy.result ≡ Err (why.Passed c.in_err-of_energy.field-0.0) = search rules in
    λ d energy are priced rooms. rw given
    (energy_refused m d (value c.in_ok-all.all) g.N.Exact.bound (passed_at value c.in_err-of_energy.field-0.0) (c.in_ok-all.ensures.sum (empty m) all)
    (refusal value g.N.Exact.bound Times c.args.energy c.in_ok-all.all d.energy _ c.in_err-of_energy.field-0.0 energy refl
    (product_too_large value g.N.Exact.bound c.args.energy c.in_ok-all.all c.in_err-of_energy.field-0.0 c.in_err-of_energy.ensures)))

pub returns-in_err-of_limits-clause-stops : goal.returns-in_err-of_limits-clause-stops
returns-in_err-of_limits-clause-stops g c =
    let m = c.args.market.now in
    let value = g.N.Exact.value in
    let is = nothing_is value m c.deref.result.now c.in_ok-nothing.nothing.items _ c.deref.ensures.value c.in_ok-nothing.ensures.zeros (c.len.ensures ∙ ap length c.blocks-2.ensures.list) in
    let is-2 = nothing_is value m c.deref-2.result.now c.in_ok-nothing.nothing.items _ c.deref-2.ensures.value c.in_ok-nothing.ensures.zeros (c.len.ensures ∙ ap length c.blocks-2.ensures.list) in
    let puts = nothing_put m (map value c.deref.result.now) is (map value c.deref-3.result.now) (ap (map value) c.deref-3.ensures.value ∙ c.in_ok-by_bus.ensures.injections) in
    let own = nothing_put_by m (map value c.deref-2.result.now) is-2 (map value c.deref-3.result.now) puts in
    let all = nothing_put m (map value c.deref.result.now) is (map value c.deref-4.result.now) (ap (map value) c.deref-4.ensures.value ∙ c.in_ok-by_bus.ensures.injections) in
    let flows = nothing_carried m (map value c.deref-2.result.now) is-2 (map value c.deref-5.result.now) (ap (map value) c.deref-5.ensures.value ∙ c.in_ok-carried.ensures.carried own) in
    let given : c.from_residual-in_err-of_limits.result ≡ Err (why.Passed c.in_err-of_limits.field-0.0) = search rules in
    λ d energy are priced rooms. rw given (c.in_err-of_limits.ensures.stops d are flows (c.in_ok-of_energy.ensures.exact ∙ ap₂ ◌*ℚ◌ energy (c.in_ok-all.ensures.sum (empty m) all)))

pub returns-in_err-with_reserve-clause-stops : goal.returns-in_err-with_reserve-clause-stops
returns-in_err-with_reserve-clause-stops g c =
    let m = c.args.market.now in
    let value = g.N.Exact.value in
    let is = nothing_is value m c.deref.result.now c.in_ok-nothing.nothing.items _ c.deref.ensures.value c.in_ok-nothing.ensures.zeros (c.len.ensures ∙ ap length c.blocks-2.ensures.list) in
    let is-2 = nothing_is value m c.deref-2.result.now c.in_ok-nothing.nothing.items _ c.deref-2.ensures.value c.in_ok-nothing.ensures.zeros (c.len.ensures ∙ ap length c.blocks-2.ensures.list) in
    let puts = nothing_put m (map value c.deref.result.now) is (map value c.deref-3.result.now) (ap (map value) c.deref-3.ensures.value ∙ c.in_ok-by_bus.ensures.injections) in
    let own = nothing_put_by m (map value c.deref-2.result.now) is-2 (map value c.deref-3.result.now) puts in
    let all = nothing_put m (map value c.deref.result.now) is (map value c.deref-4.result.now) (ap (map value) c.deref-4.ensures.value ∙ c.in_ok-by_bus.ensures.injections) in
    let flows = nothing_carried m (map value c.deref-2.result.now) is-2 (map value c.deref-5.result.now) (ap (map value) c.deref-5.ensures.value ∙ c.in_ok-carried.ensures.carried own) in
    let given : c.from_residual-in_err-with_reserve.result ≡ Err (why.Passed c.in_err-with_reserve.field-0.0) = search rules in
    λ d energy are priced rooms. rw given
    (c.in_err-with_reserve.ensures.stops d energy are priced rooms
    (c.in_ok-of_limits.ensures.sum d are flows (c.in_ok-of_energy.ensures.exact ∙ ap₂ ◌*ℚ◌ energy (c.in_ok-all.ensures.sum (empty m) all))))

pub returns-clause-bound : goal.returns-clause-bound
returns-clause-bound g c =
    let m = c.args.market.now in
    let value = g.N.Exact.value in
    let is = nothing_is value m c.deref.result.now c.in_ok-nothing.nothing.items _ c.deref.ensures.value c.in_ok-nothing.ensures.zeros (c.len.ensures ∙ ap length c.blocks-2.ensures.list) in
    let is-2 = nothing_is value m c.deref-2.result.now c.in_ok-nothing.nothing.items _ c.deref-2.ensures.value c.in_ok-nothing.ensures.zeros (c.len.ensures ∙ ap length c.blocks-2.ensures.list) in
    let puts = nothing_put m (map value c.deref.result.now) is (map value c.deref-3.result.now) (ap (map value) c.deref-3.ensures.value ∙ c.in_ok-by_bus.ensures.injections) in
    let own = nothing_put_by m (map value c.deref-2.result.now) is-2 (map value c.deref-3.result.now) puts in
    let all = nothing_put m (map value c.deref.result.now) is (map value c.deref-4.result.now) (ap (map value) c.deref-4.ensures.value ∙ c.in_ok-by_bus.ensures.injections) in
    let flows = nothing_carried m (map value c.deref-2.result.now) is-2 (map value c.deref-5.result.now) (ap (map value) c.deref-5.ensures.value ∙ c.in_ok-carried.ensures.carried own) in
    λ d energy are priced rooms.
    c.in_ok-with_reserve.ensures.bound d energy are priced rooms
    (c.in_ok-of_limits.ensures.sum d are flows (c.in_ok-of_energy.ensures.exact ∙ ap₂ ◌*ℚ◌ energy (c.in_ok-all.ensures.sum (empty m) all)))
