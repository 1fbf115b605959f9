use Rattle.std.proofs.Common.{◌≡◌, Err, map, refl, rules}
use Rattle.exact_fraction.specs.declared.Op.TheVariants.{Plus}
use Rattle.market_model.specs.Valued.{dual_at, passed_at}
use Rattle.market_model.proofs.SumSteps.{refusal}
use Rattle.price_search.proofs.CapSums.{down_refused, item_at, item_inside, limit_step, up_refused}
use Rattle.price_search.proofs.caps.sum_of_limits.Goals as goal

pub returns-in_err-with_up-clause-stops : goal.returns-in_err-with_up-clause-stops
returns-in_err-with_up-clause-stops g c = λ rest.
    let value = g.N.Exact.value in
    let xs = c.args.limits.now in
    let k = c.loop-dual.dual-index in
    let item = c.dual-item.result in
    let inside = item_inside (dual_at value) xs k c.loop-dual-test.true in
    let is = item_at (dual_at value) xs k item c.loop-dual-test.true c.dual-item.is in
    let given : c.from_residual.result ≡ Err c.in_err-with_up.field-0.0 = search rules in
    rw given
    (up_refused (map (dual_at value) xs) k (dual_at value item) inside is rest g.N.Exact.bound (passed_at value c.in_err-with_up.field-0.0) (value c.loop-dual.sum) c.loop-dual.invariant
    (refusal value g.N.Exact.bound Plus c.loop-dual.sum item.up _ _ c.in_err-with_up.field-0.0 refl refl c.in_err-with_up.ensures))

pub returns-in_err-sum-clause-stops : goal.returns-in_err-sum-clause-stops
returns-in_err-sum-clause-stops g c = λ rest.
    let value = g.N.Exact.value in
    let xs = c.args.limits.now in
    let k = c.loop-dual.dual-index in
    let item = c.dual-item.result in
    let inside = item_inside (dual_at value) xs k c.loop-dual-test.true in
    let is = item_at (dual_at value) xs k item c.loop-dual-test.true c.dual-item.is in
    let given : c.from_residual-in_err-sum.result ≡ Err c.in_err-sum.field-0.0 = search rules in
    rw given
    (down_refused (map (dual_at value) xs) k (dual_at value item) inside is rest g.N.Exact.bound (passed_at value c.in_err-sum.field-0.0) (value c.loop-dual.sum) c.loop-dual.invariant
    (value c.in_ok-with_up.with_up) c.in_ok-with_up.ensures.exact
    (refusal value g.N.Exact.bound Plus c.in_ok-with_up.with_up item.down _ _ c.in_err-sum.field-0.0 refl refl c.in_err-sum.ensures))

pub loop-dual-preserved : goal.loop-dual-preserved
loop-dual-preserved g c =
    let value = g.N.Exact.value in
    let xs = c.args.limits.now in
    let k = c.loop-dual.dual-index in
    let item = c.dual-item.result in
    let inside = item_inside (dual_at value) xs k c.loop-dual-test.true in
    let is = item_at (dual_at value) xs k item c.loop-dual-test.true c.dual-item.is in
    limit_step (map (dual_at value) xs) k (dual_at value item) inside is (value c.loop-dual.sum) (value c.in_ok-with_up.with_up) (value c.in_ok-sum.sum) c.loop-dual.invariant
    c.in_ok-with_up.ensures.exact c.in_ok-sum.ensures.exact
