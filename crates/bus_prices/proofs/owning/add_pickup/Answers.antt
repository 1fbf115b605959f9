use Rattle.std.proofs.Common.{rules, Err, ◌≡◌, ◌∙◌, ap, ap₂, inl, inr, length, refl, sym}
use Rattle.fraction_theory.specs.Fraction.{◌+ℚ◌, ◌*ℚ◌}
use Rattle.fraction_theory.proofs.FieldLaws.{+ℚ_nil}
use Rattle.exact_fraction.proofs.Shares.{share_refused}
use Rattle.market_model.specs.SumTables.{pickup_of_row}
use Rattle.market_model.proofs.PlaceLists.{map_same}
use Rattle.bus_prices.specs.PriceParts.{added_to_own}
use Rattle.bus_prices.proofs.OwnLemmas.{added_elsewhere, added_here, loses_here, none_added, no_loss, one_set, own_read, pickup_here}
use Rattle.bus_prices.proofs.owning.add_pickup.Goals as goal

pub returns-in_default-clause-own : goal.returns-in_default-clause-own
returns-in_default-clause-own g c = λ before e.
    let m = c.args.market.now in
    let r = c.args.row in
    let price = g.N.Exact.value c.args.price in
    e ∙ map_same before (λ u. before u +ℚ added_to_own m r price u) (length m.units)
    (λ u lt. sym (ap (λ t. before u +ℚ t) (none_added m r price u (no_loss m r.cause c.in_default.not-UnitOutage u)) ∙ +ℚ_nil (before u)))

pub returns-in_err-factor-clause-stops : goal.returns-in_err-factor-clause-stops
returns-in_err-factor-clause-stops g c =
    let given : c.from_residual.result ≡ Err c.in_err-factor.field-0.0 = search rules in
    λ before e. rw given (inr (_, pickup_of_row c.in-UnitOutage.outage c.in-UnitOutage.is, c.in_err-factor.ensures.stops))

pub returns-in_err-out-clause-stops : goal.returns-in_err-out-clause-stops
returns-in_err-out-clause-stops g c =
    let m = c.args.market.now in
    let r = c.args.row in
    let value = g.N.Exact.value in
    let k = c.in-UnitOutage.outage in
    let u = c.lost_unit-unit.result in
    let given : c.from_residual-in_err-out.result ≡ Err c.in_err-out.field-0.0 = search rules in
    λ before e. rw given
    (inl (
      u,
      c.lost_unit-unit.ensures.inside,
      loses_here m r (value c.args.price) k c.in-UnitOutage.is u c.lost_unit-unit.ensures.is,
      share_refused value g.N.Exact.bound c.index-out-unit.result c.args.price c.in_ok-factor.factor c.in_err-out.field-0.0 _ _ _ c.in_err-out.ensures
          (own_read value before (length m.units) u c.args.out.now c.index-out-unit.result c.requires.out c.lost_unit-unit.ensures.inside e c.index-out-unit.is) refl
          (c.in_ok-factor.ensures.factor ∙ sym (pickup_here m r (value c.args.price) k c.in-UnitOutage.is)),
    ))

pub returns-clause-own : goal.returns-clause-own
returns-clause-own g c =
    let m = c.args.market.now in
    let r = c.args.row in
    let value = g.N.Exact.value in
    let price = value c.args.price in
    let k = c.in-UnitOutage.outage in
    let u = c.lost_unit-unit.result in
    λ before e.
    one_set value before (λ v. before v +ℚ added_to_own m r price v) (length m.units) u c.args.out.now c.in_ok-out.field-0 c.requires.out c.lost_unit-unit.ensures.inside e
    (c.in_ok-out.ensures.exact
    ∙ ap₂ ◌+ℚ◌ (own_read value before (length m.units) u c.args.out.now c.index-out-unit.result c.requires.out c.lost_unit-unit.ensures.inside e c.index-out-unit.is)
    (ap (λ t. price *ℚ t) c.in_ok-factor.ensures.factor ∙ sym (added_here m r price k c.in-UnitOutage.is u c.lost_unit-unit.ensures.is)))
    (λ v other. ap (λ t. before v +ℚ t) (added_elsewhere m r price k c.in-UnitOutage.is v u c.lost_unit-unit.ensures.is other) ∙ +ℚ_nil (before v))
