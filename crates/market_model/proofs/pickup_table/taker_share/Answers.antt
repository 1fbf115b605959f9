use Rattle.std.proofs.Common.{◌∙◌, ap, arith, sym, subst}
use Rattle.std.specs.Prelude.{ℤ, unsigned_abs, ◌≤◌, ◌*◌}
use Rattle.std.proofs.lemmas.Int.{ints}
use Rattle.fraction_theory.specs.Fraction.{over, ◌*ℚ◌}
use Rattle.market_data.specs.Scales.{factor_one, most_factor, share_one, pickup_one}
use Rattle.market_model.specs.LimitRows.{share_value}
use Rattle.market_model.proofs.PickupLemmas.{kept_share, share_fits, share_size, share_times}
use Rattle.market_model.proofs.pickup_table.taker_share.Goals as goal

pub overflow_mul-result : goal.overflow_mul-result
overflow_mul-result c =
    let p = c.args.pickup.now in
    share_fits p.share c.shift_for_unit.result (omega (arith, ints, c.requires.pickup.above, c.requires.pickup.most)) c.shift_for_unit.ensures.size

pub returns-clause-size : goal.returns-clause-size
returns-clause-size c =
    let p = c.args.pickup.now in
    let h = c.shift_for_unit.result in
    let few : unsigned_abs p.share ≤ share_one = omega (arith, ints, c.requires.pickup.above, c.requires.pickup.most) in
    subst (λ (z : ℤ). unsigned_abs z ≤ share_one * most_factor) (sym (kept_share p.share h few c.shift_for_unit.ensures.size)) (share_size p.share h few c.shift_for_unit.ensures.size)

pub returns-clause-is : goal.returns-clause-is
returns-clause-is c =
    let p = c.args.pickup.now in
    let h = c.shift_for_unit.result in
    ap (λ (z : ℤ). over z pickup_one) (kept_share p.share h (omega (arith, ints, c.requires.pickup.above, c.requires.pickup.most)) c.shift_for_unit.ensures.size)
    ∙ share_times p.share h ∙ ap (λ (z : ℤ). share_value p *ℚ over z factor_one) c.shift_for_unit.ensures.is
