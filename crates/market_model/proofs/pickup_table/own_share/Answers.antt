use Rattle.std.proofs.Common.{◌∙◌, ap, sym, subst}
use Rattle.std.specs.Prelude.{ℤ, ℕ, unsigned_abs, ◌≤◌, ◌*◌}
use Rattle.std.proofs.lemmas.Option.{get_or_from_slice_get}
use Rattle.fraction_theory.specs.Fraction.{over}
use Rattle.market_data.specs.Scales.{factor_one, most_factor, share_one, pickup_one}
use Rattle.market_model.specs.Dispatch.{unit_at}
use Rattle.market_model.specs.Factors.{factor_in}
use Rattle.market_model.proofs.PickupLemmas.{kept_own, own_size, whole_share}
use Rattle.market_model.proofs.pickup_table.own_share.Goals as goal

pub returns-clause-size : goal.returns-clause-size
returns-clause-size c =
    let h = c.shift_for_unit.result in
    subst (λ (z : ℤ). unsigned_abs z ≤ share_one * most_factor) (sym (kept_own h c.shift_for_unit.ensures.size)) (own_size h c.shift_for_unit.ensures.size)

pub returns-clause-is : goal.returns-clause-is
returns-clause-is c =
    let m = c.args.parts.now in
    let h = c.shift_for_unit.result in
    ap (λ (z : ℤ). over z pickup_one) (kept_own h c.shift_for_unit.ensures.size) ∙ whole_share h
    ∙ ap (λ (z : ℤ). over z factor_one)
    (c.shift_for_unit.ensures.is ∙ ap (λ (u : ℕ). factor_in m.shift c.args.line (unit_at m u).bus) (sym (get_or_from_slice_get m.unit_outages c.args.outage c.at.result.now 0 c.at.ensures)))
