use Rattle.std.proofs.Common.{sym, subst, arith}
use Rattle.std.specs.Prelude.{pos, unsigned_abs, ◌*◌, ◌^◌, ◌≤◌}
use Rattle.fraction_theory.specs.Fraction.{whole, ◌*ℚ◌}
use Rattle.exact_fraction.specs.Floor.{IsFloor}
use Rattle.limit_screen.specs.Bounds.{IsNear}
use Rattle.limit_screen.proofs.Casts.{narrow_is, one_is, size_64}
use Rattle.limit_screen.proofs.BoundLemmas.{times_parts, up_to_more}
use Rattle.limit_screen.proofs.bounds.near_flow_with.Goals as goal
use Rattle.market_data.specs.Scales.{pickup_one}

pub near_sum-requires-clause-first : goal.near_sum-requires-clause-first
near_sum-requires-clause-first c =
    up_to_more (pickup_one * 2 ^ 63) (2 ^ 113) c.near_product.result (omega arith)
    (c.near_product.ensures.small pickup_one (subst (λ z. unsigned_abs z ≤ pickup_one) (sym (one_is c.args.one c.requires.most)) c.requires.most))

pub near_sum-requires-clause-second : goal.near_sum-requires-clause-second
near_sum-requires-clause-second c = c.near_product-2.ensures.small (2 ^ 63) (subst (λ z. unsigned_abs z ≤ 2 ^ 63) (sym (narrow_is c.args.factor c.ranges.factor)) (size_64 c.args.factor c.ranges.factor))

pub returns-clause-near : goal.returns-clause-near
returns-clause-near c = λ f x own part.
    let first : IsNear (whole (pos c.args.one) *ℚ f) c.near_product.result =
    subst (λ z. IsNear (whole z *ℚ f) c.near_product.result) (one_is c.args.one c.requires.most) (c.near_product.ensures.near f (subst (IsFloor f) (sym (narrow_is c.args.own c.ranges.own)) own)) in
    let second : IsNear (whole c.args.factor *ℚ x) c.near_product-2.result =
    subst (λ z. IsNear (whole z *ℚ x) c.near_product-2.result) (narrow_is c.args.factor c.ranges.factor) (c.near_product-2.ensures.near x (subst (IsFloor x) (sym (narrow_is c.args.part c.ranges.part)) part)) in
    subst (λ y. IsNear y c.near_sum.result) (sym (times_parts f x c.args.factor c.args.one c.requires.above))
    (c.near_sum.ensures.near (whole (pos c.args.one) *ℚ f) (whole c.args.factor *ℚ x) first second)
