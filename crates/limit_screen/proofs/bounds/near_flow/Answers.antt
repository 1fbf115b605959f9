use Rattle.std.proofs.Common.{rules, ◌≡◌, ◌∙◌, ◌+◌, ap, sym, subst, length, refl}
use Rattle.std.specs.Prelude.{ℤ, pos, List, Option}
use Rattle.std.specs.List.{slice_get}
use Rattle.exact_fraction.specs.Floor.{IsFloor}
use Rattle.fraction_theory.specs.Fraction.{Fraction, over, ◌+ℚ◌, ◌*ℚ◌}
use Rattle.market_data.specs.Scales.{factor_one, pickup_one}
use Rattle.market_model.specs.declared.limits.Cause.{Cause}
use Rattle.market_model.specs.LimitRows.{flow_by}
use Rattle.limit_rows.proofs.FlowSteps.{base_flow, flow_after, flow_picked, no_share}
use Rattle.limit_screen.specs.Bounds.{IsNearFlow}
use Rattle.limit_screen.proofs.Casts.{narrow, narrow_is}
use Rattle.limit_screen.proofs.bounds.near_flow.Goals as goal

pub returns-in-Base-clause-near : goal.returns-in-Base-clause-near
returns-in-Base-clause-near c = λ carried parts.
    let m = c.args.market.now in
    let l = c.args.row.line in
    let own = carried.line l in
    let known : narrow c.in_ok-own.own ≡ c.in_ok-own.own = search rules in
    let floor : IsFloor own (narrow c.in_ok-own.own) = subst (IsFloor own) (sym known) (parts.line l c.in_ok-own.own (ap (λ (xs : List (Option ℤ)). slice_get xs l) (sym c.deref.ensures.value) ∙ c.in_ok-own.ensures)) in
    subst (λ (x : Fraction). IsNearFlow x c.near_flow_with.result)
    (sym (no_share own own (pos 0) refl) ∙ base_flow m carried l own refl ∙ ap (λ (o : Cause). flow_by m carried (record { line = l; cause = o })) (sym c.in-Base.is))
    (c.near_flow_with.ensures.near own own floor floor)

pub returns-in_ok-gone-in-Branch-clause-near : goal.returns-in_ok-gone-in-Branch-clause-near
returns-in_ok-gone-in-Branch-clause-near c = λ carried parts.
    let m = c.args.market.now in
    let l = c.args.row.line in
    let k = c.in-Branch.lost in
    let h = c.loss_of-factor.result in
    let own = carried.line l in
    let gone = carried.line k in
    let known : narrow c.in_ok-own.own ≡ c.in_ok-own.own = search rules in
    let known' : narrow c.in_ok-gone-in-Branch.gone ≡ c.in_ok-gone-in-Branch.gone = search rules in
    let floor : IsFloor own (narrow c.in_ok-own.own) = subst (IsFloor own) (sym known) (parts.line l c.in_ok-own.own (ap (λ (xs : List (Option ℤ)). slice_get xs l) (sym c.deref.ensures.value) ∙ c.in_ok-own.ensures)) in
    let floor' : IsFloor gone (narrow c.in_ok-gone-in-Branch.gone) =
    subst (IsFloor gone) (sym known') (parts.line k c.in_ok-gone-in-Branch.gone (ap (λ (xs : List (Option ℤ)). slice_get xs k) (sym c.deref-in-Branch.ensures.value) ∙ c.in_ok-gone-in-Branch.ensures)) in
    let factor = narrow_is h (record { sfits = c.loss_of-factor.type_inv }) in
    subst (λ (x : Fraction). IsNearFlow x c.near_flow_with-in-Branch.result)
    (ap (λ (z : ℤ). own +ℚ over z factor_one *ℚ gone) factor
    ∙ flow_after m carried l k own (over h factor_one) gone refl (ap (λ (z : ℤ). over z factor_one) c.loss_of-factor.ensures.is) refl (own +ℚ over h factor_one *ℚ gone) refl
    ∙ ap (λ (o : Cause). flow_by m carried (record { line = l; cause = o })) (sym c.in-Branch.is))
    (c.near_flow_with-in-Branch.ensures.near own gone floor floor')

pub returns-in_ok-factor-in-UnitOutage-clause-near : goal.returns-in_ok-factor-in-UnitOutage-clause-near
returns-in_ok-factor-in-UnitOutage-clause-near c = λ carried parts.
    let m = c.args.market.now in
    let l = c.args.row.line in
    let k = c.in-UnitOutage.outage in
    let h = c.in_ok-factor-in-UnitOutage.factor in
    let own = carried.line l in
    let gone = carried.lost k in
    let known : narrow c.in_ok-own.own ≡ c.in_ok-own.own = search rules in
    let known' : narrow c.in_ok-gone-in-UnitOutage.gone ≡ c.in_ok-gone-in-UnitOutage.gone = search rules in
    let factor : narrow h ≡ h = search rules in
    let floor : IsFloor own (narrow c.in_ok-own.own) = subst (IsFloor own) (sym known) (parts.line l c.in_ok-own.own (ap (λ (xs : List (Option ℤ)). slice_get xs l) (sym c.deref.ensures.value) ∙ c.in_ok-own.ensures)) in
    let behind : c.len.result + k ≡ length m.lines + k = search rules in
    let floor' : IsFloor gone (narrow c.in_ok-gone-in-UnitOutage.gone) =
    subst (IsFloor gone) (sym known') (parts.lost k c.in_ok-gone-in-UnitOutage.gone
    (ap (λ (xs : List (Option ℤ)). slice_get xs (length m.lines + k)) (sym c.deref-in-UnitOutage.ensures.value) ∙ ap (slice_get c.deref-in-UnitOutage.result.now) (sym behind) ∙ c.in_ok-gone-in-UnitOutage.ensures)) in
    subst (λ (x : Fraction). IsNearFlow x c.near_flow_with-in-UnitOutage.result)
    (ap (λ (z : ℤ). own +ℚ over z pickup_one *ℚ gone) factor
    ∙ flow_picked m carried l k own (over h pickup_one) gone refl (sym c.in_ok-factor-in-UnitOutage.ensures) refl (own +ℚ over h pickup_one *ℚ gone) refl
    ∙ ap (λ (o : Cause). flow_by m carried (record { line = l; cause = o })) (sym c.in-UnitOutage.is))
    (c.near_flow_with-in-UnitOutage.ensures.near own gone floor floor')
