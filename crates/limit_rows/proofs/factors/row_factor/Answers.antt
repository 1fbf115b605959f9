use Rattle.std.proofs.Common.{◌≡◌, ◌∙◌, ℤ, ap, subst, sym, inl, inr, w64}
use Rattle.std.proofs.lemmas.Int.{to_z-of_z}
use Rattle.std.proofs.lemmas.Result.{IfOk-weaker, IfErr-weaker}
use Rattle.std.specs.Prelude.{unsigned_abs, ◌≤◌}
use mir.Val.{to_z, of_z}
use Rattle.fraction_theory.specs.Fraction.{over}
use Rattle.market_data.specs.Scales.{factor_one, most_factor}
use Rattle.market_model.specs.declared.limits.Cause.{Cause}
use Rattle.market_model.specs.LimitRows.{factor_terms, row_factor}
use Rattle.market_model.specs.NamedSums.{IsRefusedIn}
use Rattle.market_model.specs.Valued.{passed_at}
use Rattle.limit_rows.proofs.FlowSteps.{base_factor, factor_after, factor_refused, unit_outage_factor}
use Rattle.limit_rows.proofs.WideFactors.{row_factor_fits}
use Rattle.limit_rows.proofs.factors.row_factor.Goals as goal

pub returns-in-Base-clause-factor : goal.returns-in-Base-clause-factor
returns-in-Base-clause-factor g c =
    let m = c.args.market.now in
    let shift : to_z w64 (of_z w64 c.shift_of.result) ≡ c.shift_of.result = to_z-of_z w64 c.shift_of.result (record { sfits = c.shift_of.type_inv }) in
    let l = c.args.row.line in
    let own = c.as_number-own.ensures ∙ ap (λ (z : ℤ). over z factor_one) (shift ∙ c.shift_of.ensures.is) in
    elim c.in-Base.is [
      | inl e ↦ base_factor m l c.args.bus _ own ∙ ap (λ (o : Cause). row_factor m (record { line = l; cause = o }) c.args.bus) (sym e)
      | inr u ↦ unit_outage_factor m l c.args.bus _ own u.0 ∙ ap (λ (o : Cause). row_factor m (record { line = l; cause = o }) c.args.bus) (sym u.1)
    ]

pub returns-in-Branch-clause-factor : goal.returns-in-Branch-clause-factor
returns-in-Branch-clause-factor g c =
    let m = c.args.market.now in
    let shift : to_z w64 (of_z w64 c.shift_of.result) ≡ c.shift_of.result = to_z-of_z w64 c.shift_of.result (record { sfits = c.shift_of.type_inv }) in
    let loss : to_z w64 (of_z w64 c.loss_of.result) ≡ c.loss_of.result = to_z-of_z w64 c.loss_of.result (record { sfits = c.loss_of.type_inv }) in
    let lost : to_z w64 (of_z w64 c.shift_of-in-Branch.result) ≡ c.shift_of-in-Branch.result = to_z-of_z w64 c.shift_of-in-Branch.result (record { sfits = c.shift_of-in-Branch.type_inv }) in
    let own = c.as_number-own.ensures ∙ ap (λ (z : ℤ). over z factor_one) (shift ∙ c.shift_of.ensures.is) in
    let gone = c.as_number.ensures ∙ ap (λ (z : ℤ). over z factor_one) (lost ∙ c.shift_of-in-Branch.ensures.is) in
    IfOk-weaker c.with_share.result _ _
    (λ more is.
    factor_after m c.args.row.line c.args.bus _ own c.in-Branch.lost _ _ (ap (λ (z : ℤ). over z factor_one) (loss ∙ c.loss_of.ensures.is)) gone (g.N.Exact.value more) is
    ∙ ap (λ (o : Cause). row_factor m (record { line = c.args.row.line; cause = o }) c.args.bus) (sym c.in-Branch.is))
    c.with_share.ensures.sum

pub returns-in-Branch-clause-stops : goal.returns-in-Branch-clause-stops
returns-in-Branch-clause-stops g c =
    let m = c.args.market.now in
    let value = g.N.Exact.value in
    let shift : to_z w64 (of_z w64 c.shift_of.result) ≡ c.shift_of.result = to_z-of_z w64 c.shift_of.result (record { sfits = c.shift_of.type_inv }) in
    let loss : to_z w64 (of_z w64 c.loss_of.result) ≡ c.loss_of.result = to_z-of_z w64 c.loss_of.result (record { sfits = c.loss_of.type_inv }) in
    let lost : to_z w64 (of_z w64 c.shift_of-in-Branch.result) ≡ c.shift_of-in-Branch.result = to_z-of_z w64 c.shift_of-in-Branch.result (record { sfits = c.shift_of-in-Branch.type_inv }) in
    let own = c.as_number-own.ensures ∙ ap (λ (z : ℤ). over z factor_one) (shift ∙ c.shift_of.ensures.is) in
    let gone = c.as_number.ensures ∙ ap (λ (z : ℤ). over z factor_one) (lost ∙ c.shift_of-in-Branch.ensures.is) in
    IfErr-weaker c.with_share.result _ _
    (λ e h.
    subst (λ (o : Cause). IsRefusedIn (factor_terms m (record { line = c.args.row.line; cause = o }) c.args.bus) g.N.Exact.bound (passed_at value e)) (sym c.in-Branch.is)
    (factor_refused m c.args.row.line c.args.bus _ own c.in-Branch.lost _ _ (ap (λ (z : ℤ). over z factor_one) (loss ∙ c.loss_of.ensures.is)) gone g.N.Exact.bound (passed_at value e) h))
    c.with_share.ensures.stops

pub returns-in-Branch-clause-wide : goal.returns-in-Branch-clause-wide
returns-in-Branch-clause-wide g c =
    let shift : to_z w64 (of_z w64 c.shift_of.result) ≡ c.shift_of.result = to_z-of_z w64 c.shift_of.result (record { sfits = c.shift_of.type_inv }) in
    let loss : to_z w64 (of_z w64 c.loss_of.result) ≡ c.loss_of.result = to_z-of_z w64 c.loss_of.result (record { sfits = c.loss_of.type_inv }) in
    let lost : to_z w64 (of_z w64 c.shift_of-in-Branch.result) ≡ c.shift_of-in-Branch.result = to_z-of_z w64 c.shift_of-in-Branch.result (record { sfits = c.shift_of-in-Branch.type_inv }) in
    λ wide.
    IfErr-weaker c.with_share.result _ _
    (λ e h.
    row_factor_fits g.N.Exact.bound _ _ _ wide
    (subst (λ (z : ℤ). unsigned_abs z ≤ most_factor) (sym shift) c.shift_of.ensures.size)
    (subst (λ (z : ℤ). unsigned_abs z ≤ most_factor) (sym loss) c.loss_of.ensures.size)
    (subst (λ (z : ℤ). unsigned_abs z ≤ most_factor) (sym lost) c.shift_of-in-Branch.ensures.size)
    c.as_number-own.ensures c.as_number.ensures h.too_large)
    c.with_share.ensures.stops
