use Rattle.std.proofs.Common.{◌≡◌, ◌∙◌, ℤ, ap, subst, sym, inl, inr, w64}
use Rattle.std.proofs.lemmas.Int.{to_z-of_z}
use Rattle.std.proofs.lemmas.Result.{IfOk-weaker, IfErr-weaker}
use mir.Val.{to_z, of_z}
use Rattle.fraction_theory.specs.Fraction.{over}
use Rattle.market_data.specs.Scales.{factor_one}
use Rattle.market_model.specs.declared.limits.Cause.{Cause}
use Rattle.market_model.specs.LimitRows.{row_offset, offset_terms}
use Rattle.market_model.specs.NamedSums.{IsRefusedIn}
use Rattle.market_model.specs.Valued.{passed_at}
use Rattle.limit_rows.proofs.FlowSteps.{base_offset, offset_after, offset_refused, unit_offset}
use Rattle.limit_rows.proofs.flowing.row_offset.Goals as goal

pub returns-in-Base-clause-offset : goal.returns-in-Base-clause-offset
returns-in-Base-clause-offset g c =
    let m = c.args.market.now in
    let l = c.args.row.line in
    c.offset_of-own.ensures
    ∙ (elim c.in-Base.is [
      | inl e ↦ base_offset m l ∙ ap (λ (o : Cause). row_offset m (record { line = l; cause = o })) (sym e)
      | inr u ↦ unit_offset m l u.0 ∙ ap (λ (o : Cause). row_offset m (record { line = l; cause = o })) (sym u.1)
    ])

pub returns-in-Branch-clause-offset : goal.returns-in-Branch-clause-offset
returns-in-Branch-clause-offset g c =
    let m = c.args.market.now in
    let known : to_z w64 (of_z w64 c.loss_of.result) ≡ c.loss_of.result = to_z-of_z w64 c.loss_of.result (record { sfits = c.loss_of.type_inv }) in
    IfOk-weaker c.with_share.result _ _
    (λ mw is.
    offset_after m c.args.row.line c.in-Branch.lost _ _ _ c.offset_of-own.ensures (ap (λ (z : ℤ). over z factor_one) (known ∙ c.loss_of.ensures.is)) c.offset_of.ensures (g.N.Exact.value mw) is
    ∙ ap (λ (o : Cause). row_offset m (record { line = c.args.row.line; cause = o })) (sym c.in-Branch.is))
    c.with_share.ensures.sum

pub returns-in-Branch-clause-stops : goal.returns-in-Branch-clause-stops
returns-in-Branch-clause-stops g c =
    let m = c.args.market.now in
    let value = g.N.Exact.value in
    let known : to_z w64 (of_z w64 c.loss_of.result) ≡ c.loss_of.result = to_z-of_z w64 c.loss_of.result (record { sfits = c.loss_of.type_inv }) in
    IfErr-weaker c.with_share.result _ _
    (λ e h.
    subst (λ (o : Cause). IsRefusedIn (offset_terms m (record { line = c.args.row.line; cause = o })) g.N.Exact.bound (passed_at value e)) (sym c.in-Branch.is)
    (offset_refused m c.args.row.line c.in-Branch.lost _ _ _ c.offset_of-own.ensures (ap (λ (z : ℤ). over z factor_one) (known ∙ c.loss_of.ensures.is)) c.offset_of.ensures g.N.Exact.bound (passed_at value e) h))
    c.with_share.ensures.stops
