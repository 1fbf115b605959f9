use Rattle.std.proofs.Common.{rules, Err, ◌≡◌, ◌∙◌, ◌<◌, ◌+◌, ℕ, ℤ, ap, subst, sym, inl, inr, length, map, arith, w64}
use Rattle.std.proofs.lemmas.Int.{to_z-of_z}
use Rattle.std.proofs.lemmas.Result.{IfOk-weaker, IfErr-weaker}
use mir.Val.{to_z, of_z}
use Rattle.fraction_theory.specs.Fraction.{over}
use Rattle.market_data.specs.Scales.{factor_one}
use Rattle.market_model.specs.declared.limits.Cause.{Cause}
use Rattle.market_model.specs.LimitRows.{flow_by, flow_terms}
use Rattle.market_model.specs.NamedSums.{IsRefusedIn}
use Rattle.market_model.specs.PutIn.{carried_in, put_in}
use Rattle.market_model.specs.SumTables.{flow_of_row, pickup_of_row}
use Rattle.market_model.specs.Valued.{passed_at}
use Rattle.market_model.proofs.PlaceLists.{put_read}
use Rattle.limit_rows.proofs.FlowSteps.{base_flow, flow_after, flow_picked, flow_refused, not_base, picked_refused, unit_not_base}
use Rattle.limit_rows.proofs.flowing.row_flow.Goals as goal

pub returns-in-Base-clause-flow : goal.returns-in-Base-clause-flow
returns-in-Base-clause-flow g c =
    let m = c.args.market.now in
    let l = c.args.row.line in
    let f = carried_in m (map g.N.Exact.value c.args.carried.now) in
    base_flow m f l _ (put_read g.N.Exact.value c.args.carried.now l c.index-carried-row.result (omega (arith, c.requires.carried, c.requires.line)) c.index-carried-row.is)
    ∙ ap (λ (o : Cause). flow_by m f (record { line = l; cause = o })) (sym c.in-Base.is)

pub returns-in-Branch-clause-flow : goal.returns-in-Branch-clause-flow
returns-in-Branch-clause-flow g c =
    let m = c.args.market.now in
    let value = g.N.Exact.value in
    let fs = c.args.carried.now in
    let l = c.args.row.line in
    let k = c.in-Branch.lost in
    let f = carried_in m (map value fs) in
    let below : k < length m.lines = rw c.in-Branch.is at c.requires.lost in
    let own = put_read value fs l c.index-carried-row.result (omega (arith, c.requires.carried, c.requires.line)) c.index-carried-row.is in
    let gone = put_read value fs k c.index-carried-lost.result (omega (arith, c.requires.carried, below)) c.index-carried-lost.is in
    let known : to_z w64 (of_z w64 c.loss_of.result) ≡ c.loss_of.result = to_z-of_z w64 c.loss_of.result (record { sfits = c.loss_of.type_inv }) in
    IfOk-weaker c.with_share.result _ _
    (λ mw is.
    flow_after m f l k _ _ _ own (ap (λ (z : ℤ). over z factor_one) (known ∙ c.loss_of.ensures.is)) gone (value mw) is
    ∙ ap (λ (o : Cause). flow_by m f (record { line = l; cause = o })) (sym c.in-Branch.is))
    c.with_share.ensures.sum

pub returns-in-Branch-clause-after : goal.returns-in-Branch-clause-after
returns-in-Branch-clause-after g c = IfErr-weaker c.with_share.result _ _ (λ e h. not_base c.args.row.cause c.in-Branch.lost c.in-Branch.is) c.with_share.ensures.stops

pub returns-in-Branch-clause-stops : goal.returns-in-Branch-clause-stops
returns-in-Branch-clause-stops g c =
    let m = c.args.market.now in
    let value = g.N.Exact.value in
    let fs = c.args.carried.now in
    let l = c.args.row.line in
    let k = c.in-Branch.lost in
    let f = carried_in m (map value fs) in
    let below : k < length m.lines = rw c.in-Branch.is at c.requires.lost in
    let own = put_read value fs l c.index-carried-row.result (omega (arith, c.requires.carried, c.requires.line)) c.index-carried-row.is in
    let gone = put_read value fs k c.index-carried-lost.result (omega (arith, c.requires.carried, below)) c.index-carried-lost.is in
    let known : to_z w64 (of_z w64 c.loss_of.result) ≡ c.loss_of.result = to_z-of_z w64 c.loss_of.result (record { sfits = c.loss_of.type_inv }) in
    IfErr-weaker c.with_share.result _ _
    (λ e h.
    inl (
      _,
      flow_of_row,
      subst (λ (o : Cause). IsRefusedIn (flow_terms m f (record { line = l; cause = o })) g.N.Exact.bound (passed_at value e)) (sym c.in-Branch.is)
          (flow_refused m f l k _ _ _ own (ap (λ (z : ℤ). over z factor_one) (known ∙ c.loss_of.ensures.is)) gone g.N.Exact.bound (passed_at value e) h),
    ))
    c.with_share.ensures.stops

pub returns-in_err-factor-in-UnitOutage-clause-after : goal.returns-in_err-factor-in-UnitOutage-clause-after
returns-in_err-factor-in-UnitOutage-clause-after g c =
    let given : c.from_residual.result ≡ Err c.in_err-factor-in-UnitOutage.field-0.0 = search rules in
    rw given (unit_not_base c.args.row.cause c.in-UnitOutage.outage c.in-UnitOutage.is)

pub returns-in_err-factor-in-UnitOutage-clause-stops : goal.returns-in_err-factor-in-UnitOutage-clause-stops
returns-in_err-factor-in-UnitOutage-clause-stops g c =
    let given : c.from_residual.result ≡ Err c.in_err-factor-in-UnitOutage.field-0.0 = search rules in
    rw given (inr (_, pickup_of_row c.in-UnitOutage.outage c.in-UnitOutage.is, c.in_err-factor-in-UnitOutage.ensures.stops))

pub returns-in_ok-factor-in-UnitOutage-clause-flow : goal.returns-in_ok-factor-in-UnitOutage-clause-flow
returns-in_ok-factor-in-UnitOutage-clause-flow g c =
    let m = c.args.market.now in
    let value = g.N.Exact.value in
    let fs = c.args.carried.now in
    let l = c.args.row.line in
    let k = c.in-UnitOutage.outage in
    let f = carried_in m (map value fs) in
    let lines : c.len.result ≡ length m.lines = c.len.ensures ∙ ap length c.lines.ensures.list in
    let below : k < length m.unit_outages = rw c.in-UnitOutage.is at c.requires.lost in
    let own = put_read value fs l c.index-carried-row.result (omega (arith, c.requires.carried, c.requires.line)) c.index-carried-row.is in
    let gone : value c.index-carried-len.result ≡ f.lost k =
    put_read value fs (c.len.result + k) c.index-carried-len.result (omega (arith, c.requires.carried, below, lines)) c.index-carried-len.is
    ∙ ap (λ (n : ℕ). put_in (map value fs) (n + k)) lines in
    IfOk-weaker c.with_product.result _ _
    (λ mw is.
    flow_picked m f l k _ _ _ own c.in_ok-factor-in-UnitOutage.ensures.factor gone (value mw) is
    ∙ ap (λ (o : Cause). flow_by m f (record { line = l; cause = o })) (sym c.in-UnitOutage.is))
    c.with_product.ensures.sum

pub returns-in_ok-factor-in-UnitOutage-clause-stops : goal.returns-in_ok-factor-in-UnitOutage-clause-stops
returns-in_ok-factor-in-UnitOutage-clause-stops g c =
    let m = c.args.market.now in
    let value = g.N.Exact.value in
    let fs = c.args.carried.now in
    let l = c.args.row.line in
    let k = c.in-UnitOutage.outage in
    let f = carried_in m (map value fs) in
    let lines : c.len.result ≡ length m.lines = c.len.ensures ∙ ap length c.lines.ensures.list in
    let below : k < length m.unit_outages = rw c.in-UnitOutage.is at c.requires.lost in
    let own = put_read value fs l c.index-carried-row.result (omega (arith, c.requires.carried, c.requires.line)) c.index-carried-row.is in
    let gone : value c.index-carried-len.result ≡ f.lost k =
    put_read value fs (c.len.result + k) c.index-carried-len.result (omega (arith, c.requires.carried, below, lines)) c.index-carried-len.is
    ∙ ap (λ (n : ℕ). put_in (map value fs) (n + k)) lines in
    IfErr-weaker c.with_product.result _ _
    (λ e h.
    inl (
      _,
      flow_of_row,
      subst (λ (o : Cause). IsRefusedIn (flow_terms m f (record { line = l; cause = o })) g.N.Exact.bound (passed_at value e)) (sym c.in-UnitOutage.is)
          (picked_refused m f l k _ _ _ own c.in_ok-factor-in-UnitOutage.ensures.factor gone g.N.Exact.bound (passed_at value e) h),
    ))
    c.with_product.ensures.stops
