use Rattle.std.proofs.Common.{rules, Err, refl, inl, subst₂, ◌≡◌, ◌∙◌, List, ap, map, sym}
use Rattle.std.proofs.lemmas.List.{length-map}
use Rattle.fraction_theory.specs.Fraction.{Fraction}
use Rattle.fraction_theory.specs.Sums.{total}
use Rattle.market_model.specs.declared.answered.Load.{Load}
use Rattle.market_model.specs.declared.answered.Money.{Money}
use Rattle.market_model.specs.declared.answered.Rent.{Rent}
use Rattle.market_model.specs.declared.answered.UnitPay.{UnitPay}
use Rattle.market_model.specs.LimitRows.{lost_unit}
use Rattle.market_model.specs.NamedSums.{IsRefusedIn}
use Rattle.market_model.specs.Optimality.{own_price}
use Rattle.market_model.specs.Valued.{duals_at, load_at, money_at, passed_at, rent_at, reserve_pay_at, total_at, unit_pay_at}
use Rattle.market_model.specs.Dispatch.{dispatch_with, places}
use Rattle.market_model.specs.PutIn.{dispatch_of}
use Rattle.limit_screen.proofs.ScreenLemmas.{flow_count}
use Rattle.market_model.specs.Settlement.{surplus_terms_by, pay_of_load, pay_of_reserve, pay_of_unit, paid_terms}
use Rattle.market_model.proofs.StopLemmas.{on_passed_weaker}
use Rattle.market_model.specs.declared.stops.Stop.TheVariants as stop
use Rattle.market_model.specs.SumTables.{left_of_all, payment}
use Rattle.settlement.proofs.BlockFlows.{flows_of_blocks}
use Rattle.settlement.proofs.ListLemmas.{sum_by-map}
use Rattle.settlement.proofs.PayLemmas.{own_refusal}
use Rattle.settlement.proofs.MoneyLemmas.{surplus_is, surplus_refused, rents_are_left, left_not_negative, count_fits, rows_fit}
use Rattle.settlement.proofs.settling.settle_flows.Goals as goal

pub returns-in_err-by_unit-clause-stops : goal.returns-in_err-by_unit-clause-stops
returns-in_err-by_unit-clause-stops g c =
    let value = g.N.Exact.value in
    let x = dispatch_with (map value c.args.dispatch.now) (map value c.args.reserve.now) in
    let given : c.from_residual.result ≡ Err c.in_err-by_unit.field-0.0 = search rules in
    rw given
    (on_passed_weaker c.in_err-by_unit.field-0.0 _ _
    (λ p why. own_refusal c.args.market.now x (total_at value c.args.prices.now) (duals_at value c.args.duals.now) g.N.Exact.bound (passed_at value p) why) c.in_err-by_unit.ensures.stops)

pub unit_pays-requires-clause-own : goal.unit_pays-requires-clause-own
unit_pays-requires-clause-own g c = count_fits g.N.Exact.value _ _ _ (ap (map g.N.Exact.value) c.deref.ensures.value ∙ c.in_ok-by_unit.ensures.own)

pub returns-in_err-units-clause-stops : goal.returns-in_err-units-clause-stops
returns-in_err-units-clause-stops g c =
    let given : c.from_residual-in_err-units.result ≡ Err c.in_err-units.field-0.0 = search rules in
    rw given
    (c.in_err-units.ensures.stops (map g.N.Exact.value c.args.reserve.now) (total_at g.N.Exact.value c.args.prices.now) (duals_at g.N.Exact.value c.args.duals.now)
    (ap (map g.N.Exact.value) c.deref.ensures.value ∙ c.in_ok-by_unit.ensures.own))

pub lost_prices-requires : goal.lost_prices-requires
lost_prices-requires g c = count_fits g.N.Exact.value _ _ _ (ap (map g.N.Exact.value) c.deref-2.ensures.value ∙ c.in_ok-by_unit.ensures.own)

pub returns-in_err-loads-clause-stops : goal.returns-in_err-loads-clause-stops
returns-in_err-loads-clause-stops g c =
    let given : c.from_residual-in_err-loads.result ≡ Err c.in_err-loads.field-0.0 = search rules in
    rw given (c.in_err-loads.ensures.stops (dispatch_with (map g.N.Exact.value c.args.dispatch.now) (map g.N.Exact.value c.args.reserve.now)) (duals_at g.N.Exact.value c.args.duals.now))

pub rents-requires-clause-flows : goal.rents-requires-clause-flows
rents-requires-clause-flows g c =
    sym (length-map c.args.flows.now g.N.Exact.value) ∙ flow_count c.args.market.now (dispatch_of g.N.Exact.value c.args.dispatch.now) (map g.N.Exact.value c.args.flows.now) c.requires.flows

pub returns-in_err-rents-clause-stops : goal.returns-in_err-rents-clause-stops
returns-in_err-rents-clause-stops g c =
    let given : c.from_residual-in_err-rents.result ≡ Err c.in_err-rents.field-0.0 = search rules in
    rw given
    (c.in_err-rents.ensures.stops (dispatch_with (map g.N.Exact.value c.args.dispatch.now) (map g.N.Exact.value c.args.reserve.now)) (total_at g.N.Exact.value c.args.prices.now)
    (c.requires.flows ∙ flows_of_blocks c.args.market.now (map g.N.Exact.value c.args.dispatch.now) (map g.N.Exact.value c.args.reserve.now)))

pub returns-in_err-surplus-clause-stops : goal.returns-in_err-surplus-clause-stops
returns-in_err-surplus-clause-stops g c =
    let m = c.args.market.now in
    let value = g.N.Exact.value in
    let x = dispatch_with (map value c.args.dispatch.now) (map value c.args.reserve.now) in
    let price = total_at value c.args.prices.now in
    let p = passed_at value c.in_err-surplus.field-0.0 in
    let given : c.from_residual-in_err-surplus.result ≡ Err (stop.Passed c.in_err-surplus.field-0.0) = search rules in
    let d = duals_at value c.args.duals.now in
    let pays = c.in_ok-units.ensures.pays (map value c.args.reserve.now) price d (ap (map value) c.deref.ensures.value ∙ c.in_ok-by_unit.ensures.own) in
    rw given
    (inl (
      surplus_terms_by m x price d,
      payment _ left_of_all,
      surplus_refused value m x price d c.in_ok-loads.loads c.in_ok-units.units c.in_ok-loads.ensures.loads pays g.N.Exact.bound p
          (subst₂ (λ (ls : List (Load g.row.N.Denot)) (us : List (UnitPay g.row.N.Denot)). IsRefusedIn (paid_terms (map (load_at value) ls) (map (unit_pay_at value) us)) g.N.Exact.bound p) c.slice.ensures c.slice-2.ensures c.in_err-surplus.ensures.stops),
    ))

pub returns-clause-money : goal.returns-clause-money
returns-clause-money g c =
    let m = c.args.market.now in
    let value = g.N.Exact.value in
    let x = dispatch_with (map value c.args.dispatch.now) (map value c.args.reserve.now) in
    let price = total_at value c.args.prices.now in
    let d = duals_at value c.args.duals.now in
    let pays = c.in_ok-units.ensures.pays (map value c.args.reserve.now) price d (ap (map value) c.deref.ensures.value ∙ c.in_ok-by_unit.ensures.own) in
    let lost = c.in_ok-own.ensures (own_price m d price) (ap (map value) c.deref-2.ensures.value ∙ c.in_ok-by_unit.ensures.own) in
    let reserved = c.in_ok-reserve.ensures.pays (map value c.args.dispatch.now) d refl ∙ ap (λ n. map (pay_of_reserve x d) (places n)) c.requires.reserve in
    λ i. record {
      units = pays i;
      own = lost i;
      loads = c.in_ok-loads.ensures.loads i;
      rents = c.in_ok-rents.ensures.rents x (c.requires.flows ∙ flows_of_blocks m (map value c.args.dispatch.now) (map value c.args.reserve.now)) i;
      surplus = surplus_is value m x price d c.in_ok-loads.loads c.in_ok-units.units c.in_ok-loads.ensures.loads pays
          (value c.in_ok-surplus.surplus)
          (subst₂ (λ (ls : List (Load g.row.N.Denot)) (us : List (UnitPay g.row.N.Denot)). value c.in_ok-surplus.surplus ≡ total (paid_terms (map (load_at value) ls) (map (unit_pay_at value) us))) c.slice.ensures c.slice-2.ensures c.in_ok-surplus.ensures.left) i;
      reserve = reserved i;
    }

pub returns-clause-fits : goal.returns-clause-fits
returns-clause-fits g c =
    let m = c.args.market.now in
    let value = g.N.Exact.value in
    let x = dispatch_with (map value c.args.dispatch.now) (map value c.args.reserve.now) in
    let price = total_at value c.args.prices.now in
    let d = duals_at value c.args.duals.now in
    let pays = c.in_ok-units.ensures.pays (map value c.args.reserve.now) price d (ap (map value) c.deref.ensures.value ∙ c.in_ok-by_unit.ensures.own) in
    let lost = c.in_ok-own.ensures (own_price m d price) (ap (map value) c.deref-2.ensures.value ∙ c.in_ok-by_unit.ensures.own) in
    let reserved = c.in_ok-reserve.ensures.pays (map value c.args.dispatch.now) d refl ∙ ap (λ n. map (pay_of_reserve x d) (places n)) c.requires.reserve in
    record {
      units = count_fits (unit_pay_at value) (pay_of_unit m x price d) c.in_ok-units.units _ pays;
      own = count_fits value (λ k. own_price m d price (lost_unit m k)) c.in_ok-own.own _ lost;
      loads = count_fits (load_at value) (pay_of_load m price) c.in_ok-loads.loads _ c.in_ok-loads.ensures.loads;
      rents = rows_fit value m x c.args.duals.now c.in_ok-rents.rents c.requires.duals.named (c.in_ok-rents.ensures.rents x (c.requires.flows ∙ flows_of_blocks m (map value c.args.dispatch.now) (map value c.args.reserve.now)));
      reserve = count_fits (reserve_pay_at value) (pay_of_reserve x d) c.in_ok-reserve.reserve _ reserved;
    }

pub returns-clause-surplus_is_rents : goal.returns-clause-surplus_is_rents
returns-clause-surplus_is_rents g c =
    let m = c.args.market.now in
    let value = g.N.Exact.value in
    let x = dispatch_with (map value c.args.dispatch.now) (map value c.args.reserve.now) in
    let money : Money g.row.N.Denot = record { units = c.in_ok-units.units; own = c.in_ok-own.own; loads = c.in_ok-loads.loads; rents = c.in_ok-rents.rents; surplus = c.in_ok-surplus.surplus; reserve = c.in_ok-reserve.reserve } in
    λ best.
    rents_are_left m x (duals_at value c.args.duals.now) (total_at value c.args.prices.now) c.lines-lines.ensures.market (money_at value money) (returns-clause-money g c) best
    ∙ sum_by-map (rent_at value) (λ (r : Rent Fraction). r.rent) c.in_ok-rents.rents

pub returns-clause-not_negative : goal.returns-clause-not_negative
returns-clause-not_negative g c =
    let m = c.args.market.now in
    let value = g.N.Exact.value in
    let x = dispatch_with (map value c.args.dispatch.now) (map value c.args.reserve.now) in
    let money : Money g.row.N.Denot = record { units = c.in_ok-units.units; own = c.in_ok-own.own; loads = c.in_ok-loads.loads; rents = c.in_ok-rents.rents; surplus = c.in_ok-surplus.surplus; reserve = c.in_ok-reserve.reserve } in
    λ best.
    left_not_negative m x (duals_at value c.args.duals.now) (total_at value c.args.prices.now) c.lines-lines.ensures.market (money_at value money) (returns-clause-money g c) best

pub returns-in_err-reserve-clause-stops : goal.returns-in_err-reserve-clause-stops
returns-in_err-reserve-clause-stops g c =
    let value = g.N.Exact.value in
    let given : c.from_residual-in_err-reserve.result ≡ Err c.in_err-reserve.field-0.0 = search rules in
    rw given
    (c.in_err-reserve.ensures.stops c.args.market.now (map value c.args.dispatch.now) (total_at value c.args.prices.now) (duals_at value c.args.duals.now) c.requires.reserve refl)
