use Rattle.std.proofs.Common.{rules, Err, ◌≡◌, ◌∙◌, List, map, ap, subst, get_or, pos, refl}
use Rattle.std.specs.Prelude.{◌==◌, filter}
use Rattle.std.proofs.lemmas.List.{take_all}
use Rattle.std.proofs.lemmas.Result.{IfErr-weaker}
use Rattle.fraction_theory.specs.Sums.{total}
use Rattle.market_model.specs.declared.participants.Pickup.{Pickup}
use Rattle.market_model.specs.LimitRows.{share_value, shift_factor, taker_term, taker_factor as factor_of_takers}
use Rattle.market_model.specs.Dispatch.{unit_at}
use Rattle.market_model.specs.NamedSums.{IsRefusedIn}
use Rattle.market_model.specs.Valued.{passed_at}
use Rattle.market_model.proofs.ChangeLemmas.{same_default}
use Rattle.limit_rows.proofs.PickupSteps.{no_factor, passing_refused, tested_more}
use Rattle.limit_rows.proofs.WidePickups.{takers_fit}
use Rattle.limit_rows.proofs.factors.taker_factor.Goals as goal

-- what stands where there is no record
abbrev nothing : Pickup
nothing = record { outage = 0; taker = 0; share = pos 0 }

pub loop-pickup-init : goal.loop-pickup-init
loop-pickup-init g c = c.as_number-sum.ensures ∙ no_factor

pub loop-pickup-preserved : goal.loop-pickup-preserved
loop-pickup-preserved g c =
    let m = c.args.market.now in
    let ps = c.slice-pickup-items.result.now in
    let p : Pickup = get_or ps c.loop-pickup.pickup-index nothing in
    tested_more (λ (q : Pickup). q.outage == c.args.outage) (taker_term m c.args.line) ps c.loop-pickup.pickup-index p c.loop-pickup-test.true (same_default ps c.loop-pickup.pickup-index nothing p c.loop-pickup-test.true)
    (p.outage == c.args.outage) refl (g.N.Exact.value c.loop-pickup.sum) (g.N.Exact.value c.in_ok-sum.sum) c.loop-pickup.invariant c.in_ok-sum.ensures.sum

pub returns-clause-factor : goal.returns-clause-factor
unfolding factor_of_takers
returns-clause-factor g c =
    let m = c.args.market.now in
    let listed : c.slice-pickup-items.result.now ≡ m.pickups = c.slice-pickup-items.ensures ∙ c.pickups.ensures.list in
    c.loop-pickup.invariant
    ∙ ap (λ (ps : List Pickup). total (map (taker_term m c.args.line) (filter (λ (q : Pickup). q.outage == c.args.outage) ps)))
    (take_all c.loop-pickup.pickup-index c.slice-pickup-items.result.now c.loop-pickup-test.false ∙ listed)

pub returns-in_err-sum-clause-stops : goal.returns-in_err-sum-clause-stops
returns-in_err-sum-clause-stops g c =
    let m = c.args.market.now in
    let ps = c.slice-pickup-items.result.now in
    let p : Pickup = get_or ps c.loop-pickup.pickup-index nothing in
    let given : c.from_residual.result ≡ Err c.in_err-sum.field-0.0 = search rules in
    let listed : c.slice-pickup-items.result.now ≡ m.pickups = c.slice-pickup-items.ensures ∙ c.pickups.ensures.list in
    rw given
    (subst (λ (qs : List Pickup). IsRefusedIn (map (taker_term m c.args.line) (filter (λ (q : Pickup). q.outage == c.args.outage) qs)) g.N.Exact.bound (passed_at g.N.Exact.value c.in_err-sum.field-0.0)) listed
    (passing_refused {T = Pickup} (λ (q : Pickup). q.outage == c.args.outage) (taker_term m c.args.line) ps c.loop-pickup.pickup-index p c.loop-pickup-test.true
    (same_default ps c.loop-pickup.pickup-index nothing p c.loop-pickup-test.true)
    (share_value p) (shift_factor m c.args.line (unit_at m p.taker).bus) (g.N.Exact.value c.loop-pickup.sum) g.N.Exact.bound (passed_at g.N.Exact.value c.in_err-sum.field-0.0)
    c.in_err-sum.ensures.belongs refl c.loop-pickup.invariant c.in_err-sum.ensures.stops))

pub returns-in_err-sum-clause-wide : goal.returns-in_err-sum-clause-wide
returns-in_err-sum-clause-wide g c = λ wide.
    IfErr-weaker c.from_residual.result _ _
    (λ p why. takers_fit g.N.Exact.bound wide (passed_at g.N.Exact.value p) c.args.market.now c.pickups.ensures.market c.args.line c.args.outage why) (returns-in_err-sum-clause-stops g c)
