use Rattle.std.proofs.Common.{rules, Err, ◌≡◌, ◌∙◌, ℕ, [], ◌∷◌, ap}
use Rattle.std.proofs.lemmas.Result.{IfOk-weaker, IfErr-weaker}
use Rattle.fraction_theory.specs.Fraction.{neg_ℚ}
use Rattle.fraction_theory.specs.Sums.{Plain}
use Rattle.market_model.specs.Dispatch.{unit_at}
use Rattle.market_model.specs.LimitRows.{lost_unit, shift_factor, taker_terms}
use Rattle.market_model.specs.Valued.{passed_at}
use Rattle.limit_rows.proofs.PickupSteps.{less_own, less_refused, refused_in_front}
use Rattle.limit_rows.proofs.WidePickups.{pickup_fits}
use Rattle.limit_rows.proofs.factors.pickup_factor.Goals as goal

pub returns-in_err-taken-clause-stops : goal.returns-in_err-taken-clause-stops
returns-in_err-taken-clause-stops g c =
    let m = c.args.market.now in
    let given : c.from_residual.result ≡ Err c.in_err-taken.field-0.0 = search rules in
    rw given
    (refused_in_front (taker_terms m c.args.line c.args.outage) (Plain (neg_ℚ (shift_factor m c.args.line (unit_at m (lost_unit m c.args.outage)).bus)) ∷ []) g.N.Exact.bound
    (passed_at g.N.Exact.value c.in_err-taken.field-0.0) c.in_err-taken.ensures.stops)

pub returns-clause-factor : goal.returns-clause-factor
returns-clause-factor g c =
    let m = c.args.market.now in
    let own = c.shift_for_unit.ensures ∙ ap (λ (u : ℕ). shift_factor m c.args.line (unit_at m u).bus) c.lost_unit.ensures.is in
    IfOk-weaker c.less.result _ _ (λ left e. less_own m c.args.line c.args.outage _ _ c.in_ok-taken.ensures.factor own (g.N.Exact.value left) e) c.less.ensures.left

pub returns-clause-stops : goal.returns-clause-stops
returns-clause-stops g c =
    let m = c.args.market.now in
    let own = c.shift_for_unit.ensures ∙ ap (λ (u : ℕ). shift_factor m c.args.line (unit_at m u).bus) c.lost_unit.ensures.is in
    IfErr-weaker c.less.result _ _
    (λ e why. less_refused m c.args.line c.args.outage _ _ c.in_ok-taken.ensures.factor own g.N.Exact.bound (passed_at g.N.Exact.value e) why) c.less.ensures.stops

pub returns-clause-wide : goal.returns-clause-wide
returns-clause-wide g c = λ wide.
    IfErr-weaker c.less.result _ _ (λ p why. pickup_fits g.N.Exact.bound wide (passed_at g.N.Exact.value p) c.args.market.now c.lines-lines.ensures.market c.args.line c.args.outage why) (returns-clause-stops g c)
