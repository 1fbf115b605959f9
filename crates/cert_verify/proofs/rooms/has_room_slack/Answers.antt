use Rattle.std.proofs.Common.{rules, Err, ◌≡◌, ◌<◌, ◌∙◌, ℕ, List, ap, ap₂, sym, length, pos, arith}
use Rattle.std.specs.Prelude.{◌==◌, ◌&&◌, slice_index_or}
use Rattle.std.proofs.lemmas.Bool.{and_from, eq-eqb, eqb-true, false_from_ne_true}
use Rattle.fraction_theory.specs.Fraction.{Fraction}
use Rattle.market_data.specs.declared.participants.Unit.{Unit}
use Rattle.market_model.specs.Dispatch.{unit_at}
use Rattle.market_model.specs.Reserves.{offers_reserve, room, room_terms, room_used}
use Rattle.market_model.specs.SumTables.{used_of_room}
use Rattle.market_model.proofs.RoomLemmas.{offers-listed}
use Rattle.cert_verify.specs.Certified.{certified_dispatch}
use Rattle.cert_verify.specs.Reasons.{is_slack}
use Rattle.cert_verify.proofs.TestLemmas.{not_both}
use Rattle.cert_verify.proofs.UnitLemmas.{any_here, any_more, left_false}
use Rattle.cert_verify.proofs.rooms.has_room_slack.Goals.{then-unit-dual+then-offers_reserve+in_ok-used+else-is_slack, else-unit-dual, else-unit-dual-via-then-unit-dual+else-offers_reserve, else-unit-dual-via-else-unit-dual}
use Rattle.cert_verify.proofs.rooms.has_room_slack.Goals as goal

pub room_quantity-requires : goal.room_quantity-requires
room_quantity-requires g c = omega (arith, c.loop-at-test.true, ap length (c.slice-unit-items.ensures ∙ c.units.ensures.list))

pub returns-in_err-used-clause-stops : goal.returns-in_err-used-clause-stops
returns-in_err-used-clause-stops g c =
    let m = c.args.market.now in
    let k = c.loop-at.at in
    let x = certified_dispatch g.N.Exact.value c.args.dispatch.now in
    let inside : k < length m.units = omega (arith, c.loop-at-test.true, ap length (c.slice-unit-items.ensures ∙ c.units.ensures.list)) in
    let given : c.from_residual.result ≡ Err c.in_err-used.field-0.0 = search rules in
    rw given (room_terms m x k, used_of_room k (offers-listed m k inside (sym c.offers_reserve.ensures ∙ c.if-offers_reserve.true)), c.in_err-used.ensures.stops)

pub returns-then-is_slack-clause-slack : goal.returns-then-is_slack-clause-slack
returns-then-is_slack-clause-slack g c =
    let m = c.args.market.now in
    let k = c.loop-at.at in
    let value = g.N.Exact.value in
    let x = certified_dispatch value c.args.dispatch.now in
    let units = c.slice-unit-items.ensures ∙ c.units.ensures.list in
    let row_is = ap (λ (us : List Unit). (slice_index_or us k (record { row = 0; bus = 0; fixed = pos 0; up = pos 0; down = pos 0 })).row) units in
    let test = λ (u : ℕ). ((unit_at m u).row == c.args.dual.now.unit) && is_slack (value c.args.dual.now.price) (room_used m x u) (room m u) in
    let inside : k < length m.units = omega (arith, c.loop-at-test.true, ap length units) in
    sym (any_here test (offers_reserve m) (length m.units) k inside
    (and_from _ _ (eq-eqb _ _ (sym row_is ∙ c.if-unit-dual.true))
    (sym (ap₂ (λ (used all : Fraction). is_slack (value c.args.dual.now.price) used all) c.in_ok-used.ensures.used c.room_quantity.ensures.room) ∙ sym c.is_slack.ensures ∙ c.if-is_slack.true))
    (sym c.offers_reserve.ensures ∙ c.if-offers_reserve.true))

pub loop-at-preserved : goal.loop-at-preserved
loop-at-preserved g c =
    let m = c.args.market.now in
    let k = c.loop-at.at in
    let value = g.N.Exact.value in
    let x = certified_dispatch value c.args.dispatch.now in
    let units = c.slice-unit-items.ensures ∙ c.units.ensures.list in
    let row_is = ap (λ (us : List Unit). (slice_index_or us k (record { row = 0; bus = 0; fixed = pos 0; up = pos 0; down = pos 0 })).row) units in
    let test = λ (u : ℕ). ((unit_at m u).row == c.args.dual.now.unit) && is_slack (value c.args.dual.now.price) (room_used m x u) (room m u) in
    any_more test (offers_reserve m) k c.loop-at.invariant (elim c.if-unit-dual.branch [
      | then-unit-dual+then-offers_reserve+in_ok-used+else-is_slack w ↦ left_false _ _ (not_both _ _ (λ _.
          sym (ap₂ (λ (used all : Fraction). is_slack (value c.args.dual.now.price) used all) w.in_ok-used.ensures.used w.room_quantity.ensures.room) ∙ sym w.is_slack.ensures ∙ w.if-is_slack.false))
      | else-unit-dual w ↦ elim w.else-unit-dual.branch [
        | else-unit-dual-via-then-unit-dual+else-offers_reserve w' ↦ not_both _ _ (λ _. sym w'.offers_reserve.ensures ∙ w'.if-offers_reserve.false)
        | else-unit-dual-via-else-unit-dual w' ↦ left_false _ _ (left_false _ _ (false_from_ne_true _ (λ e. w'.if-unit-dual.false (row_is ∙ eqb-true _ _ e))))
      ]
    ])
