use Rattle.std.proofs.Common.{◌<◌, ◌∙◌, List, ap, sym, length, pos, arith}
use Rattle.std.specs.Prelude.{◌==◌, slice_index_or}
use Rattle.std.proofs.lemmas.Bool.{eq-eqb, eqb-true}
use Rattle.market_data.specs.declared.participants.Unit.{Unit}
use Rattle.market_model.specs.Dispatch.{unit_at}
use Rattle.market_model.specs.Reserves.{offers_reserve}
use Rattle.cert_verify.proofs.TestLemmas.{not_both}
use Rattle.cert_verify.proofs.UnitLemmas.{any_here, any_more}
use Rattle.cert_verify.proofs.rooms.has_offer.Goals.{else-unit-row-via-then-unit-row+else-offers_reserve, else-unit-row-via-else-unit-row}
use Rattle.cert_verify.proofs.rooms.has_offer.Goals as goal

pub returns-then-offers_reserve : goal.returns-then-offers_reserve
returns-then-offers_reserve c =
    let m = c.args.market.now in
    let k = c.loop-at.at in
    let units = c.slice-unit-items.ensures ∙ c.units.ensures.list in
    let inside : k < length m.units = omega (arith, c.loop-at-test.true, ap length units) in
    let row_is = ap (λ (us : List Unit). (slice_index_or us k (record { row = 0; bus = 0; fixed = pos 0; up = pos 0; down = pos 0 })).row) units in
    sym (any_here (λ u. (unit_at m u).row == c.args.row) (offers_reserve m) (length m.units) k inside (eq-eqb _ _ (sym row_is ∙ c.if-unit-row.true)) (sym c.offers_reserve.ensures ∙ c.if-offers_reserve.true))

pub loop-at-preserved : goal.loop-at-preserved
loop-at-preserved c =
    let m = c.args.market.now in
    let k = c.loop-at.at in
    let units = c.slice-unit-items.ensures ∙ c.units.ensures.list in
    let inside : k < length m.units = omega (arith, c.loop-at-test.true, ap length units) in
    let row_is = ap (λ (us : List Unit). (slice_index_or us k (record { row = 0; bus = 0; fixed = pos 0; up = pos 0; down = pos 0 })).row) units in
    any_more (λ u. (unit_at m u).row == c.args.row) (offers_reserve m) k c.loop-at.invariant (elim c.else-unit-row.branch [
      | else-unit-row-via-then-unit-row+else-offers_reserve w ↦ not_both _ _ (λ _. sym w.offers_reserve.ensures ∙ w.if-offers_reserve.false)
      | else-unit-row-via-else-unit-row w ↦ not_both _ _ (λ e. absurd (w.if-unit-row.false (row_is ∙ eqb-true _ _ e)))
    ])
