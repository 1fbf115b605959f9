use Rattle.std.proofs.Common.{rules, Err, ◌≡◌, ◌<◌, ◌∙◌, List, Some, ap, ap₂, sym, length, pos, arith}
use Rattle.std.specs.Prelude.{slice_index_or}
use Rattle.market_data.specs.declared.participants.Unit.{Unit}
use Rattle.market_model.specs.Dispatch.{unit_at}
use Rattle.market_model.specs.Reserves.{offers_reserve, room_terms}
use Rattle.market_model.specs.SumTables.{used_of_room}
use Rattle.market_model.proofs.RoomLemmas.{offers-listed}
use Rattle.cert_verify.specs.Certified.{certified_dispatch}
use Rattle.cert_verify.specs.declared.verdicts.Reason.TheVariants as reason
use Rattle.cert_verify.specs.Reasons.{is_below, is_overfull}
use Rattle.cert_verify.proofs.UnitLemmas.{first_here, none_kept, none_passed}
use Rattle.cert_verify.proofs.rooms.overfull_room.Goals.{then-offers_reserve+in_ok-used+else-is_below, else-offers_reserve}
use Rattle.cert_verify.proofs.rooms.overfull_room.Goals as goal

pub room_quantity-requires : goal.room_quantity-requires
room_quantity-requires g c = omega (arith, c.loop-at-test.true, ap length (c.slice-unit-items.ensures ∙ c.units.ensures.list))

pub returns-in_err-used-clause-stops : goal.returns-in_err-used-clause-stops
returns-in_err-used-clause-stops g c =
    let m = c.args.market.now in
    let k = c.loop-at.at in
    let x = certified_dispatch g.N.Exact.value c.args.dispatch.now in
    let inside : k < length m.units = omega (arith, c.loop-at-test.true, ap length (c.slice-unit-items.ensures ∙ c.units.ensures.list)) in
    let given : c.from_residual.result ≡ Err c.in_err-used.field-0.0 = search rules in
    rw given (room_terms m x k, used_of_room k (offers-listed m k inside (sym c.offers_reserve.ensures ∙ c.if-offers_reserve.true)), c.in_err-used.ensures.stops)

pub returns-then-is_below-clause-first : goal.returns-then-is_below-clause-first
returns-then-is_below-clause-first g c =
    let m = c.args.market.now in
    let k = c.loop-at.at in
    let x = certified_dispatch g.N.Exact.value c.args.dispatch.now in
    let units = c.slice-unit-items.ensures ∙ c.units.ensures.list in
    let inside : k < length m.units = omega (arith, c.loop-at-test.true, ap length units) in
    ap (λ (us : List Unit). Some (reason.Room (slice_index_or us k (record { row = 0; bus = 0; fixed = pos 0; up = pos 0; down = pos 0 })).row)) units
    ∙ first_here (is_overfull m x) (offers_reserve m) (λ u. reason.Room (unit_at m u).row) (length m.units) k c.loop-at.invariant inside (sym c.offers_reserve.ensures ∙ c.if-offers_reserve.true)
    (sym (ap₂ is_below c.room_quantity.ensures.room c.in_ok-used.ensures.used) ∙ sym c.is_below.ensures ∙ c.if-is_below.true)

pub loop-at-preserved : goal.loop-at-preserved
loop-at-preserved g c =
    let m = c.args.market.now in
    let k = c.loop-at.at in
    let x = certified_dispatch g.N.Exact.value c.args.dispatch.now in
    elim c.if-offers_reserve.branch [
      | then-offers_reserve+in_ok-used+else-is_below w ↦ none_kept (is_overfull m x) (offers_reserve m) k c.loop-at.invariant
          (sym (ap₂ is_below w.room_quantity.ensures.room w.in_ok-used.ensures.used) ∙ sym w.is_below.ensures ∙ w.if-is_below.false)
      | else-offers_reserve w ↦ none_passed (is_overfull m x) (offers_reserve m) k c.loop-at.invariant (sym c.offers_reserve.ensures ∙ w.if-offers_reserve.false)
    ]
