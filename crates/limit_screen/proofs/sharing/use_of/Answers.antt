use Rattle.std.proofs.Common.{rules, Err, Some, ◌≡◌, ◌∙◌, ap, map, sym}
use Rattle.std.specs.Prelude.{Bool}
use Rattle.fraction_theory.specs.Fraction.{Fraction}
use Rattle.market_model.specs.Dispatch.{dispatch_with}
use Rattle.market_model.specs.Reserves.{room_terms, room_used}
use Rattle.market_model.specs.SumTables.{used_of_room}
use Rattle.market_model.proofs.RoomLemmas.{offers-listed}
use Rattle.limit_screen.specs.Rooms.{counted}
use Rattle.limit_screen.proofs.sharing.use_of.Goals as goal

pub returns-in_ok-room_used-clause-used : goal.returns-in_ok-room_used-clause-used
returns-in_ok-room_used-clause-used g c =
    let m = c.args.market.now in
    let value = g.N.Exact.value in
    let x = dispatch_with (map value c.args.dispatch.now) (map value c.args.reserve.now) in
    ap (λ (t : Fraction). Some t) c.in_ok-room_used.ensures.used ∙ ap (λ (b : Bool). counted b (room_used m x c.args.unit)) c.if-offers_reserve.ensures

pub returns-in_err-room_used-clause-stops : goal.returns-in_err-room_used-clause-stops
returns-in_err-room_used-clause-stops g c =
    let m = c.args.market.now in
    let value = g.N.Exact.value in
    let given : c.from_residual.result ≡ Err c.in_err-room_used.field-0.0 = search rules in
    rw given (
      room_terms m (dispatch_with (map value c.args.dispatch.now) (map value c.args.reserve.now)) c.args.unit,
      used_of_room c.args.unit (offers-listed m c.args.unit c.requires.unit (sym c.if-offers_reserve.ensures)),
      c.in_err-room_used.ensures.stops,
    )

pub returns-else-offers_reserve-clause-used : goal.returns-else-offers_reserve-clause-used
returns-else-offers_reserve-clause-used g c =
    let m = c.args.market.now in
    let value = g.N.Exact.value in
    let x = dispatch_with (map value c.args.dispatch.now) (map value c.args.reserve.now) in
    ap (λ (b : Bool). counted b (room_used m x c.args.unit)) c.if-offers_reserve.ensures
