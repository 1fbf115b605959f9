use Rattle.std.proofs.Common.{◌≡◌, ◌∙◌, ℕ, Bool, List, [], ◌∷◌, ◌++◌, ap, ap₂, map, sym, length, pos, arith}
use Rattle.std.specs.Prelude.{filter, slice_index_or, if◌then◌else◌}
use Rattle.std.proofs.lemmas.List.{map-append}
use Rattle.fraction_theory.specs.Fraction.{Fraction}
use Rattle.market_data.specs.declared.participants.Unit.{Unit}
use Rattle.market_model.specs.Dispatch.{places, unit_at, zero}
use Rattle.market_model.specs.Optimality.{names_room, room_price_in}
use Rattle.market_model.specs.Reserves.{offers_reserve}
use Rattle.market_model.specs.Valued.{room_dual_at}
use Rattle.cert_sums.specs.Named.{PricedRoom, room_priced_at, room_priced_by}
use Rattle.cert_verify.proofs.UnitLemmas.{both_kept, not_kept, one_not, price_absent, price_read, price_there}
use Rattle.cert_verify.proofs.rooms.named_rooms.Goals.{then-offers_reserve+in-Some+in_ok-push, then-offers_reserve+in_default, else-offers_reserve}
use Rattle.cert_verify.proofs.rooms.named_rooms.Goals as goal

pub loop-at-preserved : goal.loop-at-preserved
loop-at-preserved g c = λ d is.
    let m = c.args.market.now in
    let k = c.loop-at.at in
    let value = g.N.Exact.value in
    let units = c.slice-unit-items.ensures ∙ c.units.ensures.list in
    let row_is = ap (λ (us : List Unit). (slice_index_or us k (record { row = 0; bus = 0; fixed = pos 0; up = pos 0; down = pos 0 })).row) units in
    let named = λ (u : ℕ). names_room d.rooms (unit_at m u).row in
    let offers = offers_reserve m in
    let before = filter named (filter offers (places k)) in
    elim c.if-offers_reserve.branch [
      | then-offers_reserve+in-Some+in_ok-push w ↦
          let kept = sym c.offers_reserve.ensures ∙ w.if-offers_reserve.true in
          let there = price_there value d.rooms (unit_at m k).row w.price_of.result w.in-Some.price (price_read value d.rooms (map (room_dual_at value) c.args.rooms.now) (unit_at m k).row _ w.price_of.result is row_is w.price_of.ensures) w.in-Some.is in
          let price = there.1 ∙ sym (ap (λ (b : Bool). if b then room_price_in d.rooms (unit_at m k).row else zero) kept) in
          ap (map (room_priced_at value)) (w.named-is ∙ w.in_ok-push.ensures) ∙ map-append (room_priced_at value) c.loop-at.named (record { unit = k; price = w.in-Some.price } ∷ [])
          ∙ ap₂ (λ (xs : List PricedRoom) (y : PricedRoom). xs ++ y ∷ []) (c.loop-at.invariant d is) (ap (λ (t : Fraction). record { unit = k; price = t }) price)
          ∙ sym (map-append (room_priced_by m d) before (k ∷ [])) ∙ ap (map (room_priced_by m d)) (sym (both_kept named offers k kept there.0))
      | then-offers_reserve+in_default w ↦
          let kept = sym c.offers_reserve.ensures ∙ w.if-offers_reserve.true in
          let absent = price_absent value d.rooms (unit_at m k).row w.price_of.result (price_read value d.rooms (map (room_dual_at value) c.args.rooms.now) (unit_at m k).row _ w.price_of.result is row_is w.price_of.ensures) w.in_default.is in
          ap (map (room_priced_at value)) w.named-is ∙ c.loop-at.invariant d is ∙ ap (map (room_priced_by m d)) (sym (one_not named offers k kept absent))
      | else-offers_reserve w ↦
          ap (map (room_priced_at value)) w.named-is ∙ c.loop-at.invariant d is ∙ ap (map (room_priced_by m d)) (sym (not_kept named offers k (sym c.offers_reserve.ensures ∙ w.if-offers_reserve.false)))
    ]

pub returns : goal.returns
returns g c = λ d is.
    let m = c.args.market.now in
    let units = c.slice-unit-items.ensures ∙ c.units.ensures.list in
    let all : c.loop-at.at ≡ length m.units = omega (arith, c.loop-at-test.false, c.loop-at.auto.at-end, ap length units) in
    c.loop-at.invariant d is ∙ ap (λ (n : ℕ). map (room_priced_by m d) (filter (λ u. names_room d.rooms (unit_at m u).row) (filter (offers_reserve m) (places n)))) all
