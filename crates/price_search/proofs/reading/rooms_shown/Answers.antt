use Rattle.std.specs.List.{flat_map}
use Rattle.std.proofs.Common.{◌∙◌, ap, arith, get_or, length, refl}
use Rattle.std.proofs.lemmas.List.{take_all}
use Rattle.market_data.specs.declared.participants.Unit.{Unit}
use Rattle.market_model.proofs.PutInSteps.{unit_read}
use Rattle.price_search.specs.Reading.{room_noted}
use Rattle.price_search.proofs.ReadingLemmas.{column_count, room_more, unit_inside}
use Rattle.price_search.proofs.reading.rooms_shown.Goals as goal

pub overflow_mul-first : goal.overflow_mul-first
overflow_mul-first g c =
    let h = c.requires.holds in
    let d = c.args.dict.now in
    omega (arith, c.column_count-columns.ensures, c.column_count-columns.type_inv, h.2.sound.column_count, column_count c.args.market.now h.0 c.args.reached d h.1 h.2)

pub overflow_add-first : goal.overflow_add-first
overflow_add-first g c =
    let h = c.requires.holds in
    let d = c.args.dict.now in
    omega (arith, c.column_count-columns.ensures, c.column_count-columns.type_inv, h.2.sound.column_count, column_count c.args.market.now h.0 c.args.reached d h.1 h.2)

pub overflow_add-first-in-loop-place : goal.overflow_add-first-in-loop-place
overflow_add-first-in-loop-place g c =
    let h = c.requires.holds in
    let d = c.args.dict.now in
    omega (
      arith,
      c.loop-place-test.true,
      c.column_count-columns.ensures,
      c.column_count-columns.type_inv,
      h.2.sound.column_count,
      column_count c.args.market.now h.0 c.args.reached d h.1 h.2,
    )

pub price_shown-price-requires-clause-place : goal.price_shown-price-requires-clause-place
price_shown-price-requires-clause-place g c =
    let h = c.requires.holds in
    let d = c.args.dict.now in
    omega (arith, c.loop-place-test.true, column_count c.args.market.now h.0 c.args.reached d h.1 h.2)

pub at-requires : goal.at-requires
at-requires g c =
    let h = c.requires.holds in
    let lt = unit_inside c.args.market.now h.0 c.args.reached c.args.dict.now h.1 h.2 c.loop-place.place c.loop-place-test.true in
    omega (arith, lt, ap length c.units.ensures.list)

pub loop-place-preserved : goal.loop-place-preserved
loop-place-preserved g c =
    let m = c.args.market.now in
    let h = c.requires.holds in
    let us = c.args.reached.units.now in
    let k = c.loop-place.place in
    let unit = unit_read m c.units.result.now (get_or us k 0) (get_or us k 0) c.at.result.now c.units.ensures.list refl c.at.ensures in
    room_more m h.0 c.args.reached c.args.dict.now h.1 h.2 k c.loop-place-test.true _ _ c.at.result.now.row (length c.args.reached.rows.now) _ c.loop-place.invariant c.in_ok-push_room.ensures (ap Unit.row unit)
    refl c.price_shown-price.ensures

pub returns : goal.returns
returns g c = λ x are holds.
    c.loop-place.invariant
    ∙ ap (flat_map (room_noted c.args.market.now c.args.dict.now))
    (take_all c.loop-place.place c.args.reached.units.now (omega (arith, c.loop-place-test.false)) ∙ are.units)
