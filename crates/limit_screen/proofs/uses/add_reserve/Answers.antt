use Rattle.std.proofs.Common.{rules, Err, [], refl, ◌+◌, ◌<◌, ◌≡◌, ◌∙◌, ap, length, map, pos, arith, sym, subst, List}
use Rattle.std.specs.Prelude.{slice_index_or, ◌==◌, if◌then◌else◌}
use Rattle.std.proofs.lemmas.Bool.{eq-eqb}
use Rattle.std.proofs.lemmas.List.{append-nil}
use Rattle.fraction_theory.specs.Fraction.{◌+ℚ◌}
use Rattle.fraction_theory.specs.Sums.{total}
use Rattle.market_model.specs.declared.participants.Reserve.{Reserve}
use Rattle.market_model.specs.declared.participants.ReserveOffer.{ReserveOffer}
use Rattle.market_model.specs.Dispatch.{block_term, blocks_of, dispatch_with, offer_at, reserved, zero}
use Rattle.market_model.specs.Reserves.{offers_reserve, room_terms, room_used}
use Rattle.market_model.specs.SumTables.{used_of_room}
use Rattle.market_model.specs.Valued.{passed_at}
use Rattle.market_model.proofs.PutInSteps.{accepted_is}
use Rattle.market_model.proofs.RoomLemmas.{counted_refused, counted_step, counted_to, offers-listed}
use Rattle.limit_screen.proofs.UseLemmas.{sums_same}
use Rattle.limit_screen.proofs.uses.add_reserve.Goals as goal

-- what stands where there is no offer
abbrev nothing : ReserveOffer
nothing = record { unit = 0; quantity = pos 0; price = pos 0 }

pub loop-at-init : goal.loop-at-init
loop-at-init g c = λ blocks have. sums_same g.N.Exact.value (offers_reserve c.args.market.now) _ _ (length c.args.market.now.units) c.args.used.now have
    (λ u. ap total (sym (append-nil (map (block_term c.args.market.now (dispatch_with blocks (map g.N.Exact.value c.args.reserve.now))) (blocks_of c.args.market.now u)))))

pub add_use-requires : goal.add_use-requires
add_use-requires g c =
    let m = c.args.market.now in
    let k = c.loop-at.at in
    let offers = c.slice-offer-items.ensures ∙ ap (λ (r : Reserve). r.offers) c.reserve.ensures.reserve in
    let below : k < length m.reserve.offers = omega (arith, c.loop-at-test.true, ap length offers) in
    let inside : (slice_index_or c.slice-offer-items.result.now k nothing).unit < length m.units =
    subst (λ (os : List ReserveOffer). (slice_index_or os k nothing).unit < length m.units) (sym offers) (c.reserve.ensures.market.reserve.each k nothing below).unit in
    omega (arith, inside, c.loop-at.auto.used, c.requires.count)

pub loop-at-preserved : goal.loop-at-preserved
loop-at-preserved g c = λ blocks have.
    let m = c.args.market.now in
    let value = g.N.Exact.value in
    let k = c.loop-at.at in
    let rs = c.args.reserve.now in
    let x = dispatch_with blocks (map value rs) in
    let offers = c.slice-offer-items.ensures ∙ ap (λ (r : Reserve). r.offers) c.reserve.ensures.reserve in
    let o = slice_index_or c.slice-offer-items.result.now k nothing in
    let offer = ap (λ (os : List ReserveOffer). slice_index_or os k nothing) offers in
    let inside : k < length rs = omega (arith, c.loop-at-test.true, c.requires.reserve, ap length offers) in
    let mw = value c.index-reserve-at.result in
    let sum = λ (n : _) (u : _). total (counted_to (map (block_term m x) (blocks_of m u)) (λ j. (offer_at m j).unit == u) (reserved x) n) in
    sums_same value (offers_reserve m) (λ u. sum k u +ℚ (if o.unit == u then mw else zero)) (sum (k + 1)) (length m.units) _ (c.in_ok-add_use.ensures.sums (offers_reserve m) (sum k) (length m.units) (c.loop-at.invariant blocks have))
    (λ u. counted_step (map (block_term m x) (blocks_of m u)) (λ j. (offer_at m j).unit == u) (reserved x) k (o.unit == u) mw (sum k u) (sum k u +ℚ (if o.unit == u then mw else zero))
    (ap (λ (p : ReserveOffer). p.unit == u) offer) (sym (accepted_is value rs k c.index-reserve-at.result inside c.index-reserve-at.is)) refl refl)

pub returns-clause-sums : goal.returns-clause-sums
unfolding room_used
returns-clause-sums g c = λ blocks have.
    let m = c.args.market.now in
    let offers = c.slice-offer-items.ensures ∙ ap (λ (r : Reserve). r.offers) c.reserve.ensures.reserve in
    let all : c.loop-at.at ≡ length m.reserve.offers = omega (arith, c.loop-at-test.false, c.loop-at.auto.at-end, ap length offers) in
    rw all at c.loop-at.invariant blocks have

pub returns-in_err-add_use-clause-stops : goal.returns-in_err-add_use-clause-stops
returns-in_err-add_use-clause-stops g c =
    let m = c.args.market.now in
    let value = g.N.Exact.value in
    let k = c.loop-at.at in
    let rs = c.args.reserve.now in
    let offers = c.slice-offer-items.ensures ∙ ap (λ (r : Reserve). r.offers) c.reserve.ensures.reserve in
    let o = slice_index_or c.slice-offer-items.result.now k nothing in
    let offer = ap (λ (os : List ReserveOffer). slice_index_or os k nothing) offers in
    let below : k < length m.reserve.offers = omega (arith, c.loop-at-test.true, ap length offers) in
    let inside : k < length rs = omega (arith, below, c.requires.reserve) in
    let unit_inside = subst (λ (os : List ReserveOffer). (slice_index_or os k nothing).unit < length m.units) (sym offers) (c.reserve.ensures.market.reserve.each k nothing below).unit in
    let given : c.from_residual.result ≡ Err c.in_err-add_use.field-0.0 = search rules in
    λ blocks have. rw given
    (let x = dispatch_with blocks (map value rs) in
    let front = map (block_term m x) (blocks_of m o.unit) in
    let sum = λ (u : _). total (counted_to (map (block_term m x) (blocks_of m u)) (λ j. (offer_at m j).unit == u) (reserved x) k) in
    let why = c.in_err-add_use.ensures.stops (offers_reserve m) sum (length m.units) (c.loop-at.invariant blocks have) in (
      _,
      used_of_room o.unit (offers-listed m o.unit unit_inside why.0),
      counted_refused front (λ j. (offer_at m j).unit == o.unit) (reserved x) [] (room_terms m x o.unit) (length m.reserve.offers) k (o.unit == o.unit)
          (value c.index-reserve-at.result) (sum o.unit) g.N.Exact.bound (passed_at value c.in_err-add_use.field-0.0) (sym (append-nil (room_terms m x o.unit))) below
          (ap (λ (p : ReserveOffer). p.unit == o.unit) offer) (eq-eqb o.unit o.unit refl) (sym (accepted_is value rs k c.index-reserve-at.result inside c.index-reserve-at.is)) refl why.1,
    ))
