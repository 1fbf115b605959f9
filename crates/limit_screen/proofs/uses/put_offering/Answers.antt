use Rattle.std.proofs.Common.{None, ◌<◌, ◌∙◌, List, ap, arith, get_or, length, pos, subst, sym}
use Rattle.std.proofs.lemmas.List.{length-replicate, take_all}
use Rattle.market_model.specs.declared.participants.Reserve.{Reserve}
use Rattle.market_model.specs.declared.participants.ReserveOffer.{ReserveOffer}
use Rattle.market_model.specs.Dispatch.{zero}
use Rattle.market_model.specs.Reserves.{offers_among}
use Rattle.market_model.proofs.ChangeLemmas.{same_default}
use Rattle.limit_screen.specs.Rooms.{HaveSums}
use Rattle.limit_screen.proofs.UseLemmas.{none_offered, offering_more}
use Rattle.limit_screen.proofs.uses.put_offering.Goals as goal

-- what stands where there is no offer
abbrev nothing : ReserveOffer
nothing = record { unit = 0; quantity = pos 0; price = pos 0 }

pub loop-offer-init : goal.loop-offer-init
loop-offer-init g c = none_offered g.N.Exact.value (length c.args.market.now.units) c.args.used.now c.requires

pub bounds-used-offer : goal.bounds-used-offer
bounds-used-offer g c =
    let m = c.args.market.now in
    let k = c.loop-offer.offer-index in
    let offers = c.slice-offer-items.ensures ∙ ap (λ (r : Reserve). r.offers) c.reserve.ensures.reserve in
    let below : k < length m.reserve.offers = omega (arith, c.loop-offer-test.true, ap length offers) in
    let inside : (get_or c.slice-offer-items.result.now k nothing).unit < length m.units =
    subst (λ (os : List ReserveOffer). (get_or os k nothing).unit < length m.units) (sym offers) (c.reserve.ensures.market.reserve.each k nothing below).unit in
    omega (arith, inside, c.loop-offer.auto.used, ap length c.requires ∙ length-replicate (length m.units) None)

pub loop-offer-preserved : goal.loop-offer-preserved
loop-offer-preserved g c =
    let m = c.args.market.now in
    let os = c.slice-offer-items.result.now in
    let k = c.loop-offer.offer-index in
    let offers = c.slice-offer-items.ensures ∙ ap (λ (r : Reserve). r.offers) c.reserve.ensures.reserve in
    let below : k < length m.reserve.offers = omega (arith, c.loop-offer-test.true, ap length offers) in
    let inside : (get_or os k nothing).unit < length m.units =
    subst (λ (ps : List ReserveOffer). (get_or ps k nothing).unit < length m.units) (sym offers) (c.reserve.ensures.market.reserve.each k nothing below).unit in
    offering_more g.N.Exact.value os k (get_or os k nothing) (length m.units) c.loop-offer.used c.datum.result c.loop-offer-test.true (same_default os k nothing (get_or os k nothing) c.loop-offer-test.true) inside c.datum.ensures
    c.loop-offer.invariant

pub returns-clause-sums : goal.returns-clause-sums
returns-clause-sums g c =
    let m = c.args.market.now in
    let offers = c.slice-offer-items.ensures ∙ ap (λ (r : Reserve). r.offers) c.reserve.ensures.reserve in
    subst (λ (os : List ReserveOffer). HaveSums g.N.Exact.value (offers_among os) (λ u. zero) (length m.units) c.loop-offer.used)
    (take_all c.loop-offer.offer-index c.slice-offer-items.result.now c.loop-offer-test.false ∙ offers) c.loop-offer.invariant
