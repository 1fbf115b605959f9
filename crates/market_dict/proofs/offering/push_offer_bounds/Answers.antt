use Rattle.std.proofs.Common.{◌≡◌, ◌∙◌, ◌+◌, ◌++◌, ◌<◌, ◌≤ℤ◌, List, map, ap, subst, sym, length, arith, pos, ℕ}
use Rattle.std.specs.Prelude.{slice_index_or}
use Rattle.fraction_theory.specs.Fraction.{Fraction, whole}
use Rattle.market_model.specs.declared.participants.Reserve.{Reserve}
use Rattle.market_model.specs.declared.participants.ReserveOffer.{ReserveOffer}
use Rattle.market_model.specs.Dispatch.{places}
use Rattle.market_model.specs.Dispatch.{reserve_quantity, zero}
use Rattle.market_system.specs.MarketSystem.{low as low_of, high as high_of}
use Rattle.simplex_core.specs.declared.bounds.Bounds.{Bounds}
use Rattle.market_dict.proofs.ColumnLists.{mapped_offers}
use Rattle.market_dict.proofs.ListedLemmas.{filled_behind}
use Rattle.market_dict.proofs.offering.push_offer_bounds.Goals as goal

pub offer_quantity-high-requires : goal.offer_quantity-high-requires
offer_quantity-high-requires g c =
    let m = c.args.market.now in
    let k = c.loop-offer.offer-index in
    let offers = c.slice-offer-items.ensures ∙ ap (λ (r : Reserve). r.offers) c.reserve.ensures.reserve in
    let read = ap (λ (os : List ReserveOffer). slice_index_or os k (record { unit = 0; quantity = pos 0; price = pos 0 })) offers in
    let lt : k < length m.reserve.offers = omega (arith, c.loop-offer-test.true, ap length offers) in
    subst (λ (o : ReserveOffer). pos 0 ≤ℤ o.quantity) (sym read) (c.reserve.ensures.market.reserve.each k (record { unit = 0; quantity = pos 0; price = pos 0 }) lt).quantity

pub loop-offer-preserved : goal.loop-offer-preserved
loop-offer-preserved g c =
    let m = c.args.market.now in
    let k = c.loop-offer.offer-index in
    let low = λ (b : Bounds g.row.N.Denot). g.N.Exact.value b.low in
    let high = λ (b : Bounds g.row.N.Denot). g.N.Exact.value b.high in
    let old = c.args.bounds.now in
    let new : Bounds g.row.N.Denot = record { low = c.datum-low.result; high = c.offer_quantity-high.result } in
    let nothing : ℕ → Fraction = λ n. zero in
    let offers = c.slice-offer-items.ensures ∙ ap (λ (r : Reserve). r.offers) c.reserve.ensures.reserve in
    let read = ap (λ (os : List ReserveOffer). slice_index_or os k (record { unit = 0; quantity = pos 0; price = pos 0 })) offers in
    record {
      lows =
          subst (λ (xs : List (Bounds g.row.N.Denot)). map low xs ≡ map low old ++ map nothing (places (k + 1))) (sym c.in_ok-push.ensures)
          (filled_behind low nothing (map low old) c.loop-offer.bounds k new c.loop-offer.invariant.lows c.datum-low.ensures);
      highs =
          subst (λ (xs : List (Bounds g.row.N.Denot)). map high xs ≡ map high old ++ map (reserve_quantity m) (places (k + 1))) (sym c.in_ok-push.ensures)
          (filled_behind high (reserve_quantity m) (map high old) c.loop-offer.bounds k new c.loop-offer.invariant.highs (c.offer_quantity-high.ensures ∙ ap (λ (o : ReserveOffer). whole o.quantity) read));
    }

pub returns-clause-lows : goal.returns-clause-lows
returns-clause-lows g c =
    let m = c.args.market.now in
    let low = λ (b : Bounds g.row.N.Denot). g.N.Exact.value b.low in
    let old = map low c.args.bounds.now in
    let nothing : ℕ → Fraction = λ n. zero in
    let offers = c.slice-offer-items.ensures ∙ ap (λ (r : Reserve). r.offers) c.reserve.ensures.reserve in
    let all : c.loop-offer.offer-index ≡ length m.reserve.offers = omega (arith, ap length offers) in
    subst (λ (n : ℕ). map low c.loop-offer.bounds ≡ old ++ map nothing (places n)) all c.loop-offer.invariant.lows ∙ ap (λ (xs : List Fraction). old ++ xs) (sym (mapped_offers m (low_of m)))

pub returns-clause-highs : goal.returns-clause-highs
returns-clause-highs g c =
    let m = c.args.market.now in
    let high = λ (b : Bounds g.row.N.Denot). g.N.Exact.value b.high in
    let old = map high c.args.bounds.now in
    let offers = c.slice-offer-items.ensures ∙ ap (λ (r : Reserve). r.offers) c.reserve.ensures.reserve in
    let all : c.loop-offer.offer-index ≡ length m.reserve.offers = omega (arith, ap length offers) in
    subst (λ (n : ℕ). map high c.loop-offer.bounds ≡ old ++ map (reserve_quantity m) (places n)) all c.loop-offer.invariant.highs ∙ ap (λ (xs : List Fraction). old ++ xs) (sym (mapped_offers m (high_of m)))
