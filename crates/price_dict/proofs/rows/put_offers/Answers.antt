use Rattle.std.proofs.Common.{◌≡◌, ◌<◌, ◌≤◌, ◌+◌, ◌∙◌, ap, arith, length, map, refl, subst, sym, ℕ, List, take}
use Rattle.std.proofs.lemmas.List.{take_all}
use Rattle.std.specs.List.{Contains}
use Rattle.market_model.specs.declared.participants.Reserve.{Reserve}
use Rattle.market_model.specs.Dispatch.{offer_at}
use Rattle.price_system.specs.declared.variables.Variable.{Variable}
use Rattle.price_system.specs.declared.variables.Variable.TheVariants.{Offer}
use Rattle.price_system.specs.PriceSystem.{reserve_coefficient, sum_name, worths}
use Rattle.price_dict.specs.Holding.{HasPutIn}
use Rattle.price_dict.proofs.HoldingLaws.{next_absent, put_next}
use Rattle.price_dict.proofs.NamePlaces.{offer_read, offer_worth, worths_count}
use Rattle.price_dict.proofs.rows.put_offers.Goals as goal

pub row_name_behind-name-requires-clause-place : goal.row_name_behind-name-requires-clause-place
row_name_behind-name-requires-clause-place g c =
    let m = c.args.market.now in
    let blocks : c.len-blocks.result ≡ length m.blocks = c.len-blocks.ensures ∙ ap length c.blocks-2.ensures.list in
    let offers : c.len-place-end.result ≡ length m.reserve.offers = c.len-place-end.ensures ∙ ap (λ (r : Reserve). length r.offers) c.reserve.ensures.reserve in
    omega (arith, worths_count m, blocks, offers, c.loop-place-test.true)

pub put_row-requires-clause-absent : goal.put_row-requires-clause-absent
put_row-requires-clause-absent g c =
    let m = c.args.market.now in
    let blocks : c.len-blocks.result ≡ length m.blocks = c.len-blocks.ensures ∙ ap length c.blocks-2.ensures.list in
    let offers : c.len-place-end.result ≡ length m.reserve.offers = c.len-place-end.ensures ∙ ap (λ (r : Reserve). length r.offers) c.reserve.ensures.reserve in
    let inside : 1 + length m.blocks + c.loop-place.place < length (worths m) = omega (arith, worths_count m, offers, c.loop-place-test.true) in
    let named : c.row_name_behind-name.result ≡ sum_name m + (1 + length m.blocks + c.loop-place.place) = omega (arith, c.row_name_behind-name.ensures, blocks) in
    subst (λ (n : ℕ). ¬ (Contains c.loop-place.dict.names n)) (sym named)
    (next_absent m c.args.columns.now (1 + length m.blocks + c.loop-place.place) c.loop-place.dict c.lines-lines.ensures.market c.requires.columns inside c.loop-place.invariant)

pub loop-place-preserved : goal.loop-place-preserved
loop-place-preserved g c =
    let m = c.args.market.now in
    let k = c.loop-place.place in
    let blocks : c.len-blocks.result ≡ length m.blocks = c.len-blocks.ensures ∙ ap length c.blocks-2.ensures.list in
    let offers : c.len-place-end.result ≡ length m.reserve.offers = c.len-place-end.ensures ∙ ap (λ (r : Reserve). length r.offers) c.reserve.ensures.reserve in
    let here : k < length m.reserve.offers = omega (arith, offers, c.loop-place-test.true) in
    let inside : 1 + length m.blocks + k < length (worths m) = omega (arith, worths_count m, here) in
    let named : c.row_name_behind-name.result ≡ sum_name m + (1 + length m.blocks + k) = omega (arith, c.row_name_behind-name.ensures, blocks) in
    let next : 1 + length m.blocks + k + 1 ≡ 1 + length m.blocks + (k + 1) = omega arith in
    let unit : c.at.result.now.unit ≡ (offer_at m k).unit = offer_read m c.reserve-in-loop-place.result.now k c.at.result.now c.reserve-in-loop-place.ensures.reserve c.at.ensures in
    subst (λ (n : ℕ). HasPutIn m c.args.columns.now (take n (worths m)) c.put_row.new.dict) next
    (put_next g.N.Exact.value m c.args.columns.now (1 + length m.blocks + k) (Offer k) (reserve_coefficient (offer_at m k).unit) c.row_name_behind-name.result c.slice.result.now c.loop-place.dict c.put_row.new.dict inside
    (offer_worth m k here) (λ j. refl) named c.loop-place.invariant
    (ap (map g.N.Exact.value) c.slice.ensures ∙ c.in_ok-entries.ensures ∙ ap (λ (u : ℕ). map (reserve_coefficient u) c.args.columns.now) unit) c.in_ok-put_row.ensures)

pub returns : goal.returns
returns g c =
    let m = c.args.market.now in
    let offers : c.len-place-end.result ≡ length m.reserve.offers = c.len-place-end.ensures ∙ ap (λ (r : Reserve). length r.offers) c.reserve.ensures.reserve in
    let all : length (worths m) ≤ 1 + length m.blocks + c.loop-place.place = omega (arith, worths_count m, offers, c.loop-place-test.false) in
    subst (λ (vs : List Variable). HasPutIn m c.args.columns.now vs c.loop-place.dict) (take_all (1 + length m.blocks + c.loop-place.place) (worths m) all) c.loop-place.invariant
