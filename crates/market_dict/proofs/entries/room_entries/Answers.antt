use Rattle.std.proofs.Common.{◌≡◌, ◌-◌, ◌+◌, ◌∙◌, ◌++◌, List, arith, ap, ap₂, map, length, replicate}
use Rattle.fraction_theory.specs.Fraction.{Fraction}
use Rattle.market_model.specs.declared.participants.Reserve.{Reserve}
use Rattle.market_system.specs.MarketSystem.{block_columns, excess_columns, room_coefficient, offer_columns}
use Rattle.market_dict.specs.Takings.{limits_of}
use Rattle.market_dict.proofs.ColumnLists.{room_entries}
use Rattle.market_dict.proofs.TakingLists.{put_columns_count}
use Rattle.market_dict.proofs.entries.room_entries.Goals as goal

pub returns : goal.returns
returns g c = λ ts count.
    let m = c.args.market.now in
    let value = g.N.Exact.value in
    let of = room_coefficient m c.args.unit in
    let k = c.args.columns - (c.len.result + c.len-2.result) in
    let blocks : c.len.result ≡ length m.blocks = c.len.ensures ∙ ap length c.blocks-2.ensures.list in
    let offers : c.len-2.result ≡ length m.reserve.offers = c.len-2.ensures ∙ ap (λ (r : Reserve). length r.offers) c.reserve.ensures.reserve in
    let others : k ≡ length (excess_columns m (limits_of ts)) = omega (arith, count, blocks, offers, put_columns_count m ts) in
    room_entries m ts c.args.unit (map value c.push_alike.new.entries) k others
    (c.in_ok-push_alike.ensures
    ∙ ap₂ (λ (xs ys : List Fraction). xs ++ ys)
    (c.in_ok-push_offer_uses.ensures
    ∙ ap (λ (xs : List Fraction). xs ++ map of (offer_columns m)) (c.in_ok-push_block_uses.ensures ∙ ap (λ (xs : List g.row.N.Denot). map value xs ++ map of (block_columns m)) c.new-entries.ensures))
    (ap (λ (x : Fraction). replicate k x) c.datum.ensures))
