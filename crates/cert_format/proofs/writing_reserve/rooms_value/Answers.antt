use Rattle.std.proofs.Common.{arith, ◌≡◌, ◌<◌, ◌≤◌, ◌^◌, ◌∙◌, ap, subst, length, get_or}
use Rattle.serde_json.specs.Data.{array}
use Rattle.serde_json.specs.View.{items_of, view}
use Rattle.serde_json.proofs.Views.{view-Array}
use Rattle.market_model.specs.Valued.{room_dual_at}
use Rattle.std.proofs.lemmas.List.Elements.{All-more}
use Rattle.cert_format.specs.Written.{room_data}
use Rattle.cert_format.proofs.ListLemmas.{viewed-all, viewed-push, viewed-through}
use Rattle.cert_format.proofs.writing_reserve.rooms_value.Goals as goal

pub loop-dual-preserved : goal.loop-dual-preserved
loop-dual-preserved g c =
    let slice = c.slice-dual-items.ensures in
    let lt : c.loop-dual.dual-index < length c.args.rooms.now = omega (arith, c.loop-dual-test.true, ap length slice) in
    let at = subst (λ xs. c.dual-item.result ≡ get_or xs c.loop-dual.dual-index c.dual-item.result) slice c.dual-item.is in
    let unit : (get_or c.args.rooms.now c.loop-dual.dual-index c.dual-item.result).unit < 2 ^ 32 = rw (← at) c.in_ok-room_value.ensures.unit in
    record {
      values = viewed-push view (λ d. room_data (room_dual_at g.N.Exact.value d)) c.args.rooms.now c.loop-dual.values.items c.loop-dual.dual-index c.dual-item.result c.in_ok-room_value.field-0 c.push.new.self.items lt at
          c.loop-dual.invariant.values c.in_ok-room_value.ensures.value c.in_ok-push.ensures.items;
      units = All-more (λ d. d.unit < 2 ^ 32) c.args.rooms.now c.loop-dual.dual-index c.dual-item.result lt c.loop-dual.invariant.units unit;
    }

pub returns-clause-value : goal.returns-clause-value
returns-clause-value g c =
    let slice = c.slice-dual-items.ensures in
    let le : length c.args.rooms.now ≤ c.loop-dual.dual-index = omega (arith, c.loop-dual-test.false, ap length slice) in
    view-Array c.loop-dual.values ∙ ap (λ ds. array (items_of ds)) (viewed-through view room_data (room_dual_at g.N.Exact.value) c.args.rooms.now c.loop-dual.values.items
    (viewed-all view (λ d. room_data (room_dual_at g.N.Exact.value d)) c.args.rooms.now c.loop-dual.values.items c.loop-dual.dual-index le c.loop-dual.invariant.values))
