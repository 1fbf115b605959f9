use Rattle.std.proofs.Common.{rules, ◌≡◌, ◌∙◌, Some, sym, slice_get, w64}
use Rattle.std.proofs.lemmas.Option.{get_or_from_slice_get}
use mir.Syntax.{w128}
use mir.Val.{to_z, of_z}
use Rattle.std.proofs.lemmas.Int.{to_z-of_z}
use Rattle.market_model.specs.Dispatch.{unit_at, block_at}
use Rattle.market_model.specs.Stairs.{stair_in, offered}
use Rattle.offer_book.proofs.CapacityLemmas.{over_capacity-is}
use Rattle.offer_book.proofs.edits.over_capacity.Goals as goal

pub returns : goal.returns
returns c =
    let m = c.args.market.now in
    let list : slice_get m.blocks c.args.place ≡ Some c.at-block.result.now = rw c.blocks-2.ensures.list at c.at-block.ensures in
    let block : c.at-block.result.now ≡ block_at m c.args.place = sym (get_or_from_slice_get m.blocks c.args.place c.at-block.result.now _ list) in
    let units : slice_get m.units c.at-block.result.now.unit ≡ Some c.at-unit.result.now = rw c.units.ensures.list at c.at-unit.ensures in
    let unit : c.at-unit.result.now ≡ unit_at m c.at-block.result.now.unit = sym (get_or_from_slice_get m.units c.at-block.result.now.unit c.at-unit.result.now _ units) in
    let sum : c.stair_of-stair.result.sum ≡ offered (stair_in c.at-block.result.now.unit c.at-block.result.now.side m.blocks) = search rules in
    let is = over_capacity-is m c.args.place c.args.mw c.stair_of-stair.result.sum c.room.result c.at-block.result.now c.at-unit.result.now c.requires block unit sum c.room.ensures in
    let known : to_z w128 (of_z w128 c.over_capacity_with.result) ≡ c.over_capacity_with.result = to_z-of_z w128 c.over_capacity_with.result (record { sfits = c.over_capacity_with.type_inv }) in
    let total : to_z w128 (of_z w128 c.stair_of-stair.result.sum) ≡ c.stair_of-stair.result.sum = search rules in
    let quantity : to_z w64 (of_z w64 c.at-block.result.now.quantity) ≡ c.at-block.result.now.quantity = search rules in
    let mw : to_z w64 (of_z w64 c.args.mw) ≡ c.args.mw = to_z-of_z w64 c.args.mw c.ranges.mw in
    let room : to_z w64 (of_z w64 c.room.result) ≡ c.room.result = to_z-of_z w64 c.room.result (record { sfits = c.room.type_inv }) in
    known ∙ rw (total, quantity, mw, room) at c.over_capacity_with.ensures ∙ is
