use Rattle.std.proofs.Common.{◌≤ℤ◌, pos, arith, w64}
use Rattle.std.proofs.lemmas.Int.{ints, to_z-of_z}
use mir.Syntax.{w128}
use mir.Val.{to_z, of_z}
use Rattle.offer_book.specs.Edits.{over_capacity}
use Rattle.offer_book.proofs.CapacityLemmas.{within_room}
use Rattle.offer_book.proofs.edits.edit_quantity.Goals as goal

pub set_quantity-requires-clause-room : goal.set_quantity-requires-clause-room
set_quantity-requires-clause-room c =
    let over = to_z-of_z w128 c.over_capacity-over.result (record { sfits = c.over_capacity-over.type_inv }) in
    let test = rw (over, c.over_capacity-over.ensures) at c.if-over-gt0.false in
    let none : over_capacity c.args.market.now c.in-Some.place (to_z w64 (of_z w64 c.args.mw)) ≤ℤ pos 0 = omega (arith, ints, test) in
    within_room c.args.market.now c.in-Some.place (to_z w64 (of_z w64 c.args.mw)) none
