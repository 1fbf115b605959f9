use Rattle.std.proofs.Common.{◌≡◌, ◌∙◌, refl, w64}
use Rattle.std.proofs.lemmas.Int.{to_z-of_z}
use mir.Syntax.{w128}
use mir.Val.{to_z, of_z}
use Rattle.std.specs.Prelude.{◌+ℤ◌, ◌-ℤ◌}
use Rattle.offer_book.proofs.CapacityLemmas.{without_fits, replaced_fits, excess_fits}
use Rattle.offer_book.proofs.edits.over_capacity_with.Goals as goal

pub overflow_sub-result-2 : goal.overflow_sub-result-2
overflow_sub-result-2 c =
    let sum : to_z w128 (of_z w128 c.args.sum) ≡ c.args.sum = to_z-of_z w128 c.args.sum c.ranges.sum in
    let old : to_z w128 (of_z w128 c.from.result) ≡ c.args.old = to_z-of_z w128 c.from.result (record { sfits = c.from.type_inv }) ∙ c.from.ensures ∙ to_z-of_z w64 c.args.old c.ranges.old in
    let new : to_z w128 (of_z w128 c.from-2.result) ≡ c.args.new = to_z-of_z w128 c.from-2.result (record { sfits = c.from-2.type_inv }) ∙ c.from-2.ensures ∙ to_z-of_z w64 c.args.new c.ranges.new in
    let room : to_z w128 (of_z w128 c.from-3.result) ≡ c.args.room = to_z-of_z w128 c.from-3.result (record { sfits = c.from-3.type_inv }) ∙ c.from-3.ensures ∙ to_z-of_z w64 c.args.room c.ranges.room in
    let one = to_z-of_z w128 (c.args.sum -ℤ c.args.old) (without_fits c.args.sum c.args.old c.args.new c.args.room c.requires c.ranges.old c.ranges.new c.ranges.room) in
    let two = to_z-of_z w128 ((c.args.sum -ℤ c.args.old) +ℤ c.args.new) (replaced_fits c.args.sum c.args.old c.args.new c.args.room c.requires c.ranges.old c.ranges.new c.ranges.room) in
    rw (sum, old, one, new, two, room) (excess_fits c.args.sum c.args.old c.args.new c.args.room c.requires c.ranges.old c.ranges.new c.ranges.room)

pub returns : goal.returns
returns c =
    let sum : to_z w128 (of_z w128 c.args.sum) ≡ c.args.sum = to_z-of_z w128 c.args.sum c.ranges.sum in
    let old : to_z w128 (of_z w128 c.from.result) ≡ c.args.old = to_z-of_z w128 c.from.result (record { sfits = c.from.type_inv }) ∙ c.from.ensures ∙ to_z-of_z w64 c.args.old c.ranges.old in
    let new : to_z w128 (of_z w128 c.from-2.result) ≡ c.args.new = to_z-of_z w128 c.from-2.result (record { sfits = c.from-2.type_inv }) ∙ c.from-2.ensures ∙ to_z-of_z w64 c.args.new c.ranges.new in
    let room : to_z w128 (of_z w128 c.from-3.result) ≡ c.args.room = to_z-of_z w128 c.from-3.result (record { sfits = c.from-3.type_inv }) ∙ c.from-3.ensures ∙ to_z-of_z w64 c.args.room c.ranges.room in
    let one = to_z-of_z w128 (c.args.sum -ℤ c.args.old) (without_fits c.args.sum c.args.old c.args.new c.args.room c.requires c.ranges.old c.ranges.new c.ranges.room) in
    let two = to_z-of_z w128 ((c.args.sum -ℤ c.args.old) +ℤ c.args.new) (replaced_fits c.args.sum c.args.old c.args.new c.args.room c.requires c.ranges.old c.ranges.new c.ranges.room) in
    let three = to_z-of_z w128 (((c.args.sum -ℤ c.args.old) +ℤ c.args.new) -ℤ c.args.room) (excess_fits c.args.sum c.args.old c.args.new c.args.room c.requires c.ranges.old c.ranges.new c.ranges.room) in
    rw (sum, old, one, new, two, room, three) refl
