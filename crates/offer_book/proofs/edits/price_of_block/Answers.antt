use Rattle.std.proofs.Common.{rules, ◌≡◌, ◌∙◌, ℕ, Some, ap, sym, slice_get, w64}
use Rattle.std.specs.Prelude.{option_map}
use Rattle.std.proofs.lemmas.Int.{to_z-of_z}
use Rattle.std.proofs.lemmas.Option.{get_or_from_slice_get}
use mir.Val.{to_z, of_z}
use Rattle.market_model.specs.declared.participants.Block.{Block}
use Rattle.market_model.specs.Dispatch.{block_at}
use Rattle.offer_book.specs.Edits.{place_of_block}
use Rattle.offer_book.proofs.edits.price_of_block.Goals as goal

pub returns-in-Some : goal.returns-in-Some
returns-in-Some c =
    let m = c.args.market.now in
    let row : to_z w64 (of_z w64 c.args.row) ≡ c.args.row = to_z-of_z w64 c.args.row c.ranges.row in
    let number : to_z w64 (of_z w64 c.args.number) ≡ c.args.number = to_z-of_z w64 c.args.number c.ranges.number in
    let at : place_of_block m c.args.row c.args.side c.args.number ≡ Some c.in-Some.place = sym (rw (row, number) at c.place_of_block.ensures.is) ∙ c.in-Some.is in
    let list : slice_get m.blocks c.in-Some.place ≡ Some c.at.result.now = rw c.blocks-in-Some.ensures.list at c.at.ensures in
    let block : c.at.result.now ≡ block_at m c.in-Some.place = sym (get_or_from_slice_get m.blocks c.in-Some.place c.at.result.now _ list) in
    let known : to_z w64 (of_z w64 c.at.result.now.price) ≡ c.at.result.now.price = search rules in
    ap Some (known ∙ ap (λ (b : Block). b.price) block) ∙ sym (ap (option_map (λ j. (block_at m j).price)) at)
