use Rattle.std.proofs.Common.{rules, ◌≡◌, w64}
use mir.Val.{to_z, of_z}
use Rattle.std.proofs.lemmas.Int.{to_z-of_z}
use Rattle.market_data.proofs.Data.{datum_fits}
use Rattle.offer_book.specs.OfferTable.{block_after}
use Rattle.offer_book.proofs.offer_table.next_block.Goals as goal

pub returns-clause-is : goal.returns-clause-is
unfolding block_after
returns-clause-is c =
    let quantity : to_z w64 (of_z w64 c.args.offer.quantity) ≡ c.args.offer.quantity = to_z-of_z w64 c.args.offer.quantity (datum_fits c.args.offer.quantity c.requires.offer.quantity) in
    let price : to_z w64 (of_z w64 c.args.offer.price) ≡ c.args.offer.price = to_z-of_z w64 c.args.offer.price (datum_fits c.args.offer.price c.requires.offer.price) in
    rw (quantity, price) (search rules)
