use Rattle.std.proofs.Common.{◌≡◌, ◌+◌, ◌∙◌, sym, Ok, w64}
use mir.Val.{to_z, of_z}
use Rattle.std.proofs.lemmas.Int.{to_z-of_z}
use Rattle.market_data.proofs.Data.{datum_fits}
use Rattle.offer_book.specs.OfferTable.{block_in, row_in}
use Rattle.offer_book.proofs.offer_table.record_block.Goals as goal

pub returns-clause-is : goal.returns-clause-is
unfolding block_in
returns-clause-is c =
    let offer = sym c.offer_of.ensures.is ∙ c.in_ok-offer.was in
    let unit : to_z w64 (of_z w64 c.in_ok-offer.offer.unit) ≡ c.in_ok-offer.offer.unit =
    to_z-of_z w64 c.in_ok-offer.offer.unit (datum_fits c.in_ok-offer.offer.unit c.in_ok-offer.ensures.read.unit) in
    let row : row_in c.args.units.now.rows (c.args.place + 2) c.in_ok-offer.offer.unit ≡ Ok c.in_ok-gen_row.gen_row = rw unit at (sym c.gen_row.ensures ∙ c.in_ok-gen_row.was) in
    rw (offer, row, ← c.slice-live.ensures, ← c.place_of.ensures.is) c.live_block.ensures.is
