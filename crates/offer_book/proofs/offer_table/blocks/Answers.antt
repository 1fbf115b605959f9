use Rattle.std.proofs.Common.{rules, ◌≡◌, ◌≢◌, ◌∙◌, refl, sym, Some, Ok, Err, Result, IfOk, All, List, []}
use Rattle.market_model.specs.declared.participants.Block.{Block}
use Rattle.market_model.specs.Market.{HaveRoom}
use Rattle.market_data.specs.Scales.{most_blocks}
use Rattle.record_reading.specs.Gathering.{gather}
use Rattle.offer_book.specs.declared.offer_table.OfferFault.{OfferFault}
use Rattle.offer_book.specs.declared.offer_table.OfferFault.TheVariants as fault
use Rattle.offer_book.specs.Offers.{HasSides}
use Rattle.offer_book.specs.OfferTable.{block_in, blocks_of_table, offer_header}
use Rattle.csv_table.proofs.Framed.{framed-fault, framed-fits}
use Rattle.offer_book.proofs.RoomLemmas.{room-records, room-none}
use Rattle.offer_book.proofs.offer_table.blocks.Goals as goal

pub returns-in_err-table-clause-is : goal.returns-in_err-table-clause-is
unfolding blocks_of_table
returns-in_err-table-clause-is c =
    let given : c.from_residual-in_err-table.result ≡ Err (fault.Frame c.in_err-table.field-0.0) = search rules in
    λ _. given ∙ sym (framed-fault fault.Frame (gather (block_in c.args.units.now) [] 2) (Some most_blocks) c.args.bytes.now offer_header _ c.in_err-table.field-0.0 refl (sym c.in_err-table.was ∙ c.in_ok-read_table.ensures.is))

pub returns-clause-is : goal.returns-clause-is
unfolding blocks_of_table
returns-clause-is c =
    λ other. c.blocks_of.ensures.is other ∙ sym (framed-fits fault.Frame (gather (block_in c.args.units.now) [] 2) (Some most_blocks) c.args.bytes.now offer_header _ _ refl (sym c.in_ok-table.was ∙ c.in_ok-read_table.ensures.is))

pub returns-clause-room : goal.returns-clause-room
returns-clause-room c = λ sides. by c.blocks_of.result (λ fine. c.blocks_of.ensures.is fine) sides
  where
    by : (r : Result (List Block) OfferFault) → (r ≢ Err fault.Memory → r ≡ gather (block_in c.args.units.now) [] 2 c.in_ok-table.table) → All HasSides c.args.units.now.units → IfOk r (HaveRoom c.args.units.now.units)
    by (Ok all) is sides = room-records c.args.units.now [] 2 c.in_ok-table.table all (sym (is (λ m. cc m))) (room-none c.args.units.now.units sides)
    by (Err f) is sides = tt
