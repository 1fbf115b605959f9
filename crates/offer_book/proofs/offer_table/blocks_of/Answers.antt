use Rattle.std.proofs.Common.{rules, arith, ◌≡◌, ◌<◌, ◌≤◌, ◌+◌, ◌∙◌, sym, ap, Ok, Err, [], length, get_or}
use Rattle.market_model.specs.Market.{IsBlock}
use Rattle.offer_book.specs.OfferTable.{block_in}
use Rattle.record_reading.proofs.GatherLemmas.{gather-end, gather-fault, gather-step, All-listed, length-listed}
use Rattle.offer_book.proofs.offer_table.blocks_of.Goals as goal

pub returns-in_err-block-clause-is : goal.returns-in_err-block-clause-is
returns-in_err-block-clause-is c =
    let lt : c.loop-place.place < length c.args.table.now = omega arith in
    let fails : block_in c.args.units.now c.loop-place.blocks (c.loop-place.place + 2) (get_or c.args.table.now c.loop-place.place []) ≡ Err c.in_err-block.field-0.0 =
    rw c.slice.ensures at (sym c.record_block.ensures.is ∙ c.in_err-block.was) in
    let here = c.loop-place.invariant.is ∙ gather-fault (block_in c.args.units.now) c.loop-place.blocks (c.loop-place.place + 2) c.args.table.now c.loop-place.place c.in_err-block.field-0.0 lt fails in
    let given : c.from_residual.result ≡ Err c.in_err-block.field-0.0 = search rules in
    λ _. given ∙ sym here

pub loop-place-preserved : goal.loop-place-preserved
loop-place-preserved c =
    let lt : c.loop-place.place < length c.args.table.now = omega arith in
    let reads : block_in c.args.units.now c.loop-place.blocks (c.loop-place.place + 2) (get_or c.args.table.now c.loop-place.place []) ≡ Ok c.in_ok-block.block =
    rw c.slice.ensures at (sym c.record_block.ensures.is ∙ c.in_ok-block.was) in
    let here = c.loop-place.invariant.is ∙ gather-step (block_in c.args.units.now) c.loop-place.blocks (c.loop-place.place + 2) c.args.table.now c.loop-place.place c.in_ok-block.block lt reads in
    let next : c.loop-place.place + 2 + 1 ≡ c.loop-place.place + 1 + 2 = omega arith in
    let more = All-listed (IsBlock (length c.args.units.now.units)) c.loop-place.blocks c.in_ok-block.block c.loop-place.invariant.blocks c.in_ok-block.ensures.block in
    let added = c.in_ok-push_some.ensures in
    record {
      count = omega (arith, ap length added, length-listed c.loop-place.blocks c.in_ok-block.block);
      blocks = rw added more;
      is = rw (added, ← next) here;
    }

pub returns-clause-is : goal.returns-clause-is
returns-clause-is c =
    let le : length c.args.table.now ≤ c.loop-place.place = omega arith in
    λ _. sym (c.loop-place.invariant.is ∙ gather-end (block_in c.args.units.now) c.loop-place.blocks (c.loop-place.place + 2) c.args.table.now c.loop-place.place le)
