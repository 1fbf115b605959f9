use Rattle.std.proofs.Common.{rules, ◌∙◌, sym, pos}
use Rattle.market_model.specs.declared.participants.Side.TheVariants.{Sell}
use Rattle.offer_book.proofs.StairLemmas.{ends_of-none, ends_of-more}
use Rattle.offer_book.proofs.offer_table.stair_of.Goals as goal

pub loop-block-init : goal.loop-block-init
loop-block-init c = record { bound = search rules; is = search (rules, ends_of-none) }

pub loop-block-preserved : goal.loop-block-preserved
loop-block-preserved c =
    let given = rw (c.is_of.ensures, c.loop-block.invariant.is) at c.stair_with-stair.ensures.is in
    record {
      bound = search rules;
      is = given ∙ sym (ends_of-more c.args.unit c.args.side c.args.blocks.now c.loop-block.block-index (record { unit = 0; side = Sell; quantity = pos 0; price = pos 0 }) c.loop-block-test.true);
    }
