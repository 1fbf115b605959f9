use Rattle.std.proofs.Common.{refl, arith}
use Rattle.market_model.proofs.LostLemmas.{index_more, index_all}
use Rattle.market_model.proofs.outages.outage_index.Goals as goal

pub loop-outage-preserved : goal.loop-outage-preserved
loop-outage-preserved c = record {
  index = index_more c.args.lines c.args.lost.now c.loop-outage.outage _ c.loop-outage.index.items c.loop-outage-test.true refl (c.requires.inside c.loop-outage.outage 0 c.loop-outage-test.true) c.requires.distinct c.loop-outage.invariant.index;
}

pub returns : goal.returns
returns c = index_all c.args.lines c.args.lost.now c.loop-outage.outage c.loop-outage.index.items (omega (arith, c.loop-outage-test.false, c.loop-outage.auto.outage-end)) c.loop-outage.invariant.index
