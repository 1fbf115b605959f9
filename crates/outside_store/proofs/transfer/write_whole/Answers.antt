use Rattle.outside_store.proofs.TransferLemmas.{took_more, took_prefix, took_no_more}
use Rattle.outside_store.proofs.transfer.write_whole.Goals as goal

pub loop-rest-preserved : goal.loop-rest-preserved
loop-rest-preserved g c = let i = c.loop-rest.invariant in took_more _ _ _ _ i.0 c.loop-rest.rest.now c.in-Ok.count i.1 c.in-Ok.ensures.bytes i.2

pub returns-in_default-clause-cut : goal.returns-in_default-clause-cut
returns-in_default-clause-cut g c _ = let i = c.loop-rest.invariant in took_prefix _ _ _ _ i.0 c.loop-rest.rest.now c.in-Ok.count i.1 c.in-Ok.ensures.bytes i.2

pub returns-in_default-2-clause-cut : goal.returns-in_default-2-clause-cut
returns-in_default-2-clause-cut g c _ = let i = c.loop-rest.invariant in took_no_more _ _ _ _ i.0 c.loop-rest.rest.now i.1 c.in_default.ensures.bytes i.2
