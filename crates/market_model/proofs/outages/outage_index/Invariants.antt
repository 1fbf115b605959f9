use Rattle.market_model.proofs.LostLemmas.{IndexTo}
use Rattle.market_model.proofs.outages.outage_index.Given as goal

abbrev pub invariant-loop-outage : goal.invariant-loop-outage
invariant-loop-outage l = record { index : IndexTo l.lines l.lost l.outage l.index.items }
