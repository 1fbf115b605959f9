use Rattle.std.proofs.Common.{◌≡◌, ◌-◌, length}
use Rattle.market_model.specs.LimitRows.{causes}
use Rattle.limit_rows.specs.Walk.{rows_from}
use Rattle.limit_rows.proofs.walk.RowWalkIterator.next.Given as goal

abbrev pub invariant-loop-self : goal.invariant-loop-self
invariant-loop-self l = l.fn.self ≡ rows_from l.self-inside.market.now l.self-inside.place l.self-inside.line

abbrev pub decreases-loop-self : goal.decreases-loop-self
decreases-loop-self l = length (causes l.self-inside.market.now) - l.self-inside.place
