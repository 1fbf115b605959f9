use Rattle.limit_rows.proofs.CountLemmas.{StandBehind}
use Rattle.limit_rows.proofs.numbering.count.Given as goal

abbrev pub invariant-loop-place : goal.invariant-loop-place
invariant-loop-place l = StandBehind l.market l.place l.rows
