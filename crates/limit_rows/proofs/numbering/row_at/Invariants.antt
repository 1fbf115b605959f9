use Rattle.std.proofs.Common.{◌≤◌}
use Rattle.limit_rows.proofs.CountLemmas.{StandBehind}
use Rattle.limit_rows.proofs.numbering.row_at.Given as goal

abbrev pub invariant-loop-cause : goal.invariant-loop-cause
invariant-loop-cause l = StandBehind l.market l.cause l.before × (l.before ≤ l.fn.place)
