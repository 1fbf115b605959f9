use Rattle.std.specs.Prelude.{Contains}
use Rattle.limit_rows.specs.Walk.{rows_from}
use Rattle.limit_rows.proofs.CountLemmas.{StandBehind}
use Rattle.limit_rows.proofs.numbering.place_of.Given as goal

abbrev pub invariant-loop-place : goal.invariant-loop-place
invariant-loop-place l = StandBehind l.market l.place l.before × Contains (rows_from l.market l.place 0) l.row
