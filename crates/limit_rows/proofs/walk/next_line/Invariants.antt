use Rattle.std.proofs.Common.{◌≡◌}
use Rattle.std.specs.Prelude.{filter}
use Rattle.market_model.specs.LimitRows.{bears}
use Rattle.limit_rows.specs.Walk.{lines_from}
use Rattle.limit_rows.proofs.walk.next_line.Given as goal

abbrev pub invariant-loop-line : goal.invariant-loop-line
invariant-loop-line l = filter (bears l.market l.cause) (lines_from l.market l.from) ≡ filter (bears l.market l.cause) (lines_from l.market l.line)
