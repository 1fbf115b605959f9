use Rattle.std.proofs.Common.{map}
use Rattle.limit_screen.specs.Flows.{carried_at}
use Rattle.limit_screen.proofs.LookLemmas.{AreLooked}
use Rattle.limit_screen.proofs.looking.look_at_rows.Given as goal

abbrev pub invariant-loop-row : goal.invariant-loop-row
invariant-loop-row g l = AreLooked g.N.Exact.value l.market l.taken (carried_at l.market (map g.N.Exact.value l.flows)) l.yielded l.worst l.reached.items
