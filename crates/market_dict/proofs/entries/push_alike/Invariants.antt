use Rattle.std.proofs.Common.{◌≡◌, ◌++◌, map, replicate}
use Rattle.market_dict.proofs.entries.push_alike.Given as goal

abbrev pub invariant-loop : goal.invariant-loop
invariant-loop g l = map g.N.Exact.value l.entries ≡ map g.N.Exact.value l.initial.entries ++ replicate l.counter (g.N.Exact.value l.entry)
