use Rattle.std.proofs.Common.{◌≡◌, map, take}
use Rattle.linear_dict.specs.Dictionaries.{note_of}
use Rattle.market_dict.proofs.reading.reduced.Given as goal

abbrev pub invariant-loop-rank : goal.invariant-loop-rank
invariant-loop-rank g l = map g.N.Exact.value l.prices ≡ map (λ w. (note_of l.dict w).reduced) (take l.rank l.dict.names)
