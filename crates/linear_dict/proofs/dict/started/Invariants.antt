use Rattle.std.proofs.Common.{◌≡◌, map, take}
use Rattle.linear_dict.specs.Indexes.{IsStartedIndex, name_of}
use Rattle.linear_dict.proofs.dict.started.Given as goal

abbrev pub invariant-loop-c : goal.invariant-loop-c
invariant-loop-c g l = IsStartedIndex g.N.Exact.value l.variables.items l.row (take l.c l.columns) × (l.names.items ≡ map name_of l.variables.items)
