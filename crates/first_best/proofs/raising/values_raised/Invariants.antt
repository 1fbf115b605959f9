use Rattle.std.proofs.Common.{map, slice_index, take}
use Rattle.first_best.specs.Raising.{AreRaised}
use Rattle.first_best.proofs.raising.values_raised.Given as goal

abbrev pub invariant-loop-row : goal.invariant-loop-row
invariant-loop-row g l =
    AreRaised l.dict (slice_index l.dict.others l.column) (g.N.Exact.value l.by) (take l.row l.dict.basics) (map g.N.Exact.value l.values.items)
