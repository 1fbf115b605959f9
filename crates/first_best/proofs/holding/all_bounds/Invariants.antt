use Rattle.std.proofs.Common.{◌++◌, take}
use Rattle.first_best.proofs.HoldLemmas.{AreBoundsOf}
use Rattle.first_best.proofs.holding.all_bounds.Given as goal

abbrev pub invariant-loop-place : goal.invariant-loop-place
invariant-loop-place g l = AreBoundsOf g.N.Exact.value l.dict l.held (take l.place l.dict.columns) l.bounds.items

abbrev pub invariant-loop-place-2 : goal.invariant-loop-place-2
invariant-loop-place-2 g l = AreBoundsOf g.N.Exact.value l.dict l.held (l.dict.columns ++ take l.place l.dict.rows) l.bounds.items
