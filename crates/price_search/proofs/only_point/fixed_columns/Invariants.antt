use Rattle.price_search.specs.OnlyPoint.{AreFixed}
use Rattle.price_search.proofs.only_point.fixed_columns.Given as goal

abbrev pub invariant-loop-place : goal.invariant-loop-place
invariant-loop-place g l = AreFixed g.N.Exact.value l.bounds l.place l.fixed
