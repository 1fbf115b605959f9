use Rattle.price_search.specs.OnlyPoint.{AreMarginal}
use Rattle.price_search.specs.PriceBounds.{dispatch_at}
use Rattle.price_search.proofs.only_point.marginal_blocks.Given as goal

abbrev pub invariant-loop-place : goal.invariant-loop-place
invariant-loop-place g l = AreMarginal l.market (dispatch_at g.N.Exact.value l.point) l.place l.marks
