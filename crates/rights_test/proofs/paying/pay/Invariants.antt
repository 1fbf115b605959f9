use Rattle.std.proofs.Common.{map}
use Rattle.market_model.specs.Valued.{total_at}
use Rattle.rights_test.proofs.PaySteps.{ArePaid}
use Rattle.rights_test.proofs.paying.pay.Given as goal

abbrev pub invariant-loop-right : goal.invariant-loop-right
invariant-loop-right g l = ArePaid (total_at g.N.Exact.value l.prices) l.rights l.right-index (map g.N.Exact.value l.each) (g.N.Exact.value l.total)
