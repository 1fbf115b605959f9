use Rattle.std.proofs.Common.{◌≡◌}
use Rattle.fraction_theory.specs.Sums.{total}
use Rattle.market_model.proofs.PutInSteps.{fixed_to}
use Rattle.market_model.proofs.putting.fixed_at.Given as goal

abbrev pub invariant-loop-at : goal.invariant-loop-at
invariant-loop-at g l = g.N.Exact.value l.mw ≡ total (fixed_to l.market l.bus l.at)
