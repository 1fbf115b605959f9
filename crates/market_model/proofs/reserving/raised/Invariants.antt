use Rattle.std.proofs.Common.{◌≡◌, []}
use Rattle.std.specs.Prelude.{◌==◌}
use Rattle.fraction_theory.specs.Sums.{total}
use Rattle.market_model.specs.Dispatch.{block_at, raised_by}
use Rattle.market_model.specs.PutIn.{dispatch_of}
use Rattle.market_model.proofs.RoomLemmas.{counted_to}
use Rattle.market_model.proofs.reserving.raised.Given as goal

abbrev pub invariant-loop-at : goal.invariant-loop-at
invariant-loop-at g l = g.N.Exact.value l.mw ≡ total (counted_to [] (λ j. (block_at l.market j).unit == l.unit) (raised_by l.market (dispatch_of g.N.Exact.value l.dispatch)) l.at)
