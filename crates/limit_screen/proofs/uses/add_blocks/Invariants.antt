use Rattle.std.proofs.Common.{[], length}
use Rattle.std.specs.Prelude.{◌==◌}
use Rattle.fraction_theory.specs.Sums.{total}
use Rattle.market_model.specs.Dispatch.{block_at, raised_by}
use Rattle.market_model.specs.PutIn.{dispatch_of}
use Rattle.market_model.specs.Reserves.{offers_reserve}
use Rattle.market_model.proofs.RoomLemmas.{counted_to}
use Rattle.limit_screen.specs.Rooms.{HaveSums}
use Rattle.limit_screen.proofs.uses.add_blocks.Given as goal

abbrev pub invariant-loop-at : goal.invariant-loop-at
invariant-loop-at g l =
    HaveSums g.N.Exact.value (offers_reserve l.market) (λ unit. total (counted_to [] (λ j. (block_at l.market j).unit == unit) (raised_by l.market (dispatch_of g.N.Exact.value l.dispatch)) l.at)) (length l.market.units) l.used
