use Rattle.std.proofs.Common.{List, length, map}
use Rattle.std.specs.Prelude.{◌==◌}
use Rattle.fraction_theory.specs.Fraction.{Fraction}
use Rattle.fraction_theory.specs.Sums.{total}
use Rattle.market_model.specs.Dispatch.{block_term, blocks_of, dispatch_with, offer_at, reserved}
use Rattle.market_model.specs.Reserves.{offers_reserve}
use Rattle.market_model.proofs.RoomLemmas.{counted_to}
use Rattle.limit_screen.specs.Rooms.{HaveSums}
use Rattle.limit_screen.proofs.uses.add_reserve.Given as goal

abbrev pub invariant-loop-at : goal.invariant-loop-at
invariant-loop-at g l =
    (blocks : List Fraction) → let x = dispatch_with blocks (map g.N.Exact.value l.reserve) in
    HaveSums g.N.Exact.value (offers_reserve l.market) (λ unit. total (map (block_term l.market x) (blocks_of l.market unit))) (length l.market.units) l.initial.used
    → HaveSums g.N.Exact.value (offers_reserve l.market) (λ unit. total (counted_to (map (block_term l.market x) (blocks_of l.market unit)) (λ n. (offer_at l.market n).unit == unit) (reserved x) l.at)) (length l.market.units) l.used
