use Rattle.std.proofs.Common.{◌≡◌, ◌++◌, List, map, take}
use Rattle.fraction_theory.specs.Sums.{Term, total}
use Rattle.market_model.specs.Valued.{room_dual_at}
use Rattle.price_search.specs.Caps.{room_price_terms}
use Rattle.price_search.proofs.caps.with_rooms.Given as goal

abbrev pub invariant-loop-room : goal.invariant-loop-room
invariant-loop-room g l =
    (front : List Term) → g.N.Exact.value l.fn.of_limits ≡ total front → g.N.Exact.value l.sum ≡ total (front ++ room_price_terms (take l.room-index (map (room_dual_at g.N.Exact.value) l.rooms)))
