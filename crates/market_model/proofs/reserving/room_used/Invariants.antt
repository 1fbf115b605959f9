use Rattle.std.proofs.Common.{◌≡◌, map}
use Rattle.std.specs.Prelude.{◌==◌}
use Rattle.fraction_theory.specs.Sums.{total}
use Rattle.market_model.specs.Dispatch.{block_term, blocks_of, dispatch_with, offer_at, reserved}
use Rattle.market_model.proofs.RoomLemmas.{counted_to}
use Rattle.market_model.proofs.reserving.room_used.Given as goal

abbrev pub invariant-loop-at : goal.invariant-loop-at
invariant-loop-at g l =
    let x = dispatch_with (map g.N.Exact.value l.dispatch) (map g.N.Exact.value l.reserve) in
    g.N.Exact.value l.mw ≡ total (counted_to (map (block_term l.market x) (blocks_of l.market l.unit)) (λ n. (offer_at l.market n).unit == l.unit) (reserved x) l.at)
