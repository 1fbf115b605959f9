use Rattle.std.proofs.Common.{◌≡◌}
use Rattle.market_model.specs.Valued.{duals_at}
use Rattle.clear_loop.proofs.FarkasSums.{rooms_to}
use Rattle.clear_loop.proofs.bounding_reserve.with_rooms.Given as goal

abbrev pub invariant-loop-unit : goal.invariant-loop-unit
invariant-loop-unit g l = g.N.Exact.value l.sum ≡ rooms_to l.market (duals_at g.N.Exact.value l.duals) l.unit
