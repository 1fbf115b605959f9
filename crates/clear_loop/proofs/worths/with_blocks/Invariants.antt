use Rattle.std.proofs.Common.{◌≡◌}
use Rattle.market_model.specs.Valued.{duals_at}
use Rattle.clear_loop.proofs.FarkasSums.{blocks_to}
use Rattle.clear_loop.proofs.worths.with_blocks.Given as goal

abbrev pub invariant-loop-at : goal.invariant-loop-at
invariant-loop-at g l = g.N.Exact.value l.sum ≡ blocks_to l.market (duals_at g.N.Exact.value l.duals) l.at
