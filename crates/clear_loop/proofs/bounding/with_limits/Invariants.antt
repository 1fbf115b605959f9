use Rattle.std.proofs.Common.{◌≡◌}
use Rattle.market_model.specs.Valued.{duals_at}
use Rattle.clear_loop.proofs.FarkasSums.{limits_to}
use Rattle.clear_loop.proofs.bounding.with_limits.Given as goal

abbrev pub invariant-loop-dual : goal.invariant-loop-dual
invariant-loop-dual g l = g.N.Exact.value l.sum ≡ limits_to l.market (duals_at g.N.Exact.value l.duals) l.dual-index
