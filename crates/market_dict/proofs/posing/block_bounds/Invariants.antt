use Rattle.std.proofs.Common.{◌≡◌, map}
use Rattle.market_model.specs.Dispatch.{places, quantity, zero}
use Rattle.simplex_core.specs.declared.bounds.Bounds.{Bounds}
use Rattle.market_dict.proofs.posing.block_bounds.Given as goal

abbrev pub invariant-loop-block : goal.invariant-loop-block
invariant-loop-block g l = record {
  lows : map (λ (b : Bounds g.row.N.Denot). g.N.Exact.value b.low) l.bounds ≡ map (λ j. zero) (places l.block-index);
  highs : map (λ (b : Bounds g.row.N.Denot). g.N.Exact.value b.high) l.bounds ≡ map (quantity l.market) (places l.block-index);
}
