use Rattle.std.proofs.Common.{◌≡◌, ◌∷◌, filter, map}
use Rattle.std.specs.Prelude.{◌==◌}
use Rattle.fraction_theory.specs.Sums.{total}
use Rattle.market_model.specs.Dispatch.{places, fixed_term, block_term, block_at}
use Rattle.market_model.specs.PutIn.{dispatch_of}
use Rattle.market_model.proofs.putting.output.Given as goal

abbrev pub invariant-loop-at : goal.invariant-loop-at
invariant-loop-at g l =
    g.N.Exact.value l.mw ≡ total (fixed_term l.market l.unit ∷ map (block_term l.market (dispatch_of g.N.Exact.value l.dispatch)) (filter (λ j. (block_at l.market j).unit == l.unit) (places l.at)))
