use Rattle.std.proofs.Common.{◌≡◌, List, None, map, length}
use Rattle.std.specs.List.{find}
use Rattle.market_model.specs.declared.answered.Duals.{Duals}
use Rattle.fraction_theory.specs.Fraction.{Fraction}
use Rattle.market_model.specs.Dispatch.{dispatch_with, places}
use Rattle.market_model.specs.Optimality.{energy_worth}
use Rattle.cert_verify.specs.Reasons.{is_unsupported}
use Rattle.cert_verify.proofs.blocks.unsupported_block.Given as goal

abbrev pub invariant-loop-at : goal.invariant-loop-at
invariant-loop-at g l =
    (d : Duals Fraction) (reserve : List Fraction) → map g.N.Exact.value l.worths ≡ map (energy_worth l.market d) (places (length l.market.units))
    → find (is_unsupported l.market (dispatch_with (map g.N.Exact.value l.blocks) reserve) d) (places l.at) ≡ None
