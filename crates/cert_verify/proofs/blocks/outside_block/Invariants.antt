use Rattle.std.proofs.Common.{◌≡◌, List, None, map}
use Rattle.std.specs.List.{find}
use Rattle.fraction_theory.specs.Fraction.{Fraction}
use Rattle.market_model.specs.Dispatch.{dispatch_with, places}
use Rattle.cert_verify.specs.Reasons.{is_beyond}
use Rattle.cert_verify.proofs.blocks.outside_block.Given as goal

abbrev pub invariant-loop-at : goal.invariant-loop-at
invariant-loop-at g l = (reserve : List Fraction) → find (is_beyond l.market (dispatch_with (map g.N.Exact.value l.blocks) reserve)) (places l.at) ≡ None
