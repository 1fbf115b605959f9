use Rattle.std.proofs.Common.{◌≡◌, ◌++◌, map, flat_map}
use Rattle.market_model.specs.Dispatch.{places}
use Rattle.case_maker.specs.Rings.{factor_by, ring_loss}
use Rattle.case_maker.proofs.FactorLemmas.{row}
use Rattle.case_maker.proofs.factors.loss_factors.Given as goal

abbrev pub invariant-loop-line : goal.invariant-loop-line
invariant-loop-line l = l.factors ≡ flat_map (row ring_loss l.size) (places l.line)

abbrev pub invariant-loop-of : goal.invariant-loop-of
invariant-loop-of l = l.factors ≡ flat_map (row ring_loss l.size) (places l.line) ++ map (factor_by ring_loss l.line) (places l.of)
