use Rattle.market_model.specs.declared.answered.Duals.{Duals}
use Rattle.market_model.specs.Dispatch.{Dispatch}
use Rattle.fraction_theory.specs.Fraction.{Fraction}
use Rattle.price_search.specs.Energy.{AreAccepted, IsNearest, ShowsWorths}
use Rattle.price_search.proofs.energy.nearest.Given as goal

abbrev pub invariant-loop-place : goal.invariant-loop-place
invariant-loop-place g l = (x : Dispatch) (d : Duals Fraction) → AreAccepted g.N.Exact.value l.market l.accepted x → ShowsWorths l.market d l.dict → IsNearest g.N.Exact.value l.hold l.market x d l.place l.nearest
