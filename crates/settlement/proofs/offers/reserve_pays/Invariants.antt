use Rattle.std.proofs.Common.{◌≡◌, List, map}
use Rattle.fraction_theory.specs.Fraction.{Fraction}
use Rattle.market_model.specs.declared.answered.Duals.{Duals}
use Rattle.market_model.specs.Dispatch.{places, dispatch_with}
use Rattle.market_model.specs.Settlement.{pay_of_reserve}
use Rattle.market_model.specs.Valued.{reserve_pay_at}
use Rattle.settlement.proofs.offers.reserve_pays.Given as goal

abbrev pub invariant-loop-mw : goal.invariant-loop-mw
invariant-loop-mw g l =
    (blocks : List Fraction) (d : Duals Fraction) → g.N.Exact.value l.price ≡ d.reserve
    → map (reserve_pay_at g.N.Exact.value) l.pays ≡ map (pay_of_reserve (dispatch_with blocks (map g.N.Exact.value l.reserve)) d) (places l.mw-index)
