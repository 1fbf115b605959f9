use Rattle.std.proofs.Common.{◌≡◌, ℕ, List, length, map}
use Rattle.fraction_theory.specs.Fraction.{Fraction}
use Rattle.market_model.specs.declared.answered.Duals.{Duals}
use Rattle.market_model.specs.Dispatch.{places, dispatch_with}
use Rattle.market_model.specs.Optimality.{own_price}
use Rattle.market_model.specs.Valued.{unit_pay_at}
use Rattle.market_model.specs.Settlement.{pay_of_unit}
use Rattle.settlement.proofs.units.unit_pays.Given as goal

abbrev pub invariant-loop-place : goal.invariant-loop-place
invariant-loop-place g l =
    (reserve : List Fraction) (price : ℕ → Fraction) (d : Duals Fraction) → map g.N.Exact.value l.own ≡ map (own_price l.market d price) (places (length l.market.units))
    → map (unit_pay_at g.N.Exact.value) l.pays ≡ map (pay_of_unit l.market (dispatch_with (map g.N.Exact.value l.dispatch) reserve) price d) (places l.place)
