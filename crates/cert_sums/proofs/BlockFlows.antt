-- What blocks alone decide: injections and what is carried are the same whatever reserve is accepted beside.
use Rattle.std.specs.Prelude.{ℕ, List}
use Rattle.fraction_theory.specs.Fraction.{Fraction}
use Rattle.fraction_theory.specs.Sums.{Term}
use Rattle.exact_fraction.specs.declared.Passed.{Passed}
use Rattle.market_model.specs.declared.participants.Parts.{Parts}
use Rattle.market_model.specs.Dispatch.{dispatch_by, dispatch_with, injection, output}
use Rattle.market_model.specs.PutIn.{AreCarried, AreInjections}
use Rattle.market_model.specs.SumTables.{InjectionSum, IsRefusedAmong, LineFlowSum, LostOutputSum, flow_of_line, injection_at, output_of_lost, CarriedSum, carried_on_line, carried_by_unit}
use Rattle.cert_sums.specs.Refusals.{IsCarriedRefusal}

module _ (m : Parts) (blocks reserve : List Fraction) where
  pub injections_of_blocks : (mws : List Fraction) → AreInjections m (dispatch_by blocks) mws → AreInjections m (dispatch_with blocks reserve) mws
  unfolding injection
  injections_of_blocks mws e = e

  pub injections_by_blocks : (mws : List Fraction) → AreInjections m (dispatch_with blocks reserve) mws → AreInjections m (dispatch_by blocks) mws
  unfolding injection
  injections_by_blocks mws e = e

  pub carried_of_blocks : (mws : List Fraction) → AreCarried m (dispatch_by blocks) mws → AreCarried m (dispatch_with blocks reserve) mws
  unfolding injection output
  carried_of_blocks mws e = e

  injection_sum : (terms : List Term) → InjectionSum m (dispatch_by blocks) terms → InjectionSum m (dispatch_with blocks reserve) terms
  injection_sum terms (injection_at i lt) = injection_at i lt

  line_sum : (terms : List Term) → LineFlowSum m (injection m (dispatch_by blocks)) terms → LineFlowSum m (injection m (dispatch_with blocks reserve)) terms
  unfolding injection
  line_sum terms (flow_of_line l lt) = flow_of_line l lt

  lost_sum : (terms : List Term) → LostOutputSum m (dispatch_by blocks) terms → LostOutputSum m (dispatch_with blocks reserve) terms
  lost_sum terms (output_of_lost k lt) = output_of_lost k lt

  carried_sum : (terms : List Term) → CarriedSum m (dispatch_by blocks) terms → CarriedSum m (dispatch_with blocks reserve) terms
  carried_sum terms (carried_on_line same sum) = carried_on_line terms (line_sum terms sum)
  carried_sum terms (carried_by_unit same sum) = carried_by_unit terms (lost_sum terms sum)

  module _ (bound : ℕ) (p : Passed Fraction) where
    pub injection_refusal : IsRefusedAmong (InjectionSum m (dispatch_by blocks)) bound p → IsRefusedAmong (InjectionSum m (dispatch_with blocks reserve)) bound p
    injection_refusal (terms, sum, why) = (terms, injection_sum terms sum, why)

    pub carried_refusal : IsCarriedRefusal m (dispatch_by blocks) bound p → IsCarriedRefusal m (dispatch_with blocks reserve) bound p
    carried_refusal (terms, sum, why) = (terms, carried_sum terms sum, why)
