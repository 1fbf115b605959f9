-- What blocks alone decide: outputs and flows are the same whatever reserve is accepted beside.
use Rattle.std.specs.Prelude.{◌≡◌, ◌⊎◌, ℕ, ◌<◌, List, length, refl}
use Rattle.std.proofs.Common.{inl, inr, subst}
use Rattle.fraction_theory.specs.Fraction.{Fraction}
use Rattle.fraction_theory.specs.Sums.{Term}
use Rattle.exact_fraction.specs.declared.Op.TheVariants.{Times}
use Rattle.exact_fraction.specs.declared.Passed.{Passed}
use Rattle.market_model.specs.declared.answered.Duals.{Duals}
use Rattle.market_model.specs.declared.participants.Parts.{Parts}
use Rattle.market_model.specs.Dispatch.{dispatch_by, dispatch_with, injection, output, output_terms}
use Rattle.market_model.specs.NamedSums.{IsRefusal, IsRefusedIn}
use Rattle.market_model.specs.Optimality.{own_price}
use Rattle.market_model.specs.SumTables.{carried_on_line, carried_by_unit, flow_of_line, injection_at, output_of_lost, NetworkSum, put_in_at_bus, carried_by_network}
use Rattle.limit_screen.specs.Flows.{IsFlowsRefusal, flows_at}
use Rattle.settlement.specs.Refusals.{IsMoneyRefusal}
use Rattle.settlement.proofs.PayLemmas.{unit_refusal}

module _ (m : Parts) (blocks reserve : List Fraction) where
  pub output_of_blocks : (u : ℕ) → output m (dispatch_by blocks) u ≡ output m (dispatch_with blocks reserve) u
  unfolding output
  output_of_blocks u = refl

  pub flows_of_blocks : flows_at m (dispatch_by blocks) ≡ flows_at m (dispatch_with blocks reserve)
  unfolding injection output
  flows_of_blocks = refl

  flow_sum : (terms : List Term) → NetworkSum m (dispatch_by blocks) terms → NetworkSum m (dispatch_with blocks reserve) terms
  unfolding injection
  flow_sum terms (put_in_at_bus same (injection_at i lt)) = put_in_at_bus _ (injection_at i lt)
  flow_sum terms (carried_by_network same (carried_on_line also (flow_of_line l lt))) = carried_by_network _ (carried_on_line _ (flow_of_line l lt))
  flow_sum terms (carried_by_network same (carried_by_unit also (output_of_lost k lt))) = carried_by_network _ (carried_by_unit _ (output_of_lost k lt))

  pub flows_refusal : (bound : ℕ) (p : Passed Fraction) → IsFlowsRefusal m (dispatch_by blocks) bound p → IsFlowsRefusal m (dispatch_with blocks reserve) bound p
  flows_refusal bound p (terms, sum, why) = (terms, flow_sum terms sum, why)

  -- the output of a unit is refused, or what it is paid
  pub pay_refusal : (price : ℕ → Fraction) (d : Duals Fraction) (bound : ℕ) (p : Passed Fraction) (u : ℕ) (t : Fraction) → u < length m.units → t ≡ own_price m d price u
      → IsRefusedIn (output_terms m (dispatch_by blocks) u) bound p ⊎ IsRefusal Times t (output m (dispatch_by blocks) u) bound p
      → IsMoneyRefusal m (dispatch_with blocks reserve) price d bound p
  pay_refusal price d bound p u t below is (inl a) = unit_refusal m (dispatch_with blocks reserve) price d bound p u t below is (inl a)
  pay_refusal price d bound p u t below is (inr a) =
      unit_refusal m (dispatch_with blocks reserve) price d bound p u t below is (inr (subst (λ (mw : Fraction). IsRefusal Times t mw bound p) (output_of_blocks u) a))
