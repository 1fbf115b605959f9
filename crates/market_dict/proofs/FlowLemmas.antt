-- The flows of a dispatch are those of its blocks: what is accepted of reserve counts for none.
use Rattle.std.specs.Prelude.{◌≡◌, ℕ, List, ◌++◌, length, map, refl}
use mathlib.Core.Path.{fun_ext}
use Rattle.std.proofs.Common.{ap₂, subst}
use Rattle.fraction_theory.specs.Fraction.{Fraction}
use Rattle.fraction_theory.specs.Sums.{Term}
use Rattle.exact_fraction.specs.declared.Passed.{Passed}
use Rattle.market_model.specs.declared.participants.Parts.{Parts}
use Rattle.market_model.specs.Dispatch.{dispatch_with, injection, output, places}
use Rattle.market_model.specs.LimitRows.{line_flow, lost_output}
use Rattle.market_model.specs.SumTables.{InjectionSum, LineFlowSum, LostOutputSum, carried_by_unit, carried_on_line, injection_at, output_of_lost, NetworkSum, put_in_at_bus, carried_by_network}
use Rattle.limit_screen.specs.Flows.{flows_at, IsFlowsRefusal}

module _ (m : Parts) (xs rs qs : List Fraction) where
  injection_same : injection m (dispatch_with xs rs) ≡ injection m (dispatch_with xs qs)
  unfolding injection
  injection_same = fun_ext (λ i. refl)

  lost_same : lost_output m (dispatch_with xs rs) ≡ lost_output m (dispatch_with xs qs)
  unfolding output
  lost_same = fun_ext (λ k. refl)

  pub flows_same : flows_at m (dispatch_with xs rs) ≡ flows_at m (dispatch_with xs qs)
  flows_same =
      ap₂ (λ (puts : ℕ → Fraction) (lost : ℕ → Fraction). map puts (places (length m.buses)) ++ (map (line_flow m puts) (places (length m.lines)) ++ map lost (places (length m.unit_outages)))) injection_same lost_same

  by_bus : (terms : List Term) → InjectionSum m (dispatch_with xs rs) terms → InjectionSum m (dispatch_with xs qs) terms
  by_bus _ (injection_at i h) = injection_at i h

  by_lost : (terms : List Term) → LostOutputSum m (dispatch_with xs rs) terms → LostOutputSum m (dispatch_with xs qs) terms
  by_lost _ (output_of_lost k h) = output_of_lost k h

  carried_same : (terms : List Term) → NetworkSum m (dispatch_with xs rs) terms → NetworkSum m (dispatch_with xs qs) terms
  carried_same terms (put_in_at_bus _ s) = put_in_at_bus terms (by_bus terms s)
  carried_same terms (carried_by_network _ (carried_on_line _ s)) = carried_by_network terms (carried_on_line terms (subst (λ (p : ℕ → Fraction). LineFlowSum m p terms) injection_same s))
  carried_same terms (carried_by_network _ (carried_by_unit _ s)) = carried_by_network terms (carried_by_unit terms (by_lost terms s))

  pub flows_refused_same : (bound : ℕ) (p : Passed Fraction) → IsFlowsRefusal m (dispatch_with xs rs) bound p → IsFlowsRefusal m (dispatch_with xs qs) bound p
  flows_refused_same bound p (terms, s, why) = (terms, carried_same terms s, why)
