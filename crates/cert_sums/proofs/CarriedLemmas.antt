-- The flows of rows at a dispatch, by the list of what the network carries.
use Rattle.std.specs.Prelude.{◌≡◌, ℕ, ◌<◌, List, length}
use Rattle.std.proofs.Common.{inl, inr, ap, subst}
use Rattle.fraction_theory.specs.Fraction.{Fraction}
use Rattle.fraction_theory.specs.Sums.{Term, total}
use Rattle.exact_fraction.specs.declared.Passed.{Passed}
use Rattle.market_model.specs.declared.limits.Row.{Row}
use Rattle.market_model.specs.declared.participants.Parts.{Parts}
use Rattle.market_model.specs.Dispatch.{Dispatch}
use Rattle.market_model.specs.LimitRows.{IsCauseOf, carried, flow, flow_by}
use Rattle.market_model.specs.NamedSums.{IsRefusedIn}
use Rattle.market_model.specs.PutIn.{AreCarried, carried_in}
use Rattle.market_model.specs.SumTables.{IsFlowRefusal, flow_of_row}
use Rattle.limit_rows.proofs.FlowSteps.{row_terms_are}

module _ (m : Parts) (x : Dispatch) (mws : List Fraction) (are : AreCarried m x mws) (r : Row) (line : r.line < length m.lines) (lost : IsCauseOf m r.cause) where
  pub flow_there : flow_by m (carried_in m mws) r ≡ flow m x r
  flow_there = ap total (row_terms_are m x mws are r line lost)

  pub refused_there : (bound : ℕ) (p : Passed Fraction) → IsFlowRefusal m (carried_in m mws) r bound p → IsFlowRefusal m (carried m x) r bound p
  refused_there bound p (inl (_, flow_of_row, why)) = inl (_, flow_of_row, subst (λ (ts : List Term). IsRefusedIn ts bound p) (row_terms_are m x mws are r line lost) why)
  refused_there bound p (inr why) = inr why
