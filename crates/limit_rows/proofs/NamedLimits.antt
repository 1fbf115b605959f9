-- What flows leave where nothing is accepted, added up over the rows that duals name.
use Rattle.std.specs.Prelude.{◌≡◌, pos, false, [], ◌∷◌, refl}
use Rattle.std.proofs.Common.{ap, ap₂, ◌∙◌}
use Rattle.fraction_theory.specs.Fraction.{Fraction, whole, ◌+ℚ◌, ◌-ℚ◌, ◌*ℚ◌}
use Rattle.fraction_theory.specs.Sums.{sum_by, total}
use Rattle.fraction_theory.proofs.FieldLaws.{ring_ℚ}
use Rattle.fraction_theory.proofs.Ring.{by_ring, at, pneg, pnil, ◌⊕◌, ◌⊗◌}
use Rattle.market_model.specs.declared.answered.Duals.{Duals}
use Rattle.market_model.specs.declared.limits.Row.{Row}
use Rattle.market_model.specs.declared.participants.Parts.{Parts}
use Rattle.market_model.specs.Dispatch.{balance, empty}
use Rattle.market_model.specs.Infeasibility.{energy_left_terms, limit_terms}
use Rattle.market_model.specs.LimitRows.{flow, most_flow, row_id, rows}
use Rattle.market_model.specs.Optimality.{named_rows, names_row}
use Rattle.market_model.proofs.FarkasLaw.{total-flat_map}
use Rattle.limit_rows.proofs.DualLemmas.{down_unnamed, sum_named, up_unnamed}

module _ (m : Parts) (d : Duals Fraction) where
  abbrev left : Row → Fraction
  left r = total (limit_terms m d r)

  -- the flow of a row without duals leaves nothing that counts
  pub limit_unnamed : (r : Row) → names_row d.limits (row_id m r) ≡ false → left r ≡ whole (pos 0)
  limit_unnamed r h =
      ap₂ (λ u v. u *ℚ (most_flow m r -ℚ flow m (empty m) r) +ℚ (v *ℚ (most_flow m r +ℚ flow m (empty m) r) +ℚ whole (pos 0))) (up_unnamed d.limits (row_id m r) h) (down_unnamed d.limits (row_id m r) h)
      ∙ by_ring ring_ℚ (most_flow m r ∷ flow m (empty m) r ∷ []) (pnil ⊗ (at 0 ⊕ pneg (at 1)) ⊕ (pnil ⊗ (at 0 ⊕ at 1) ⊕ pnil)) pnil refl

  -- so the rows with duals make it all
  pub energy_left-by_named : total (energy_left_terms m d) ≡ d.energy *ℚ balance m (empty m) +ℚ sum_by left (named_rows m d)
  energy_left-by_named = ap (λ t. d.energy *ℚ balance m (empty m) +ℚ t) (total-flat_map (limit_terms m d) (rows m) ∙ sum_named m d left (rows m) limit_unnamed)
