-- What rows earn, and what is refused of that.
use Rattle.std.specs.Prelude.{◌≡◌, ◌≢◌, ◌⊎◌, ℕ, pos, List, [], ◌∷◌, Contains, refl}
use Rattle.std.proofs.Common.{inl, inr, ap, ap₂, sym, subst, subst₂, ◌∙◌}
use Rattle.fraction_theory.specs.Fraction.{Fraction, whole, ◌+ℚ◌, ◌-ℚ◌, ◌*ℚ◌}
use Rattle.fraction_theory.specs.Sums.{Term, Product, total}
use Rattle.fraction_theory.proofs.FieldLaws.{ring_ℚ}
use Rattle.fraction_theory.proofs.Ring.{by_ring, at, padd, pmul, pneg, pnil}
use Rattle.exact_fraction.specs.declared.Op.TheVariants.{Plus, Minus, Times}
use Rattle.exact_fraction.specs.declared.Passed.{Passed}
use Rattle.market_model.specs.declared.answered.Dual.{Dual}
use Rattle.market_model.specs.declared.answered.Duals.{Duals}
use Rattle.market_model.specs.declared.answered.Rent.{Rent}
use Rattle.market_model.specs.declared.answered.RowId.{RowId}
use Rattle.market_model.specs.declared.participants.Parts.{Parts}
use Rattle.market_model.specs.Dispatch.{Dispatch, zero}
use Rattle.market_model.specs.declared.limits.Cause.TheVariants.{Base}
use Rattle.market_model.specs.declared.limits.Row.{Row}
use Rattle.market_model.specs.LimitRows.{Carried, carried, flow, flow_by, flow_terms, limit, offset_terms, row_id, row_offset}
use Rattle.market_model.specs.NamedSums.{IsRefusal, IsRefusedIn}
use Rattle.market_model.specs.Optimality.{named_rows}
use Rattle.market_model.specs.Overrun.{excess, excess_by}
use Rattle.market_model.specs.RightAnswers.{rent_by, rent_of}
use Rattle.market_model.specs.Market.{IsMarket}
use Rattle.market_model.specs.Settlement.{earned_terms, lower_terms, priced_flow, rent_terms, rent_terms_by, upper_terms}
use Rattle.market_model.specs.SumTables.{IsFlowRefusal, IsRefusedAmong, rent_of_row, PaidRowSum, PickupSum, factor_of_pickup, flow_after_outage, flow_of_row, offset_of_row, paid_offset, upper_of_row, lower_of_row, payment, paid_row}
use Rattle.market_model.proofs.SumSteps.{product_at, two_refused, difference_refused}
use Rattle.limit_rows.proofs.DualLemmas.{IsRowOfDual}
use Rattle.limit_screen.proofs.ScreenLemmas.{row_terms}
use Rattle.limit_screen.specs.Flows.{carried_at, flows_at}
use Rattle.settlement.specs.Refusals.{IsMoneyRefusal}

-- ---- what a limit earns with one price
module _ (e : Dual Fraction) (f o : Fraction) where
  pub upper_earned : e.down ≡ whole (pos 0) → e.up *ℚ (f -ℚ o) ≡ total (earned_terms e.up e.down f o)
  upper_earned none =
      by_ring ring_ℚ (e.up ∷ f ∷ o ∷ []) (pmul (at 0) (padd (at 1) (pneg (at 2)))) (padd (pmul (at 0) (padd (at 1) (pneg (at 2)))) (padd (pmul pnil (padd (at 1) (at 2))) pnil)) refl
      ∙ ap (λ v. e.up *ℚ (f -ℚ o) +ℚ (v *ℚ (f +ℚ o) +ℚ whole (pos 0))) (sym none)

  pub lower_earned : e.up ≡ whole (pos 0) → e.down *ℚ (f +ℚ o) ≡ total (earned_terms e.up e.down f o)
  lower_earned none =
      by_ring ring_ℚ (e.down ∷ f ∷ o ∷ []) (pmul (at 0) (padd (at 1) (at 2))) (padd (pmul pnil (padd (at 1) (pneg (at 2)))) (padd (pmul (at 0) (padd (at 1) (at 2))) pnil)) refl
      ∙ ap (λ v. v *ℚ (f -ℚ o) +ℚ (e.down *ℚ (f +ℚ o) +ℚ whole (pos 0))) (sym none)

  module _ (bound : ℕ) (p : Passed Fraction) where
    pub less_refused : IsRefusal Minus f o bound p → IsRefusedIn (upper_terms f o) bound p
    less_refused h = difference_refused f o f o bound p refl refl h

    pub more_refused : IsRefusal Plus f o bound p → IsRefusedIn (lower_terms f o) bound p
    more_refused h = two_refused f o f o bound p refl refl h

    pub upper_refused : IsRefusal Times e.up (f -ℚ o) bound p → IsRefusedIn (earned_terms e.up e.down f o) bound p
    upper_refused h = product_at (earned_terms e.up e.down f o) [] (Product e.down (f +ℚ o) ∷ []) (Product e.up (f -ℚ o)) refl bound p e.up (f -ℚ o) refl refl h

    -- an upper price of 0 has earned nothing before
    pub lower_refused : e.up ≡ zero → IsRefusal Times e.down (f +ℚ o) bound p → IsRefusedIn (earned_terms e.up e.down f o) bound p
    lower_refused none h =
        product_at (earned_terms e.up e.down f o) (Product e.up (f -ℚ o) ∷ []) [] (Product e.down (f +ℚ o)) refl bound p e.down (f +ℚ o) refl
        (by_ring ring_ℚ (f ∷ o ∷ []) pnil (padd (pmul pnil (padd (at 0) (pneg (at 1)))) pnil) refl ∙ ap (λ u. u *ℚ (f -ℚ o) +ℚ zero) (sym none)) h

-- the same for the limit of a row, of its flow where so much is carried
pub earning_refused : (m : Parts) (f : Carried) (e : Dual Fraction) (r : Row) (size offset : Fraction) (bound : ℕ) (p : Passed Fraction) → size ≡ priced_flow m r (flow_by m f r) → offset ≡ row_offset m r
    → IsRefusedIn (upper_terms size offset) bound p ⊎ IsRefusedIn (lower_terms size offset) bound p ⊎ IsRefusedIn (earned_terms e.up e.down size offset) bound p
    → IsRefusedAmong (PaidRowSum m f r) bound p ⊎ IsRefusedIn (rent_terms_by m f r e.up e.down) bound p ⊎ IsRefusedAmong (PickupSum m r) bound p
earning_refused m f e r size offset bound p s o (inl a) = inl (upper_terms (priced_flow m r (flow_by m f r)) (row_offset m r), upper_of_row, subst₂ (λ u v. IsRefusedIn (upper_terms u v) bound p) s o a)
earning_refused m f e r size offset bound p s o (inr (inl a)) = inl (lower_terms (priced_flow m r (flow_by m f r)) (row_offset m r), lower_of_row, subst₂ (λ u v. IsRefusedIn (lower_terms u v) bound p) s o a)
earning_refused m f e r size offset bound p s o (inr (inr a)) = inr (inl (subst₂ (λ u v. IsRefusedIn (earned_terms e.up e.down u v) bound p) s o a))

-- its flow is refused
pub flow_not_paid : (m : Parts) (f : Carried) (e : Dual Fraction) (r : Row) (bound : ℕ) (p : Passed Fraction) → r.cause ≢ Base → IsFlowRefusal m f r bound p
    → IsRefusedAmong (PaidRowSum m f r) bound p ⊎ IsRefusedIn (rent_terms_by m f r e.up e.down) bound p ⊎ IsRefusedAmong (PickupSum m r) bound p
flow_not_paid m f e r bound p after (inl (terms, sum, a)) = inl (terms, flow_after_outage terms after sum, a)
flow_not_paid m f e r bound p after (inr a) = inr (inr a)

-- ---- rows of duals, where what a dispatch makes is carried
same_rent : (row row' : RowId) (f f' o o' r r' : Fraction) → row ≡ row' → f ≡ f' → o ≡ o' → r ≡ r'
    → ◌≡◌ {A = Rent Fraction} (record { row = row; flow = f; over = o; rent = r }) (record { row = row'; flow = f'; over = o'; rent = r' })
same_rent row row' f f' o o' r r' a b c d = Prim.rw a (Prim.rw b (Prim.rw c (Prim.rw d refl)))

module _ (m : Parts) (x : Dispatch) (flows : List Fraction) (are : flows ≡ flows_at m x) (d : Duals Fraction) (k : ℕ) (e : Dual Fraction) (r : Row) (h : IsRowOfDual m d k e r) (market : IsMarket m) where
  -- its flow is that of the dispatch
  same_flow : flow_by m (carried_at m flows) r ≡ flow m x r
  same_flow = ap total (row_terms m x flows are r market h.row)

  pub rent_is : rent_by m (carried_at m flows) e r ≡ rent_of m x d r
  rent_is =
      same_rent e.row (row_id m r) (flow_by m (carried_at m flows) r) (flow m x r) (excess_by m r (flow_by m (carried_at m flows) r)) (excess m x r) (total (rent_terms_by m (carried_at m flows) r e.up e.down)) (total (rent_terms m x d r)) (sym h.name)
      same_flow (ap (excess_by m r) same_flow)
      (ap (λ f. total (earned_terms e.up e.down (priced_flow m r f) (row_offset m r))) same_flow
      ∙ ap₂ (λ u v. total (rent_terms_by m (carried m x) r u v)) (sym h.up) (sym h.down))

  module _ (price : ℕ → Fraction) (bound : ℕ) (p : Passed Fraction) where
    named : Contains (named_rows m d) r
    named = (k, h.inside, sym h.at)

    -- the sums of the row are those at the dispatch
    paid_row_same : (terms : List Term) → PaidRowSum m (carried_at m flows) r terms → IsRefusedIn terms bound p → IsMoneyRefusal m x price d bound p
    paid_row_same terms (flow_after_outage same after flow_of_row) a =
        inl (flow_terms m (carried m x) r, paid_row r _ named (flow_after_outage _ after flow_of_row), subst (λ ts. IsRefusedIn ts bound p) (row_terms m x flows are r market h.row) a)
    paid_row_same terms (paid_offset same offset_of_row) a = inl (offset_terms m r, paid_row r _ named (paid_offset _ offset_of_row), a)
    paid_row_same terms upper_of_row a =
        inl (upper_terms (priced_flow m r (flow m x r)) (row_offset m r), paid_row r _ named upper_of_row, subst (λ f. IsRefusedIn (upper_terms (priced_flow m r f) (row_offset m r)) bound p) same_flow a)
    paid_row_same terms lower_of_row a =
        inl (lower_terms (priced_flow m r (flow m x r)) (row_offset m r), paid_row r _ named lower_of_row, subst (λ f. IsRefusedIn (lower_terms (priced_flow m r f) (row_offset m r)) bound p) same_flow a)

    pub row_refusal : IsRefusedAmong (PaidRowSum m (carried_at m flows) r) bound p ⊎ IsRefusedIn (rent_terms_by m (carried_at m flows) r e.up e.down) bound p ⊎ IsRefusedAmong (PickupSum m r) bound p
        → IsMoneyRefusal m x price d bound p
    row_refusal (inl (terms, sum, a)) = paid_row_same terms sum a
    row_refusal (inr (inr (terms, sum, a))) = inr (r, named, (terms, factor_of_pickup terms sum, a))
    row_refusal (inr (inl a)) = inl (
      rent_terms m x d r,
      payment _ (rent_of_row r named),
      subst₂ (λ u v. IsRefusedIn (rent_terms_by m (carried m x) r u v) bound p) (sym h.up) (sym h.down)
          (subst (λ f. IsRefusedIn (earned_terms e.up e.down (priced_flow m r f) (row_offset m r)) bound p) same_flow a),
    )
