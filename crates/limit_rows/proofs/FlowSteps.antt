-- Steps of the flows of lines and rows, and of the offsets of rows.
use Rattle.std.specs.Prelude.{◌≡◌, ◌≢◌, ℕ, ◌+◌, ◌<◌, pos, ℤ, List, [], ◌∷◌, ◌++◌, map, length, refl}
use Rattle.std.proofs.Common.{arith, ap, ap₂, sym, subst, ◌∙◌, get_or}
use Rattle.fraction_theory.specs.Fraction.{Fraction, whole, over, ◌+ℚ◌, ◌*ℚ◌}
use Rattle.fraction_theory.specs.Sums.{Term, Plain, Product, total}
use Rattle.fraction_theory.proofs.FieldLaws.{ring_ℚ, over-same, over-one, +ℚ_nil, +ℚ_assoc, *ℚ_comm}
use Rattle.fraction_theory.proofs.Ring.{times_nil}
use Rattle.exact_fraction.specs.declared.Passed.{Passed}
use Rattle.market_data.specs.Scales.{factor_one}
use Rattle.market_model.specs.declared.limits.Cause.{Cause}
use Rattle.market_model.specs.declared.limits.Cause.TheVariants.{Base, Branch, UnitOutage}
use Rattle.market_model.specs.declared.limits.Row.{Row}
use Rattle.market_model.specs.declared.participants.Parts.{Parts}
use Rattle.market_model.specs.Dispatch.{Dispatch, places, injection}
use Rattle.market_model.specs.LimitRows.{Carried, IsCauseOf, carried, factor_terms, flow_by, flow_terms, terms_under, line_flow, line_flows, line_offset, line_terms, loss_factor, lost_output, lost_outputs, offset_terms, picked_up_terms, pickup_factor, row_factor, row_offset, shift_factor}
use Rattle.market_model.specs.NamedSums.{IsRefusedIn, IsShareRefusal}
use Rattle.market_model.specs.PutIn.{AreCarried, AreInjections, carried_in, put_in}
use Rattle.market_model.specs.SumTables.{IsRefusedAmong, LineFlowSum, flow_of_line}
use Rattle.market_model.proofs.MorePlaces.{total-places_more}
use Rattle.market_model.proofs.PlaceLists.{filled_at, map_same}
use Rattle.market_model.proofs.PutInSteps.{put_is}
use Rattle.market_model.proofs.SumSteps.{share_at, terms_at}
use Rattle.std.proofs.lemmas.List.{get_or_append_left, get_or-append-add}
use Rattle.std.proofs.lemmas.List.FromFn.{length-map-range_with_len}

-- a factor of 0 takes nothing
pub no_share : (s x : Fraction) (k : ℤ) → k ≡ pos 0 → s ≡ s +ℚ over k factor_one *ℚ x
no_share s x k e =
    let nil : over k factor_one ≡ whole (pos 0) = ap (λ (n : ℤ). over n factor_one) e ∙ over-same (pos 0) (pos 0) factor_one 1 (Prim.omega arith) (Prim.omega arith) refl ∙ over-one (pos 0) in
    sym (ap (λ t. s +ℚ t *ℚ x) nil ∙ ap (λ t. s +ℚ t) (*ℚ_comm (whole (pos 0)) x ∙ times_nil ring_ℚ x) ∙ +ℚ_nil s)

-- ---- the flow of a line
module _ (m : Parts) (p : ℕ → Fraction) (l : ℕ) where
  abbrev pub share_term : ℕ → Term
  share_term i = Product (shift_factor m l i) (p i)

  abbrev pub line_to : ℕ → List Term
  line_to k = Plain (line_offset m l) ∷ map share_term (places k)

  pub line_step : (k : ℕ) (h x old new : Fraction) → h ≡ shift_factor m l k → x ≡ p k → old ≡ total (line_to k) → new ≡ old +ℚ h *ℚ x → new ≡ total (line_to (k + 1))
  line_step k h x old new is at before e =
      e ∙ ap₂ (λ s t. old +ℚ s *ℚ t) is at
      ∙ ap (λ s. s +ℚ shift_factor m l k *ℚ p k) before
      ∙ +ℚ_assoc (line_offset m l) (total (map share_term (places k))) (shift_factor m l k *ℚ p k)
      ∙ ap (λ s. line_offset m l +ℚ s) (sym (total-places_more share_term k))

  pub line_refused : (k : ℕ) (h x sum : Fraction) (bound : ℕ) (e : Passed Fraction) → k < length m.buses → h ≡ shift_factor m l k → x ≡ p k → sum ≡ total (line_to k) → IsShareRefusal sum h x bound e
      → IsRefusedIn (line_terms m p l) bound e
  line_refused k h x sum bound e below is at before why =
      let r = terms_at share_term (length m.buses) k below in
      share_at (line_terms m p l) (line_to k) r.0 (share_term k) (ap (λ ts. Plain (line_offset m l) ∷ ts) r.1) bound e sum h x (ap₂ Product (sym is) (sym at)) before why

-- a sum of a number and a share
pub share_refused : (a h x : Fraction) (bound : ℕ) (e : Passed Fraction) → IsShareRefusal a h x bound e → IsRefusedIn (Plain a ∷ Product h x ∷ []) bound e
share_refused a h x bound e why = share_at (Plain a ∷ Product h x ∷ []) (Plain a ∷ []) [] (Product h x) refl bound e a h x refl (sym (+ℚ_nil a)) why

-- ---- an amount f of lines, under a cause
module _ (m : Parts) (f : ℕ → Fraction) (l : ℕ) where
  alone : (own : Fraction) → own ≡ f l → own ≡ total (Plain (f l) ∷ [])
  alone own is = is ∙ sym (+ℚ_nil (f l))

  module _ (k : ℕ) (own h gone : Fraction) (own_is : own ≡ f l) (factor_is : h ≡ loss_factor m l k) (gone_is : gone ≡ f k) where
    with_lost : (mw : Fraction) → mw ≡ own +ℚ h *ℚ gone → mw ≡ total (terms_under m f l (Branch k))
    with_lost mw e = e ∙ ap₂ (λ a b. a +ℚ b) own_is (ap₂ ◌*ℚ◌ factor_is gone_is ∙ sym (+ℚ_nil (loss_factor m l k *ℚ f k)))

    lost_refused : (bound : ℕ) (e : Passed Fraction) → IsShareRefusal own h gone bound e → IsRefusedIn (terms_under m f l (Branch k)) bound e
    lost_refused bound e why = subst (λ ts. IsRefusedIn ts bound e) (ap₂ (λ (a : Fraction) (t : Term). Plain a ∷ t ∷ []) own_is (ap₂ Product factor_is gone_is)) (share_refused own h gone bound e why)

-- ---- the flow of a row, of what is carried
module _ (m : Parts) (c : Carried) (l : ℕ) where
  pub base_flow : (own : Fraction) → own ≡ c.line l → own ≡ flow_by m c (record { line = l; cause = Base })
  base_flow own is = alone m c.line l own is

  module _ (k : ℕ) (own h gone : Fraction) (own_is : own ≡ c.line l) (factor_is : h ≡ loss_factor m l k) (gone_is : gone ≡ c.line k) where
    pub flow_after : (mw : Fraction) → mw ≡ own +ℚ h *ℚ gone → mw ≡ flow_by m c (record { line = l; cause = Branch k })
    flow_after mw e = with_lost m c.line l k own h gone own_is factor_is gone_is mw e

    pub flow_refused : (bound : ℕ) (e : Passed Fraction) → IsShareRefusal own h gone bound e → IsRefusedIn (flow_terms m c (record { line = l; cause = Branch k })) bound e
    flow_refused bound e why = lost_refused m c.line l k own h gone own_is factor_is gone_is bound e why

  module _ (k : ℕ) (own h gone : Fraction) (own_is : own ≡ c.line l) (factor_is : h ≡ pickup_factor m l k) (gone_is : gone ≡ c.lost k) where
    pub flow_picked : (mw : Fraction) → mw ≡ own +ℚ h *ℚ gone → mw ≡ flow_by m c (record { line = l; cause = UnitOutage k })
    flow_picked mw e = e ∙ ap₂ (λ a b. a +ℚ b) own_is (ap₂ ◌*ℚ◌ factor_is gone_is ∙ sym (+ℚ_nil (pickup_factor m l k *ℚ c.lost k)))

    pub picked_refused : (bound : ℕ) (e : Passed Fraction) → IsShareRefusal own h gone bound e → IsRefusedIn (flow_terms m c (record { line = l; cause = UnitOutage k })) bound e
    picked_refused bound e why = subst (λ ts. IsRefusedIn ts bound e) (ap₂ (λ (a : Fraction) (t : Term). Plain a ∷ t ∷ []) own_is (ap₂ Product factor_is gone_is)) (share_refused own h gone bound e why)

pub not_base : (cause : Cause) (k : ℕ) → cause ≡ Branch k → cause ≢ Base
not_base cause k is e = Prim.cc

pub unit_not_base : (cause : Cause) (k : ℕ) → cause ≡ UnitOutage k → cause ≢ Base
unit_not_base cause k is e = Prim.cc

-- ---- the offset of a row: that of its line, and after an outage what goes over of the lost one's
pub base_offset : (m : Parts) (l : ℕ) → line_offset m l ≡ row_offset m (record { line = l; cause = Base })
unfolding row_offset
base_offset m l = alone m (line_offset m) l (line_offset m l) refl

pub unit_offset : (m : Parts) (l k : ℕ) → line_offset m l ≡ row_offset m (record { line = l; cause = UnitOutage k })
unfolding row_offset
unit_offset m l k = alone m (line_offset m) l (line_offset m l) refl

module _ (m : Parts) (l k : ℕ) (own h gone : Fraction) (own_is : own ≡ line_offset m l) (factor_is : h ≡ loss_factor m l k) (gone_is : gone ≡ line_offset m k) where
  pub offset_after : (mw : Fraction) → mw ≡ own +ℚ h *ℚ gone → mw ≡ row_offset m (record { line = l; cause = Branch k })
  unfolding row_offset
  offset_after mw e = with_lost m (line_offset m) l k own h gone own_is factor_is gone_is mw e

  pub offset_refused : (bound : ℕ) (e : Passed Fraction) → IsShareRefusal own h gone bound e → IsRefusedIn (offset_terms m (record { line = l; cause = Branch k })) bound e
  offset_refused bound e why = lost_refused m (line_offset m) l k own h gone own_is factor_is gone_is bound e why

-- ---- the factor of a row at a bus: that of its line, and after an outage what goes over of the lost one's
module _ (m : Parts) (l i : ℕ) (own : Fraction) (own_is : own ≡ shift_factor m l i) where
  pub base_factor : own ≡ row_factor m (record { line = l; cause = Base }) i
  unfolding row_factor
  base_factor = alone m (λ n. shift_factor m n i) l own own_is

  pub unit_outage_factor : (k : ℕ) → own ≡ row_factor m (record { line = l; cause = UnitOutage k }) i
  unfolding row_factor
  unit_outage_factor k = alone m (λ n. shift_factor m n i) l own own_is

  module _ (k : ℕ) (h gone : Fraction) (factor_is : h ≡ loss_factor m l k) (gone_is : gone ≡ shift_factor m k i) where
    pub factor_after : (more : Fraction) → more ≡ own +ℚ h *ℚ gone → more ≡ row_factor m (record { line = l; cause = Branch k }) i
    unfolding row_factor
    factor_after more e = with_lost m (λ n. shift_factor m n i) l k own h gone own_is factor_is gone_is more e

    pub factor_refused : (bound : ℕ) (e : Passed Fraction) → IsShareRefusal own h gone bound e → IsRefusedIn (factor_terms m (record { line = l; cause = Branch k }) i) bound e
    factor_refused bound e why = lost_refused m (λ n. shift_factor m n i) l k own h gone own_is factor_is gone_is bound e why

-- ---- what is carried the same makes the same flow of a row
module _ (m : Parts) (c d : Carried) (same : (l : ℕ) → l < length m.lines → c.line l ≡ d.line l) (same_lost : (k : ℕ) → k < length m.unit_outages → c.lost k ≡ d.lost k) where
  pub flow_terms-same : (r : Row) → r.line < length m.lines → IsCauseOf m r.cause → flow_terms m c r ≡ flow_terms m d r
  flow_terms-same r inside is = by r.cause is
    where
      by : (cause : Cause) → IsCauseOf m cause → terms_under m c.line r.line cause ++ picked_up_terms m c.lost r.line cause ≡ terms_under m d.line r.line cause ++ picked_up_terms m d.lost r.line cause
      by Base h = ap (λ (a : Fraction). Plain a ∷ []) (same r.line inside)
      by (Branch k) h = ap₂ (λ (a b : Fraction). Plain a ∷ Product (loss_factor m r.line k) b ∷ []) (same r.line inside) (same k h)
      by (UnitOutage k) h = ap₂ (λ (a b : Fraction). Plain a ∷ Product (pickup_factor m r.line k) b ∷ []) (same r.line inside) (same_lost k h)

-- ---- the flows of a dispatch
module _ (m : Parts) (p q : ℕ → Fraction) (same : (i : ℕ) → i < length m.buses → p i ≡ q i) where
  pub line_terms-same : (l : ℕ) → line_terms m p l ≡ line_terms m q l
  line_terms-same l = ap (λ ts. Plain (line_offset m l) ∷ ts) (map_same (λ i. Product (shift_factor m l i) (p i)) (λ i. Product (shift_factor m l i) (q i)) (length m.buses) (λ i lt. ap (Product (shift_factor m l i)) (same i lt)))

  pub line_flow-same : (l : ℕ) → line_flow m p l ≡ line_flow m q l
  unfolding line_flow
  line_flow-same l = ap total (line_terms-same l)

-- where buses put in what a dispatch makes them
module _ (m : Parts) (x : Dispatch) (mws : List Fraction) (puts : AreInjections m x mws) where
  pub lines_put : (flows : List Fraction) → flows ≡ map (line_flow m (put_in mws)) (places (length m.lines)) → flows ≡ line_flows m x
  lines_put flows e = e ∙ map_same (line_flow m (put_in mws)) (line_flow m (injection m x)) (length m.lines) (λ l lt. line_flow-same m (put_in mws) (injection m x) (put_is m x mws puts) l)

  pub line_refusal : (bound : ℕ) (e : Passed Fraction) → IsRefusedAmong (LineFlowSum m (put_in mws)) bound e → IsRefusedAmong (LineFlowSum m (injection m x)) bound e
  line_refusal bound e (_, flow_of_line l lt, why) = (_, flow_of_line l lt, subst (λ ts. IsRefusedIn ts bound e) (line_terms-same m (put_in mws) (injection m x) (put_is m x mws puts) l) why)

-- what is carried at a dispatch, read off its list
module _ (m : Parts) (x : Dispatch) (mws : List Fraction) (are : AreCarried m x mws) where
  pub flow_is : (l : ℕ) → l < length m.lines → put_in mws l ≡ line_flow m (injection m x) l
  flow_is l lt =
      let count : length (line_flows m x) ≡ length m.lines = length-map-range_with_len (line_flow m (injection m x)) 0 (length m.lines) in
      ap (λ (ys : List Fraction). get_or ys l (whole (pos 0))) are
      ∙ get_or_append_left (line_flows m x) (lost_outputs m x) (whole (pos 0)) l (Prim.omega (arith, lt, count))
      ∙ filled_at (line_flow m (injection m x)) (line_flows m x) (length m.lines) (whole (pos 0)) refl l lt

  pub lost_is : (k : ℕ) → k < length m.unit_outages → put_in mws (length m.lines + k) ≡ lost_output m x k
  lost_is k lt =
      let count : length (line_flows m x) ≡ length m.lines = length-map-range_with_len (line_flow m (injection m x)) 0 (length m.lines) in
      let at : length m.lines + k ≡ length (line_flows m x) + k = Prim.omega (arith, count) in
      ap (λ (ys : List Fraction). get_or ys (length m.lines + k) (whole (pos 0))) are
      ∙ ap (λ (n : ℕ). get_or (line_flows m x ++ lost_outputs m x) n (whole (pos 0))) at
      ∙ get_or-append-add (line_flows m x) (lost_outputs m x) k (whole (pos 0))
      ∙ filled_at (lost_output m x) (lost_outputs m x) (length m.unit_outages) (whole (pos 0)) refl k lt

  pub row_terms_are : (r : Row) → r.line < length m.lines → IsCauseOf m r.cause → flow_terms m (carried_in m mws) r ≡ flow_terms m (carried m x) r
  row_terms_are r inside is = flow_terms-same m (carried_in m mws) (carried m x) flow_is lost_is r inside is
