-- The own price of a unit, row by row.
use Rattle.std.specs.Prelude.{◌≡◌, ℕ, ◌+◌, ◌<◌, ◌≤◌, pos, Bool, true, false, cond, List, [], ◌∷◌, ◌++◌, map, filter, length, take, refl}
use Rattle.std.proofs.Common.{inl, inr, ap, ap₂, sym, ◌∙◌}
use Rattle.std.proofs.lemmas.List.{map-append, take_all}
use Rattle.std.proofs.lemmas.List.Elements.{filter-append}
use Rattle.fraction_theory.specs.Fraction.{Fraction, whole, neg_ℚ, ◌+ℚ◌, ◌-ℚ◌, ◌*ℚ◌}
use Rattle.fraction_theory.specs.Sums.{sum_by, Term, Plain, Product, term_value, total}
use Rattle.fraction_theory.proofs.FieldLaws.{ring_ℚ, +ℚ_nil, +ℚ_assoc}
use Rattle.fraction_theory.proofs.ListSums.{kept, sum_by-filter}
use Rattle.fraction_theory.proofs.Ring.{by_ring, at, padd, pmul, pneg, pnil}
use Rattle.fraction_theory.proofs.SumLaws.{total-map}
use Rattle.exact_fraction.specs.declared.Op.TheVariants.{Minus}
use Rattle.exact_fraction.specs.declared.Passed.{Passed}
use Rattle.market_model.specs.declared.answered.Duals.{Duals}
use Rattle.market_model.specs.declared.limits.Row.{Row}
use Rattle.market_model.specs.declared.participants.Parts.{Parts}
use Rattle.market_model.specs.Dispatch.{unit_at}
use Rattle.market_model.specs.LimitRows.{loses_unit, row_id, row_pickup, rows}
use Rattle.market_model.specs.Optimality.{up_of, down_of, net_shadow_price, names_row, named_rows, own_price, own_terms}
use Rattle.market_model.specs.SumTables.{IsRefusedAmong, OwnPriceSum, PickupSum, factor_of_pickup, own_price_of_unit}
use Rattle.market_model.proofs.MorePlaces.{sum_by_more}
use Rattle.market_model.proofs.SumSteps.{refusal_same, share_at}
use Rattle.limit_rows.proofs.DualLemmas.{up_unnamed, down_unnamed, sum_named, filter_at}
use Rattle.cert_sums.specs.Named.{PricedRow}
use Rattle.cert_sums.specs.Refusals.{IsNetShadowPriceRefusal, IsPriceRefusal}
use Rattle.cert_sums.proofs.NamedLemmas.{IsNamedAt, is_named_row}

module _ (m : Parts) (d : Duals Fraction) (price : ℕ → Fraction) (u : ℕ) where
  abbrev lost : Row → Bool
  lost r = loses_unit m u r.cause

  abbrev term : Row → Term
  term r = Product (neg_ℚ (net_shadow_price m d r)) (row_pickup m r.line r.cause)

  -- what a row takes
  abbrev share : Row → Fraction
  share r = kept (lost r) (term_value (term r))

  nothing_kept : (b : Bool) (y : Fraction) → y ≡ whole (pos 0) → kept b y ≡ whole (pos 0)
  nothing_kept true y e = e
  nothing_kept false y e = refl

  unnamed : (r : Row) → names_row d.limits (row_id m r) ≡ false → share r ≡ whole (pos 0)
  unnamed r h =
      nothing_kept (lost r) (term_value (term r))
      (ap₂ (λ s t. neg_ℚ (s -ℚ t) *ℚ row_pickup m r.line r.cause) (up_unnamed d.limits (row_id m r) h) (down_unnamed d.limits (row_id m r) h)
      ∙ by_ring ring_ℚ (row_pickup m r.line r.cause ∷ []) (pmul (pneg (padd pnil (pneg pnil))) (at 0)) pnil refl)

  sum_kept : (rs : List Row) → total (map term (filter lost rs)) ≡ sum_by share rs
  sum_kept rs = total-map term (filter lost rs) ∙ sum_by-filter (λ r. term_value (term r)) lost rs

  -- the price at the bus, less what the first rows take that duals name
  abbrev pub own_to : ℕ → Fraction
  own_to k = price (unit_at m u).bus +ℚ sum_by share (take k (named_rows m d))

  pub own_none : (s : Fraction) → s ≡ price (unit_at m u).bus → s ≡ own_to 0
  own_none s e = e ∙ sym (+ℚ_nil (price (unit_at m u).bus))

  pub own_all : (k : ℕ) → length (named_rows m d) ≤ k → own_to k ≡ own_price m d price u
  own_all k h =
      ap (λ t. price (unit_at m u).bus +ℚ t)
      (ap (sum_by share) (take_all k (named_rows m d) h) ∙ sym (sum_named m d share (rows m) unnamed) ∙ sym (sum_kept (rows m)))

  module _ (k : ℕ) (e : PricedRow) (h : IsNamedAt m d k e) where
    own_more : own_to (k + 1) ≡ own_to k +ℚ share e.row
    own_more =
        ap (λ t. price (unit_at m u).bus +ℚ t)
        (sum_by_more share (named_rows m d) k e.row h.inside ∙ ap (λ (r : Row). sum_by share (take k (named_rows m d)) +ℚ share r) (sym h.at))
        ∙ sym (+ℚ_assoc (price (unit_at m u).bus) (sum_by share (take k (named_rows m d))) (share e.row))

    -- a row that does not lose the unit
    pub own_passed : (old : Fraction) → lost e.row ≡ false → old ≡ own_to k → old ≡ own_to (k + 1)
    own_passed old other before =
        before ∙ sym (+ℚ_nil (own_to k)) ∙ ap (λ (b : Bool). own_to k +ℚ kept b (term_value (term e.row))) (sym other) ∙ sym own_more

    -- one that does
    module _ (loss : lost e.row ≡ true) where
      net_price_is : neg_ℚ (e.up -ℚ e.down) ≡ neg_ℚ (net_shadow_price m d e.row)
      net_price_is = ap₂ (λ s t. neg_ℚ (s -ℚ t)) h.up h.down

      pub own_step : (factor old new : Fraction) → factor ≡ row_pickup m e.row.line e.row.cause → old ≡ own_to k → new ≡ old +ℚ neg_ℚ (e.up -ℚ e.down) *ℚ factor → new ≡ own_to (k + 1)
      own_step factor old new is before eq =
          eq ∙ ap₂ (λ s t. old +ℚ s *ℚ t) net_price_is is
          ∙ ap (λ s. s +ℚ term_value (term e.row)) before
          ∙ ap (λ (b : Bool). own_to k +ℚ kept b (term_value (term e.row))) (sym loss) ∙ sym own_more

      -- the terms of the price round that of the row
      record IsSplit : Type 0 where
        front : List Term
        rest : List Term
        split : own_terms m d price u ≡ front ++ term e.row ∷ rest
        sum : total front ≡ own_to k

      split_at : IsSplit
      split_at =
          let s = filter_at (λ r. names_row d.limits (row_id m r)) (rows m) k e.row h.inside in
          let rows_are : rows m ≡ s.0 ++ e.row ∷ s.1 = s.2 ∙ ap (λ (r : Row). s.0 ++ r ∷ s.1) (sym h.at) in
          let kept_are : filter lost (rows m) ≡ filter lost s.0 ++ e.row ∷ filter lost s.1 =
          ap (filter lost) rows_are ∙ filter-append lost s.0 (e.row ∷ s.1)
          ∙ ap (λ (b : Bool). filter lost s.0 ++ cond b (e.row ∷ filter lost s.1) (filter lost s.1)) loss in
          record {
            front = Plain (price (unit_at m u).bus) ∷ map term (filter lost s.0);
            rest = map term (filter lost s.1);
            split =
                ap (λ (rs : List Row). Plain (price (unit_at m u).bus) ∷ map term rs) kept_are
                ∙ ap (λ (ts : List Term). Plain (price (unit_at m u).bus) ∷ ts) (map-append term (filter lost s.0) (e.row ∷ filter lost s.1));
            sum = ap (λ t. price (unit_at m u).bus +ℚ t) (sum_kept s.0 ∙ sum_named m d share s.0 unnamed ∙ ap (sum_by share) s.3);
          }

      module _ (bound : ℕ) (p : Passed Fraction) where
        pub own_refused : (factor sum : Fraction) → u < length m.units → factor ≡ row_pickup m e.row.line e.row.cause → sum ≡ own_to k → IsNetShadowPriceRefusal sum e.up e.down factor bound p
            → IsPriceRefusal m d (OwnPriceSum m d price) bound p
        own_refused factor sum inside is before (inl c) =
            inr (inl (e.row, is_named_row m d k e h, refusal_same Minus e.up e.down (up_of m d e.row) (down_of m d e.row) bound p h.up h.down c))
        own_refused factor sum inside is before (inr c) = inl (
          _,
          own_price_of_unit u inside,
          share_at (own_terms m d price u) split_at.front split_at.rest (term e.row) split_at.split bound p sum (neg_ℚ (e.up -ℚ e.down)) factor (ap₂ Product (sym net_price_is) (sym is)) (before ∙ sym split_at.sum) c,
        )

    -- in the pickup factor of the row
    pub pickup_stops : (bound : ℕ) (p : Passed Fraction) → IsRefusedAmong (PickupSum m e.row) bound p → IsPriceRefusal m d (OwnPriceSum m d price) bound p
    pickup_stops bound p (terms, part, c) = inr (inr (e.row, is_named_row m d k e h, (terms, factor_of_pickup terms part, c)))
