-- The named rows of duals, and the congestion at a bus row by row.
use Rattle.std.specs.Prelude.{◌≡◌, ◌⊎◌, ℕ, ◌+◌, ◌<◌, ◌≤◌, pos, false, List, [], ◌∷◌, ◌++◌, map, length, take, Contains, refl}
use Rattle.std.proofs.Common.{inl, inr, arith, ap, ap₂, sym, ◌∙◌, get_or}
use Rattle.std.proofs.lemmas.List.{get_or-map, length-map, take_all}
use Rattle.fraction_theory.specs.Fraction.{Fraction, whole, neg_ℚ, ◌+ℚ◌, ◌-ℚ◌, ◌*ℚ◌}
use Rattle.fraction_theory.specs.Sums.{sum_by, Term, Product, term_value, total}
use Rattle.fraction_theory.proofs.FieldLaws.{ring_ℚ, +ℚ_nil}
use Rattle.fraction_theory.proofs.ListSums.{Contains-from_filter}
use Rattle.fraction_theory.proofs.Ring.{by_ring, at, padd, pmul, pneg, pnil, times_nil}
use Rattle.fraction_theory.proofs.SumLaws.{total-map}
use Rattle.exact_fraction.specs.declared.Op.TheVariants.{Plus, Minus}
use Rattle.exact_fraction.specs.declared.Passed.{Passed}
use Rattle.market_model.specs.declared.answered.Duals.{Duals}
use Rattle.market_model.specs.declared.participants.Parts.{Parts}
use Rattle.market_model.specs.declared.limits.Row.{Row}
use Rattle.market_model.specs.LimitRows.{factor_terms, rows, row_id, row_factor}
use Rattle.market_model.specs.NamedSums.{IsRefusal, IsRefusedIn, IsShareRefusal}
use Rattle.market_model.specs.Optimality.{bus_price, up_of, down_of, net_shadow_price, names_row, named_rows, congestion, congestion_terms, congestion_by, price_terms}
use Rattle.market_model.specs.SumTables.{BusPriceSum, congestion_at, factor_at_bus, IsFactorRefusal, OwnPriceSum, price_of_bus, price_of_unit, factor_of_bus}
use Rattle.market_model.proofs.MorePlaces.{sum_by_more}
use Rattle.market_model.proofs.SumSteps.{refusal_same, share_at, two_refused}
use Rattle.limit_rows.proofs.DualLemmas.{up_unnamed, down_unnamed, sum_named, terms_named}
use Rattle.cert_sums.specs.declared.pricing.NamedRow.{NamedRow}
use Rattle.cert_sums.specs.Named.{PricedRow, priced_at, priced_by, AreNamed}
use Rattle.cert_sums.specs.Refusals.{IsNetShadowPriceRefusal, IsPriceRefusal, IsPricesRefusal, IsUnitPriceRefusal}

-- the row that duals name at a place, with its prices
pub record IsNamedAt (m : Parts) (d : Duals Fraction) (k : ℕ) (e : PricedRow) : Type 0 where
  pub inside : k < length (named_rows m d)
  pub at : e.row ≡ get_or (named_rows m d) k e.row
  pub up : e.up ≡ up_of m d e.row
  pub down : e.down ≡ down_of m d e.row

module _ {N : Type 0} (value : N → Fraction) (m : Parts) (d : Duals Fraction) (named : List (NamedRow N)) (are : AreNamed value m d named) where
  pub named_count : length named ≡ length (named_rows m d)
  named_count = sym (length-map named (priced_at value)) ∙ ap length are ∙ length-map (named_rows m d) (priced_by m d)

  pub named_at : (k : ℕ) (e : NamedRow N) → k < length named → e ≡ get_or named k e → IsNamedAt m d k (priced_at value e)
  named_at k e below is =
      let inside : k < length (named_rows m d) = Prim.omega (arith, below, named_count) in
      let same : priced_at value e ≡ priced_by m d (get_or (named_rows m d) k e.row) =
      ap (priced_at value) is ∙ sym (get_or-map (priced_at value) named k e (priced_at value e) below) ∙ ap (λ (es : List PricedRow). get_or es k (priced_at value e)) are
      ∙ get_or-map (priced_by m d) (named_rows m d) k e.row (priced_at value e) inside in
      let at : e.row ≡ get_or (named_rows m d) k e.row = ap (λ (t : PricedRow). t.row) same in
      record {
        inside = inside;
        at = at;
        up = ap (λ (t : PricedRow). t.up) same ∙ ap (up_of m d) (sym at);
        down = ap (λ (t : PricedRow). t.down) same ∙ ap (down_of m d) (sym at);
      }

-- it has the prices that duals give it
pub priced_is : (m : Parts) (d : Duals Fraction) (k : ℕ) (e : PricedRow) → IsNamedAt m d k e → e ≡ priced_by m d e.row
priced_is m d k e h = λ i. record { row = e.row; up = h.up i; down = h.down i }

pub is_named_row : (m : Parts) (d : Duals Fraction) (k : ℕ) (e : PricedRow) → IsNamedAt m d k e → Contains (named_rows m d) e.row
is_named_row m d k e h = (k, h.inside, sym h.at)

pub is_row : (m : Parts) (d : Duals Fraction) (k : ℕ) (e : PricedRow) → IsNamedAt m d k e → Contains (rows m) e.row
is_row m d k e h = (Contains-from_filter (λ s. names_row d.limits (row_id m s)) (rows m) e.row (is_named_row m d k e h)).0

-- ---- the congestion at a bus
-- a factor of 0 takes nothing
pub no_net_price : (s u v k : Fraction) → k ≡ whole (pos 0) → s ≡ s +ℚ neg_ℚ (u -ℚ v) *ℚ k
no_net_price s u v k e = sym (ap (λ t. s +ℚ neg_ℚ (u -ℚ v) *ℚ t) e ∙ ap (λ t. s +ℚ t) (times_nil ring_ℚ (neg_ℚ (u -ℚ v))) ∙ +ℚ_nil s)

-- in its sum, in two prices, or in the factor of a row
abbrev IsCongestionRefusal : Parts → Duals Fraction → ℕ → ℕ → Passed Fraction → Type 0
IsCongestionRefusal m d i bound p = IsRefusedIn (congestion_terms m d i) bound p ⊎ IsPricesRefusal m d bound p ⊎ IsFactorRefusal m (named_rows m d) bound p

module _ (m : Parts) (d : Duals Fraction) (i : ℕ) where
  abbrev term : Row → Term
  term r = Product (neg_ℚ (net_shadow_price m d r)) (row_factor m r i)

  unnamed : (r : Row) → names_row d.limits (row_id m r) ≡ false → term_value (term r) ≡ whole (pos 0)
  unnamed r h =
      ap₂ (λ u v. neg_ℚ (u -ℚ v) *ℚ row_factor m r i) (up_unnamed d.limits (row_id m r) h) (down_unnamed d.limits (row_id m r) h)
      ∙ by_ring ring_ℚ (row_factor m r i ∷ []) (pmul (pneg (padd pnil (pneg pnil))) (at 0)) pnil refl

  -- the sum over the first rows that duals name
  abbrev pub congestion_to : ℕ → Fraction
  congestion_to k = sum_by (λ r. term_value (term r)) (take k (named_rows m d))

  pub congestion_all : (k : ℕ) → length (named_rows m d) ≤ k → congestion_to k ≡ congestion m d i
  unfolding congestion_by
  congestion_all k h =
      ap (sum_by (λ r. term_value (term r))) (take_all k (named_rows m d) h)
      ∙ sym (sum_named m d (λ r. term_value (term r)) (rows m) unnamed) ∙ sym (total-map term (rows m))

  module _ (k : ℕ) (e : PricedRow) (h : IsNamedAt m d k e) where
    net_price_is : neg_ℚ (e.up -ℚ e.down) ≡ neg_ℚ (net_shadow_price m d e.row)
    net_price_is = ap₂ (λ u v. neg_ℚ (u -ℚ v)) h.up h.down

    pub congestion_step : (factor old new : Fraction) → factor ≡ row_factor m e.row i → old ≡ congestion_to k → new ≡ old +ℚ neg_ℚ (e.up -ℚ e.down) *ℚ factor → new ≡ congestion_to (k + 1)
    congestion_step factor old new share before eq =
        eq ∙ ap₂ (λ u v. old +ℚ u *ℚ v) net_price_is share
        ∙ ap (λ s. s +ℚ term_value (term e.row)) before
        ∙ ap (λ (s : Row). congestion_to k +ℚ term_value (term s)) h.at
        ∙ sym (sum_by_more (λ s. term_value (term s)) (named_rows m d) k e.row h.inside)

    pub congestion_refused : (factor sum : Fraction) (bound : ℕ) (p : Passed Fraction) → factor ≡ row_factor m e.row i → sum ≡ congestion_to k → IsNetShadowPriceRefusal sum e.up e.down factor bound p
        → IsCongestionRefusal m d i bound p
    congestion_refused factor sum bound p share before why = by why
      where
        split : (front : List Term) × (rest : List Term) × (map term (rows m) ≡ front ++ term e.row ∷ rest) × (total front ≡ congestion_to k)
        split = terms_named m d term unnamed k e.row h.inside h.at

        by : IsRefusal Minus e.up e.down bound p ⊎ IsShareRefusal sum (neg_ℚ (e.up -ℚ e.down)) factor bound p → IsCongestionRefusal m d i bound p
        by (inl c) = inr (inl (e.row, is_named_row m d k e h, refusal_same Minus e.up e.down (up_of m d e.row) (down_of m d e.row) bound p h.up h.down c))
        by (inr c) = inl
            (share_at (congestion_terms m d i) split.0 split.1 (term e.row) split.2 bound p sum (neg_ℚ (e.up -ℚ e.down)) factor (ap₂ Product (sym net_price_is) (sym share)) (before ∙ sym split.3) c)

    -- the factor of the row
    pub factor_stops : (bound : ℕ) (p : Passed Fraction) → i < length m.buses → IsRefusedIn (factor_terms m e.row i) bound p → IsCongestionRefusal m d i bound p
    factor_stops bound p inside why = inr (inr (e.row, is_named_row m d k e h, (factor_terms m e.row i, factor_of_bus _ (factor_at_bus i inside), why)))

-- what is refused in the congestion is in the price
pub in_congestion : (m : Parts) (d : Duals Fraction) (i : ℕ) (bound : ℕ) (p : Passed Fraction) → IsCongestionRefusal m d i bound p → IsPriceRefusal m d (BusPriceSum m d i) bound p
in_congestion m d i bound p (inl h) = inl (congestion_terms m d i, congestion_at, h)
in_congestion m d i bound p (inr h) = inr h

-- the price of energy and the congestion are added
pub price_refused : (m : Parts) (d : Duals Fraction) (i : ℕ) (bound : ℕ) (p : Passed Fraction) → IsRefusal Plus d.energy (congestion m d i) bound p → IsRefusedIn (price_terms m d i) bound p
price_refused m d i bound p h = two_refused d.energy (congestion m d i) d.energy (congestion m d i) bound p refl refl h

-- ---- what is refused in the price at a bus, or in what a unit's loss takes from that, is in the price of a unit
pub bus_in_unit : (m : Parts) (d : Duals Fraction) (i : ℕ) (bound : ℕ) (p : Passed Fraction) → i < length m.buses → IsPriceRefusal m d (BusPriceSum m d i) bound p → IsUnitPriceRefusal m d bound p
bus_in_unit m d i bound p inside (inl (terms, sum, why)) = inl (terms, price_of_bus i terms inside sum, why)
bus_in_unit m d i bound p inside (inr why) = inr why

pub own_in_unit : (m : Parts) (d : Duals Fraction) (bound : ℕ) (p : Passed Fraction) → IsPriceRefusal m d (OwnPriceSum m d (bus_price m d)) bound p → IsUnitPriceRefusal m d bound p
own_in_unit m d bound p (inl (terms, sum, why)) = inl (terms, price_of_unit terms sum, why)
own_in_unit m d bound p (inr why) = inr why
