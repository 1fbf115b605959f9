-- Steps of the own price of a unit, dual by dual.
use Rattle.std.specs.Prelude.{◌≡◌, ◌≢◌, ◌⊎◌, ℕ, ◌+◌, ◌<◌, ◌≤◌, ◌==◌, pos, Bool, true, false, cond, List, [], ◌∷◌, ◌++◌, map, filter, length, take, if◌then◌else◌, refl}
use Rattle.std.proofs.Common.{arith, ap, ap₂, inl, inr, sym, subst, ◌∙◌, get_or, set}
use Rattle.std.proofs.lemmas.Bool.{eq-eqb, ne_eqb}
use Rattle.std.proofs.lemmas.List.{get_or-map, get_or-set_same, get_or-set_other, length-set, map-append, take_all}
use Rattle.std.proofs.lemmas.List.Elements.{filter-append}
use Rattle.fraction_theory.specs.Fraction.{Fraction, whole, neg_ℚ, ◌+ℚ◌, ◌-ℚ◌, ◌*ℚ◌}
use Rattle.fraction_theory.specs.Sums.{sum_by, Term, Plain, Product, term_value}
use Rattle.fraction_theory.proofs.FieldLaws.{ring_ℚ, +ℚ_assoc, +ℚ_nil}
use Rattle.fraction_theory.proofs.ListSums.{kept, same_or_not, sum_by-filter}
use Rattle.fraction_theory.proofs.Ring.{by_ring, at, padd, pmul, pneg, pnil}
use Rattle.fraction_theory.proofs.SumLaws.{total-map}
use Rattle.exact_fraction.specs.declared.Passed.{Passed}
use Rattle.market_model.specs.declared.answered.Dual.{Dual}
use Rattle.market_model.specs.declared.answered.Duals.{Duals}
use Rattle.market_model.specs.declared.answered.Price.{Price}
use Rattle.market_model.specs.declared.limits.Cause.{Cause}
use Rattle.market_model.specs.declared.limits.Cause.TheVariants.{Base, Branch, UnitOutage}
use Rattle.market_model.specs.declared.limits.Row.{Row}
use Rattle.market_model.specs.declared.participants.Parts.{Parts}
use Rattle.market_model.specs.Dispatch.{places, unit_at}
use Rattle.market_model.specs.LimitRows.{IsCauseOf, loses_unit, lost_unit, pickup_factor, row_id, row_pickup, rows, unit_of}
use Rattle.market_model.specs.Market.{IsMarket}
use Rattle.market_model.specs.NamedSums.{IsRefusedIn, IsShareRefusal}
use Rattle.market_model.specs.Optimality.{names_row, named_rows, net_shadow_price, own_price, own_terms}
use Rattle.market_model.specs.SumTables.{IsPickupRefusal, IsRefusedAmong, OwnPriceSum, PickupSum, own_price_of_unit}
use Rattle.market_model.specs.Valued.{total_at}
use Rattle.market_model.proofs.MorePlaces.{sum_by_more}
use Rattle.market_model.proofs.PlaceLists.{all_put, filled_at, put_read}
use Rattle.market_model.proofs.RowMembers.{lost_unit-in}
use Rattle.market_model.proofs.SumSteps.{share_at}
use Rattle.limit_rows.proofs.DualLemmas.{IsRowOfDual, up_unnamed, down_unnamed, sum_named, filter_at}
use Rattle.bus_prices.specs.PriceParts.{added_to_own}

-- a price that was read by its place
pub price_is : {N : Type 0} (value : N → Fraction) (prices : List (Price N)) (i : ℕ) (p : Price N) → i < length prices → total_at value prices i ≡ value (get_or prices i p).total
price_is value prices i p h = get_or-map (λ (q : Price _). value q.total) prices i p (whole (pos 0)) h

-- ---- a list by place, of which one place is set
pub one_set : {N : Type 0} (value : N → Fraction) (before after : ℕ → Fraction) (n i : ℕ) (out : List N) (x : N) → length out ≡ n → i < n → map value out ≡ map before (places n)
    → value x ≡ after i → ((k : ℕ) → k ≢ i → after k ≡ before k) → map value (set out i x) ≡ map after (places n)
one_set value before after n i out x count inside all here others = all_put value after (set out i x) n n (length-set out i x ∙ count) (Prim.omega arith) each
  where
    each : (k : ℕ) (d : _) → k < n → value (get_or (set out i x) k d) ≡ after k
    each k d lt = elim (same_or_not k i) [
      | inl e ↦ ap (λ (j : ℕ). value (get_or (set out i x) j d)) e ∙ ap value (get_or-set_same out i x d (Prim.omega (arith, inside, count))) ∙ here ∙ ap after (sym e)
      | inr other ↦
          ap value (get_or-set_other out i k x d other) ∙ sym (get_or-map value out k d (whole (pos 0)) (Prim.omega (arith, lt, count)))
          ∙ filled_at before (map value out) n (whole (pos 0)) all k lt ∙ sym (others k other)
    ]

-- a number of such a list, read
pub own_read : {N : Type 0} (value : N → Fraction) (f : ℕ → Fraction) (n i : ℕ) (out : List N) (x : N) → length out ≡ n → i < n → map value out ≡ map f (places n) → x ≡ get_or out i x → value x ≡ f i
own_read value f n i out x count inside all is = put_read value out i x (Prim.omega (arith, inside, count)) is ∙ filled_at f (map value out) n (whole (pos 0)) all i inside

-- ---- what a price of a row adds
module _ (m : Parts) (r : Row) (price : Fraction) where
  module _ (k : ℕ) (is : r.cause ≡ UnitOutage k) where
    added_at : (u : ℕ) → added_to_own m r price u ≡ (if lost_unit m k == u then price *ℚ pickup_factor m r.line k else whole (pos 0))
    added_at u = ap (λ (cause : Cause). if loses_unit m u cause then price *ℚ row_pickup m r.line cause else whole (pos 0)) is

    pub added_here : (u : ℕ) → u ≡ lost_unit m k → added_to_own m r price u ≡ price *ℚ pickup_factor m r.line k
    added_here u e = added_at u ∙ ap (λ (b : Bool). if b then price *ℚ pickup_factor m r.line k else whole (pos 0)) (eq-eqb (lost_unit m k) u (sym e))

    pub added_elsewhere : (u v : ℕ) → v ≡ lost_unit m k → u ≢ v → added_to_own m r price u ≡ whole (pos 0)
    added_elsewhere u v e other =
        added_at u ∙ ap (λ (b : Bool). if b then price *ℚ pickup_factor m r.line k else whole (pos 0)) (ne_eqb (lost_unit m k) u (λ same. other (sym (e ∙ same))))

    pub loses_here : (u : ℕ) → u ≡ lost_unit m k → loses_unit m u r.cause ≡ true
    loses_here u e = ap (loses_unit m u) is ∙ eq-eqb (lost_unit m k) u (sym e)

    pub pickup_here : row_pickup m r.line r.cause ≡ pickup_factor m r.line k
    pickup_here = ap (row_pickup m r.line) is

  pub none_added : (u : ℕ) → loses_unit m u r.cause ≡ false → added_to_own m r price u ≡ whole (pos 0)
  none_added u e = ap (λ (b : Bool). if b then price *ℚ row_pickup m r.line r.cause else whole (pos 0)) e

-- a cause that is no loss of a unit loses none
pub no_loss : (m : Parts) (cause : Cause) → ((k : ℕ) → cause ≢ UnitOutage k) → (u : ℕ) → loses_unit m u cause ≡ false
no_loss m Base none u = refl
no_loss m (Branch lost) none u = refl
no_loss m (UnitOutage k) none u = absurd (none k refl)

-- a cause of which the name tells no unit loses none
pub no_unit : (m : Parts) → IsMarket m → (cause : Cause) → IsCauseOf m cause → unit_of m cause ≡ 0 → (u : ℕ) → loses_unit m u cause ≡ false
no_unit m market Base among e u = refl
no_unit m market (Branch lost) among e u = refl
no_unit m market (UnitOutage k) among e u =
    let row = (market.units (lost_unit m k) (record { row = 0; bus = 0; fixed = pos 0; up = pos 0; down = pos 0 }) (lost_unit-in m market k among)).row in absurd (Prim.omega (arith, row, e))

-- ---- the own price of a unit
module _ (m : Parts) (d : Duals Fraction) (price : ℕ → Fraction) (u : ℕ) where
  abbrev taken_term : Row → Term
  taken_term r = Product (neg_ℚ (net_shadow_price m d r)) (row_pickup m r.line r.cause)

  abbrev lost_in : Row → Bool
  lost_in r = loses_unit m u r.cause

  -- what a row adds to it
  abbrev share : Row → Fraction
  share r = kept (loses_unit m u r.cause) (term_value (taken_term r))

  unnamed : (r : Row) → names_row d.limits (row_id m r) ≡ false → share r ≡ whole (pos 0)
  unnamed r h =
      ap (kept (lost_in r))
      (ap₂ (λ s t. neg_ℚ (s -ℚ t) *ℚ row_pickup m r.line r.cause) (up_unnamed d.limits (row_id m r) h) (down_unnamed d.limits (row_id m r) h)
      ∙ by_ring ring_ℚ (row_pickup m r.line r.cause ∷ []) (pmul (pneg (padd pnil (pneg pnil))) (at 0)) pnil refl)
      ∙ by (lost_in r)
    where
      by : (b : Bool) → kept b (whole (pos 0)) ≡ whole (pos 0)
      by true = refl
      by false = refl

  -- the price of its bus, with what the first rows that duals name add
  abbrev pub own_to : ℕ → Fraction
  own_to k = price (unit_at m u).bus +ℚ sum_by share (take k (named_rows m d))

  pub own_none : price (unit_at m u).bus ≡ own_to 0
  own_none = sym (+ℚ_nil (price (unit_at m u).bus))

  module _ (k : ℕ) (e : Dual Fraction) (r : Row) (h : IsRowOfDual m d k e r) where
    next_share : own_to k +ℚ share r ≡ own_to (k + 1)
    next_share =
        +ℚ_assoc (price (unit_at m u).bus) (sum_by share (take k (named_rows m d))) (share r)
        ∙ ap (λ t. price (unit_at m u).bus +ℚ t)
        (ap (λ (s : Row). sum_by share (take k (named_rows m d)) +ℚ share s) h.at ∙ sym (sum_by_more share (named_rows m d) k r h.inside))

    -- after no loss of the unit nothing is added
    pub own_same : loses_unit m u r.cause ≡ false → own_to k ≡ own_to (k + 1)
    own_same none = sym (+ℚ_nil (own_to k)) ∙ ap (λ t. own_to k +ℚ t) (sym (ap (λ (b : Bool). kept b (term_value (taken_term r))) none)) ∙ next_share

    module _ (s : Row) (net : Fraction) (net_is : net ≡ neg_ℚ (e.up -ℚ e.down)) (same : s ≡ r) where
      net_price : net ≡ neg_ℚ (net_shadow_price m d r)
      net_price = net_is ∙ ap₂ (λ v w. neg_ℚ (v -ℚ w)) (sym h.up) (sym h.down)

      pub own_step : own_to k +ℚ added_to_own m s net u ≡ own_to (k + 1)
      own_step = ap₂ (λ (t : Row) v. own_to k +ℚ added_to_own m t v u) same net_price ∙ next_share

      pub own_refused : (bound : ℕ) (p : Passed Fraction) → loses_unit m u s.cause ≡ true → IsShareRefusal (own_to k) net (row_pickup m s.line s.cause) bound p → IsRefusedIn (own_terms m d price u) bound p
      own_refused bound p lost why =
          share_at (own_terms m d price u) front_terms (map taken_term (filter lost_in around.1)) (taken_term r) split bound p (own_to k) net (row_pickup m s.line s.cause)
          (ap₂ (λ v (t : Row). Product v (row_pickup m t.line t.cause)) (sym net_price) (sym same)) sum_is why
        where
          around : (front : List Row) × (rest : List Row) × (rows m ≡ front ++ get_or (named_rows m d) k r ∷ rest) × (filter (λ t. names_row d.limits (row_id m t)) front ≡ take k (named_rows m d))
          around = filter_at (λ t. names_row d.limits (row_id m t)) (rows m) k r h.inside

          front_terms : List Term
          front_terms = Plain (price (unit_at m u).bus) ∷ map taken_term (filter lost_in around.0)

          kept_here : filter lost_in (rows m) ≡ filter lost_in around.0 ++ r ∷ filter lost_in around.1
          kept_here =
              ap (filter lost_in) (around.2 ∙ ap (λ (t : Row). around.0 ++ t ∷ around.1) (sym h.at)) ∙ filter-append lost_in around.0 (r ∷ around.1)
              ∙ ap (λ (b : Bool). filter lost_in around.0 ++ cond b (r ∷ filter lost_in around.1) (filter lost_in around.1)) (ap (λ (t : Row). lost_in t) (sym same) ∙ lost)

          split : own_terms m d price u ≡ front_terms ++ taken_term r ∷ map taken_term (filter lost_in around.1)
          split =
              ap (λ ts. Plain (price (unit_at m u).bus) ∷ ts) (ap (map taken_term) kept_here ∙ map-append taken_term (filter lost_in around.0) (r ∷ filter lost_in around.1))

          sum_is : own_to k ≡ price (unit_at m u).bus +ℚ sum_by term_value (map taken_term (filter lost_in around.0))
          sum_is =
              ap (λ t. price (unit_at m u).bus +ℚ t)
              (ap (sum_by share) (sym around.3) ∙ sym (sum_named m d share around.0 unnamed)
              ∙ sym (sum_by-filter (λ t. term_value (taken_term t)) lost_in around.0) ∙ sym (total-map taken_term (filter lost_in around.0)))

  pub own_all : (k : ℕ) → length (named_rows m d) ≤ k → own_to k ≡ own_price m d price u
  own_all k most =
      ap (λ t. price (unit_at m u).bus +ℚ t)
      (ap (sum_by share) (take_all k (named_rows m d) most) ∙ sym (sum_named m d share (rows m) unnamed)
      ∙ sym (sum_by-filter (λ t. term_value (taken_term t)) lost_in (rows m)) ∙ sym (total-map taken_term (filter lost_in (rows m))))

-- what a row adds is refused at the unit that it loses, or in its pickup factor
pub share_refused : (m : Parts) (d : Duals Fraction) (price : ℕ → Fraction) (k : ℕ) (e : Dual Fraction) (r s : Row) (net : Fraction) (bound : ℕ) (p : Passed Fraction) → IsRowOfDual m d k e r
    → net ≡ neg_ℚ (e.up -ℚ e.down) → s ≡ r
    → ((u : ℕ) × (u < length m.units) × (loses_unit m u s.cause ≡ true) × IsShareRefusal (own_to m d price u k) net (row_pickup m s.line s.cause) bound p) ⊎ IsRefusedAmong (PickupSum m s) bound p
    → IsRefusedAmong (OwnPriceSum m d price) bound p ⊎ IsPickupRefusal m (named_rows m d) bound p
share_refused m d price k e r s net bound p h is same (inl (u, inside, lost, why)) =
    inl (own_terms m d price u, own_price_of_unit u inside, own_refused m d price u k e r h s net is same bound p lost why)
share_refused m d price k e r s net bound p h is same (inr why) =
    inr (r, (k, h.inside, sym h.at), subst (λ (t : Row). IsRefusedAmong (PickupSum m t) bound p) same why)
