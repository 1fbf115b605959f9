-- The bound of duals added up: limit by limit, room by room, block by block and offer by offer.
use Rattle.std.specs.Prelude.{◌≡◌, ◌⊎◌, ℕ, ◌+◌, ◌<◌, ◌≤◌, pos, Bool, true, false, List, [], ◌∷◌, ◌++◌, map, filter, length, take, Contains, if◌then◌else◌, refl}
use Rattle.std.specs.List.{flat_map}
use Rattle.std.proofs.Common.{inl, inr, ap, ap₂, sym, subst, subst₂, ◌∙◌, append_assoc, get_or}
use Rattle.std.proofs.lemmas.List.{take_all}
use Rattle.std.proofs.lemmas.Grind.{flat_map-append}
use Rattle.fraction_theory.specs.Fraction.{Fraction, whole, neg_ℚ, ◌+ℚ◌, ◌-ℚ◌, ◌*ℚ◌}
use Rattle.fraction_theory.specs.Signs.{part_above}
use Rattle.fraction_theory.specs.Sums.{sum_by, Term, Product, total}
use Rattle.fraction_theory.proofs.FieldLaws.{ring_ℚ, +ℚ_nil, +ℚ_assoc}
use Rattle.fraction_theory.proofs.Ring.{by_ring, at, pneg, pnil, ◌⊕◌, ◌⊗◌}
use Rattle.fraction_theory.proofs.SumLaws.{total-append}
use Rattle.exact_fraction.specs.declared.Op.TheVariants.{Minus, Times}
use Rattle.exact_fraction.specs.declared.Passed.{Passed}
use Rattle.market_model.specs.declared.answered.Dual.{Dual}
use Rattle.market_model.specs.declared.answered.Duals.{Duals}
use Rattle.market_model.specs.declared.limits.Row.{Row}
use Rattle.market_model.specs.declared.participants.Parts.{Parts}
use Rattle.market_model.specs.Dispatch.{places, zero, balance, empty, quantity, reserve_quantity, unit_at}
use Rattle.market_model.specs.Infeasibility.{block_most, block_weight, energy_left_terms, farkas_bound, farkas_terms, limit_terms, need_terms, nothing_terms, offer_most, offer_weight, reserve_left_terms}
use Rattle.market_model.specs.LimitRows.{flow, most_flow, row_id, rows}
use Rattle.market_model.specs.Market.{IsMarket}
use Rattle.market_model.specs.NamedSums.{IsRefusal, IsRefusedIn, IsShareRefusal, IsMarginRefusal}
use Rattle.market_model.specs.Optimality.{down_of, named_rows, names_row, own_price, reserve_worth_terms, room_price, room_price_in, unit_price, up_of, worth_terms, ArePricesOf}
use Rattle.market_model.specs.Reserves.{offer_places, offers_reserve, reserve_need, reserve_units, room}
use Rattle.market_model.specs.SumTables.{IsPickupRefusal, IsRefusedAmong, IsRefusedInBusPrices, IsRefusedInPrices, OwnPriceSum, energy_of_unit, factor_of_pickup, farkas_bound_of_all, flow_in_limits, limited_row, own_price_of_unit, price_of_bus, price_of_unit, reserve_of_unit, factor_of_bus}
use Rattle.market_model.proofs.FarkasLaw.{total-flat_map}
use Rattle.market_model.proofs.FarkasParts.{farkas_terms-parts, need_refused as need_refused_in_terms}
use Rattle.market_model.proofs.MorePlaces.{sum_by_more, total-filter_more, total-places_more}
use Rattle.market_model.proofs.RoomLemmas.{offers-listed}
use Rattle.market_model.proofs.SumSteps.{product_at, share_at, terms_at, tested_at, behind, in_front, difference_refused}
use Rattle.limit_rows.proofs.DualLemmas.{IsRowOfDual, sum_named, filter_at}
use Rattle.market_model.proofs.UnitPrices.{at_unit, own_at}
use Rattle.limit_rows.proofs.NamedLimits.{energy_left-by_named, limit_unnamed}
use Rattle.clear_loop.specs.Bounding.{IsFarkasRefusal, IsRowStepRefusal, in_bound, in_flow, in_lower, in_most, in_row_flow, in_row_most, in_upper, in_worth, of_lower, of_most, of_upper, in_prices}

-- ---- limit by limit
-- the lower side, by the flow turned round
pub lower_side : (m : Parts) (r : Row) (up down sum above l f g : Fraction) (bound : ℕ) (p : Passed Fraction) → above ≡ sum +ℚ up *ℚ (l -ℚ f) → l ≡ most_flow m r → f ≡ flow m (empty m) r → g ≡ neg_ℚ f
    → IsMarginRefusal above down l g bound p → IsRowStepRefusal m r up down sum bound p
lower_side m r up down sum above l f g bound p first is flows turned h =
    in_lower
    (subst₂ (λ a b. IsMarginRefusal (sum +ℚ up *ℚ (a -ℚ b)) down a (neg_ℚ b) bound p) is flows (subst₂ (λ a b. IsMarginRefusal a down l b bound p) first turned h))

-- the room of a unit that offers no reserve takes nothing
pub no_room_price : (m : Parts) (d : Duals Fraction) (u : ℕ) (x : Fraction) → offers_reserve m u ≡ false → x ≡ x -ℚ room_price m d u
no_room_price m d u x none_ =
    by_ring ring_ℚ (x ∷ []) (at 0) (at 0 ⊕ pneg pnil) refl ∙ ap (λ (b : Bool). x -ℚ (if b then room_price_in d.rooms (unit_at m u).row else zero)) (sym none_)

pub no_room : (m : Parts) (u : ℕ) (x more : Fraction) → offers_reserve m u ≡ false → x ≡ x +ℚ (if offers_reserve m u then more else zero)
no_room m u x more none_ = sym (+ℚ_nil x) ∙ ap (λ (b : Bool). x +ℚ (if b then more else zero)) (sym none_)

-- what is refused in the prices at buses is refused in prices
pub bus_prices_refused : (m : Parts) (d : Duals Fraction) (bound : ℕ) (p : Passed Fraction) → IsRefusedInBusPrices m d bound p → IsRefusedInPrices m d bound p
bus_prices_refused m d bound p (inl (i, lt, (terms, sum, why))) = inl (terms, price_of_bus i terms lt sum, why)
bus_prices_refused m d bound p (inr (r, named, (terms, sum, why))) = inr (r, named, (terms, factor_of_bus terms sum, why))

-- own prices at the bus prices of duals
module _ (m : Parts) (d : Duals Fraction) (price : ℕ → Fraction) (are : ArePricesOf m d price) (market : IsMarket m) where
  pub own_same : (u : ℕ) → u < length m.units → own_price m d price u ≡ unit_price m d u
  unfolding unit_price
  own_same u lt = at_unit m d price market are u lt

  pub own_refused : (bound : ℕ) (p : Passed Fraction) → IsRefusedAmong (OwnPriceSum m d price) bound p ⊎ IsPickupRefusal m (named_rows m d) bound p → IsRefusedInPrices m d bound p
  own_refused bound p (inl (_, own_price_of_unit u lt, why)) = inl (_, price_of_unit _ (own_price_of_unit u lt), subst (λ (ts : List Term). IsRefusedIn ts bound p) (own_at m d price market are u lt) why)
  own_refused bound p (inr (r, named, (terms, sum, why))) = inr (r, named, (terms, factor_of_pickup terms sum, why))

module _ (m : Parts) (d : Duals Fraction) where
  abbrev energy_term : Term
  energy_term = Product d.energy (balance m (empty m))

  abbrev left : Row → Fraction
  left r = total (limit_terms m d r)

  abbrev block_terms : List Term
  block_terms = map (block_most m d) (places (length m.blocks))

  abbrev offer_terms : List Term
  offer_terms = map (offer_most m d) (offer_places m)

  -- the terms behind those of limits
  abbrev behind_limits : List Term
  behind_limits = reserve_left_terms m d ++ (block_terms ++ offer_terms)

  -- ---- the price of energy by the balance
  pub energy_refused : (b : Fraction) (bound : ℕ) (p : Passed Fraction) → b ≡ balance m (empty m) → IsRefusal Times d.energy b bound p → IsFarkasRefusal m d bound p
  energy_refused b bound p is h =
      in_bound
      (_, farkas_bound_of_all, product_at (farkas_terms m d) [] (flat_map (limit_terms m d) (rows m) ++ behind_limits) energy_term (farkas_terms-parts m d) bound p d.energy b (ap (Product d.energy) (sym is)) refl h)

  -- ---- the limits
  -- what the price of energy makes, with the first rows that duals name
  abbrev pub limits_to : ℕ → Fraction
  limits_to k = d.energy *ℚ balance m (empty m) +ℚ sum_by left (take k (named_rows m d))

  pub limits_none : (s : Fraction) → s ≡ d.energy *ℚ balance m (empty m) → s ≡ limits_to 0
  limits_none s e = e ∙ sym (+ℚ_nil (d.energy *ℚ balance m (empty m)))

  pub limits_all : (k : ℕ) → length (named_rows m d) ≤ k → limits_to k ≡ total (energy_left_terms m d)
  limits_all k h = ap (λ (rs : List Row). d.energy *ℚ balance m (empty m) +ℚ sum_by left rs) (take_all k (named_rows m d) h) ∙ sym (energy_left-by_named m d)

  -- what the two prices of a row make, one added behind the other
  pub sides_sum : (r : Row) (up down sum above more l f g : Fraction) → up_of m d r ≡ up → down_of m d r ≡ down → l ≡ most_flow m r → f ≡ flow m (empty m) r → g ≡ neg_ℚ f → above ≡ sum +ℚ up *ℚ (l -ℚ f)
      → more ≡ above +ℚ down *ℚ (l -ℚ g) → more ≡ sum +ℚ left r
  sides_sum r up down sum above more l f g u v is flows turned first second =
      second ∙ ap₂ (λ a b. a +ℚ down *ℚ (l -ℚ b)) first turned
      ∙ by_ring ring_ℚ (sum ∷ up ∷ down ∷ l ∷ f ∷ []) ((at 0 ⊕ at 1 ⊗ (at 3 ⊕ pneg (at 4))) ⊕ at 2 ⊗ (at 3 ⊕ pneg (pneg (at 4)))) (at 0 ⊕ (at 1 ⊗ (at 3 ⊕ pneg (at 4)) ⊕ (at 2 ⊗ (at 3 ⊕ at 4) ⊕ pnil))) refl
      ∙ ap₂ (λ a b. sum +ℚ (a *ℚ (l -ℚ f) +ℚ (b *ℚ (l +ℚ f) +ℚ whole (pos 0)))) (sym u) (sym v)
      ∙ ap₂ (λ a b. sum +ℚ (up_of m d r *ℚ (a -ℚ b) +ℚ (down_of m d r *ℚ (a +ℚ b) +ℚ whole (pos 0)))) is flows

  module _ (k : ℕ) (e : Dual Fraction) (r : Row) (h : IsRowOfDual m d k e r) where
    pub limits_step : (old new : Fraction) → old ≡ limits_to k → new ≡ old +ℚ left r → new ≡ limits_to (k + 1)
    limits_step old new before eq =
        eq ∙ ap (λ t. t +ℚ left r) before
        ∙ +ℚ_assoc (d.energy *ℚ balance m (empty m)) (sum_by left (take k (named_rows m d))) (left r)
        ∙ ap (λ t. d.energy *ℚ balance m (empty m) +ℚ t)
        (ap (λ (s : Row). sum_by left (take k (named_rows m d)) +ℚ left s) h.at ∙ sym (sum_by_more left (named_rows m d) k r h.inside))

    named_here : Contains (named_rows m d) r
    named_here = (k, h.inside, sym h.at)

    module _ (sum : Fraction) (bound : ℕ) (p : Passed Fraction) (before : sum ≡ limits_to k) where
      abbrev room_above : Fraction
      room_above = most_flow m r -ℚ flow m (empty m) r

      abbrev room_below : Fraction
      room_below = most_flow m r +ℚ flow m (empty m) r

      abbrev above : Term
      above = Product (up_of m d r) room_above

      abbrev below : Term
      below = Product (down_of m d r) room_below

      -- the rows round this one
      abbrev round : (front : List Row) × (rest : List Row) × (rows m ≡ front ++ get_or (named_rows m d) k r ∷ rest) × (filter (λ t. names_row d.limits (row_id m t)) front ≡ take k (named_rows m d))
      round = filter_at (λ t. names_row d.limits (row_id m t)) (rows m) k r h.inside

      abbrev front : List Term
      front = energy_term ∷ flat_map (limit_terms m d) round.0

      abbrev rest : List Term
      rest = flat_map (limit_terms m d) round.1 ++ behind_limits

      split : farkas_terms m d ≡ front ++ (limit_terms m d r ++ rest)
      split =
          (farkas_terms-parts m d)
          ∙ ap (λ (rs : List Row). energy_term ∷ (flat_map (limit_terms m d) rs ++ behind_limits)) (round.2 ∙ ap (λ (t : Row). round.0 ++ t ∷ round.1) (sym h.at))
          ∙ ap (λ ts. energy_term ∷ (ts ++ behind_limits)) (flat_map-append (limit_terms m d) round.0 (r ∷ round.1))
          ∙ ap (λ ts. energy_term ∷ ts) (append_assoc (flat_map (limit_terms m d) round.0) (limit_terms m d r ++ flat_map (limit_terms m d) round.1) behind_limits)

      sum_is : sum ≡ total front
      sum_is =
          before
          ∙ sym (ap (λ t. d.energy *ℚ balance m (empty m) +ℚ t) (total-flat_map (limit_terms m d) round.0 ∙ sum_named m d left round.0 (limit_unnamed m d) ∙ ap (sum_by left) round.3))

      added : IsRefusedIn (farkas_terms m d) bound p → IsFarkasRefusal m d bound p
      added why = in_bound (_, farkas_bound_of_all, why)

      upper_refused : IsMarginRefusal sum e.up (most_flow m r) (flow m (empty m) r) bound p → IsFarkasRefusal m d bound p
      upper_refused (inl c) = in_most r named_here (of_upper c)
      upper_refused (inr c) = added (share_at (farkas_terms m d) front (below ∷ rest) above split bound p sum e.up room_above (ap (λ u. Product u room_above) h.up) sum_is c)

      second : farkas_terms m d ≡ (front ++ above ∷ []) ++ below ∷ rest
      second = split ∙ sym (append_assoc front (above ∷ []) (below ∷ rest))

      with_above : sum +ℚ e.up *ℚ room_above ≡ total (front ++ above ∷ [])
      with_above =
          ap₂ ◌+ℚ◌ sum_is (ap (λ u. u *ℚ room_above) (sym h.up) ∙ sym (+ℚ_nil (up_of m d r *ℚ room_above)))
          ∙ sym (total-append front (above ∷ []))

      turned_back : most_flow m r -ℚ neg_ℚ (flow m (empty m) r) ≡ room_below
      turned_back = by_ring ring_ℚ (most_flow m r ∷ flow m (empty m) r ∷ []) (at 0 ⊕ pneg (pneg (at 1))) (at 0 ⊕ at 1) refl

      lower_refused : IsMarginRefusal (sum +ℚ e.up *ℚ room_above) e.down (most_flow m r) (neg_ℚ (flow m (empty m) r)) bound p → IsFarkasRefusal m d bound p
      lower_refused (inl c) = in_most r named_here (of_lower c)
      lower_refused (inr c) = added
          (share_at (farkas_terms m d) (front ++ above ∷ []) rest below second bound p (sum +ℚ e.up *ℚ room_above) e.down (most_flow m r -ℚ neg_ℚ (flow m (empty m) r)) (ap₂ Product h.down (sym turned_back)) with_above c)

      pub limit_refused : IsRowStepRefusal m r e.up e.down sum bound p → IsFarkasRefusal m d bound p
      limit_refused (in_row_flow (inl (terms, part, c))) = in_flow (terms, flow_in_limits terms (limited_row r terms h.row part), c)
      limit_refused (in_row_flow (inr (terms, part, c))) = in_prices (inr (r, named_here, (terms, factor_of_pickup terms part, c)))
      limit_refused (in_row_most c) = in_most r named_here (of_most c)
      limit_refused (in_upper c) = upper_refused c
      limit_refused (in_lower c) = lower_refused c

  -- ---- the need
  abbrev room_term : ℕ → Term
  room_term u = Product (room_price m d u) (room m u)

  abbrev room_terms : List Term
  room_terms = map room_term (reserve_units m)

  abbrev behind_rooms : List Term
  behind_rooms = block_terms ++ offer_terms

  pub need_refused : m.reserve.listed ≡ true → (sum : Fraction) (bound : ℕ) (p : Passed Fraction) → sum ≡ total (energy_left_terms m d) → IsShareRefusal sum d.reserve (neg_ℚ (reserve_need m)) bound p
      → IsFarkasRefusal m d bound p
  need_refused listed sum bound p before h = in_bound (_, farkas_bound_of_all, need_refused_in_terms m d listed sum bound p before h)

  -- ---- the rooms
  abbrev before_rooms : List Term
  before_rooms = energy_left_terms m d ++ need_terms m d

  abbrev rooms_before : ℕ → List Term
  rooms_before k = map room_term (filter (offers_reserve m) (places k))

  -- with those of the first units
  abbrev pub rooms_to : ℕ → Fraction
  rooms_to k = total before_rooms +ℚ total (rooms_before k)

  pub rooms_none : (s : Fraction) → s ≡ total before_rooms → s ≡ rooms_to 0
  rooms_none s e = e ∙ sym (+ℚ_nil (total before_rooms))

  nothing_is : nothing_terms m d ≡ before_rooms ++ room_terms
  nothing_is = sym (append_assoc (energy_left_terms m d) (need_terms m d) room_terms)

  pub rooms_all : rooms_to (length m.units) ≡ total (nothing_terms m d)
  rooms_all = sym (total-append before_rooms room_terms) ∙ ap total (sym nothing_is)

  pub room_step : (k : ℕ) (old new : Fraction) → old ≡ rooms_to k → new ≡ old +ℚ (if offers_reserve m k then room_price m d k *ℚ room m k else zero) → new ≡ rooms_to (k + 1)
  room_step k old new before eq =
      let more : Fraction = if offers_reserve m k then room_price m d k *ℚ room m k else zero in
      eq ∙ ap (λ t. t +ℚ more) before ∙ +ℚ_assoc (total before_rooms) (total (rooms_before k)) more
      ∙ ap (λ t. total before_rooms +ℚ t) (sym (total-filter_more (offers_reserve m) room_term k))

  pub room_refused : (k : ℕ) (sum : Fraction) (bound : ℕ) (p : Passed Fraction) → k < length m.units → offers_reserve m k ≡ true → sum ≡ rooms_to k → IsShareRefusal sum (room_price m d k) (room m k) bound p
      → IsFarkasRefusal m d bound p
  room_refused k sum bound p lt offers before h =
      let t = tested_at (offers_reserve m) room_term (length m.units) k lt offers in
      in_bound (
        _,
        farkas_bound_of_all,
        share_at (farkas_terms m d) (before_rooms ++ rooms_before k) (t.0 ++ behind_rooms) (room_term k)
            (append_assoc (nothing_terms m d) block_terms offer_terms ∙ ap (λ ts. ts ++ behind_rooms) nothing_is
            ∙ in_front (before_rooms ++ room_terms) (before_rooms ++ rooms_before k) t.0 behind_rooms (room_term k) (behind before_rooms room_terms (rooms_before k) t.0 (room_term k) t.1))
            bound p sum (room_price m d k) (room m k) refl (before ∙ sym (total-append before_rooms (rooms_before k))) h,
      )

  -- ---- what a MW of a unit that offers reserve is worth
  module _ (u : ℕ) (lt : u < length m.units) (offers : offers_reserve m u ≡ true) (bound : ℕ) (p : Passed Fraction) where
    pub energy_refused_there : (price : Fraction) → price ≡ unit_price m d u → IsRefusal Minus price (room_price m d u) bound p → IsFarkasRefusal m d bound p
    energy_refused_there price is h = in_worth (
      worth_terms m d u,
      energy_of_unit u (offers-listed m u lt offers),
      difference_refused (unit_price m d u) (room_price m d u) price (room_price m d u) bound p is refl h,
    )

    pub reserve_refused_there : IsRefusal Minus d.reserve (room_price m d u) bound p → IsFarkasRefusal m d bound p
    reserve_refused_there h = in_worth (
      reserve_worth_terms m d u,
      reserve_of_unit u (offers-listed m u lt offers),
      difference_refused d.reserve (room_price m d u) d.reserve (room_price m d u) bound p refl refl h,
    )

  -- ---- the blocks
  abbrev pub blocks_to : ℕ → Fraction
  blocks_to k = total (nothing_terms m d) +ℚ total (map (block_most m d) (places k))

  pub blocks_none : (s : Fraction) → s ≡ total (nothing_terms m d) → s ≡ blocks_to 0
  blocks_none s e = e ∙ sym (+ℚ_nil (total (nothing_terms m d)))

  pub blocks_all : blocks_to (length m.blocks) ≡ total (nothing_terms m d ++ block_terms)
  blocks_all = sym (total-append (nothing_terms m d) block_terms)

  module _ (k : ℕ) (weight mw : Fraction) (weighs : weight ≡ block_weight m d k) (is : mw ≡ quantity m k) where
    pub block_step : (old new : Fraction) → old ≡ blocks_to k → new ≡ old +ℚ part_above weight *ℚ mw → new ≡ blocks_to (k + 1)
    block_step old new before eq =
        eq ∙ ap₂ (λ w q. old +ℚ part_above w *ℚ q) weighs is
        ∙ ap (λ t. t +ℚ part_above (block_weight m d k) *ℚ quantity m k) before
        ∙ +ℚ_assoc (total (nothing_terms m d)) (total (map (block_most m d) (places k))) (part_above (block_weight m d k) *ℚ quantity m k)
        ∙ ap (λ t. total (nothing_terms m d) +ℚ t) (sym (total-places_more (block_most m d) k))

    pub block_refused : (sum : Fraction) (bound : ℕ) (p : Passed Fraction) → k < length m.blocks → sum ≡ blocks_to k → IsShareRefusal sum (part_above weight) mw bound p → IsFarkasRefusal m d bound p
    block_refused sum bound p inside before why =
        let r = terms_at (block_most m d) (length m.blocks) k inside in
        let front : List Term = nothing_terms m d ++ map (block_most m d) (places k) in
        let split : farkas_terms m d ≡ front ++ block_most m d k ∷ (r.0 ++ offer_terms) =
        in_front (nothing_terms m d ++ block_terms) front r.0 offer_terms (block_most m d k)
        (behind (nothing_terms m d) block_terms (map (block_most m d) (places k)) r.0 (block_most m d k) r.1) in
        in_bound (
          _,
          farkas_bound_of_all,
          share_at (farkas_terms m d) front (r.0 ++ offer_terms) (block_most m d k) split bound p sum (part_above weight) mw
              (ap₂ (λ w q. Product (part_above w) q) (sym weighs) (sym is)) (before ∙ sym (total-append (nothing_terms m d) (map (block_most m d) (places k)))) why,
        )

  -- ---- the offers of reserve
  abbrev before_offers : List Term
  before_offers = nothing_terms m d ++ block_terms

  abbrev pub offers_to : ℕ → Fraction
  offers_to k = total before_offers +ℚ total (map (offer_most m d) (places k))

  pub offers_none : (s : Fraction) → s ≡ total before_offers → s ≡ offers_to 0
  offers_none s e = e ∙ sym (+ℚ_nil (total before_offers))

  pub offers_all : offers_to (length m.reserve.offers) ≡ farkas_bound m d
  unfolding farkas_bound
  offers_all = sym (total-append before_offers offer_terms)

  module _ (k : ℕ) (weight mw : Fraction) (weighs : weight ≡ offer_weight m d k) (is : mw ≡ reserve_quantity m k) where
    pub offer_step : (old new : Fraction) → old ≡ offers_to k → new ≡ old +ℚ part_above weight *ℚ mw → new ≡ offers_to (k + 1)
    offer_step old new before eq =
        eq ∙ ap₂ (λ w q. old +ℚ part_above w *ℚ q) weighs is
        ∙ ap (λ t. t +ℚ part_above (offer_weight m d k) *ℚ reserve_quantity m k) before
        ∙ +ℚ_assoc (total before_offers) (total (map (offer_most m d) (places k))) (part_above (offer_weight m d k) *ℚ reserve_quantity m k)
        ∙ ap (λ t. total before_offers +ℚ t) (sym (total-places_more (offer_most m d) k))

    pub offer_refused : (sum : Fraction) (bound : ℕ) (p : Passed Fraction) → k < length m.reserve.offers → sum ≡ offers_to k → IsShareRefusal sum (part_above weight) mw bound p → IsFarkasRefusal m d bound p
    offer_refused sum bound p inside before why =
        let r = terms_at (offer_most m d) (length m.reserve.offers) k inside in
        in_bound (
          _,
          farkas_bound_of_all,
          share_at (farkas_terms m d) (before_offers ++ map (offer_most m d) (places k)) r.0 (offer_most m d k)
              (behind before_offers offer_terms (map (offer_most m d) (places k)) r.0 (offer_most m d k) r.1)
              bound p sum (part_above weight) mw (ap₂ (λ w q. Product (part_above w) q) (sym weighs) (sym is))
              (before ∙ sym (total-append before_offers (map (offer_most m d) (places k)))) why,
        )
