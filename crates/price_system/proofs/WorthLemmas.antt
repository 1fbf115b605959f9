-- What the rows of the system of prices make of a point: what MW are worth at the prices of which its columns are the opposites.
use Rattle.std.specs.Prelude.{◌≡◌, ◌≢◌, ℕ, ◌<◌, pos, Bool, true, false, List, [], ◌∷◌, length, map, if◌then◌else◌, Contains, refl}
use Rattle.std.proofs.Common.{arith, ap, ap₂, sym, ◌∙◌, inl, inr}
use Rattle.std.proofs.lemmas.Bool.Decides.{eqb_tells}
use Rattle.std.proofs.lemmas.List.{map-append}
use Rattle.fraction_theory.specs.Fraction.{Fraction, whole, neg_ℚ, ◌+ℚ◌, ◌-ℚ◌, ◌*ℚ◌}
use Rattle.fraction_theory.specs.Sums.{sum_by}
use Rattle.fraction_theory.proofs.FieldLaws.{ring_ℚ}
use Rattle.fraction_theory.proofs.ListSums.{sum_by-members}
use Rattle.fraction_theory.proofs.Ring.{by_ring, at, pnil, pone, pneg, ◌⊕◌, ◌⊗◌}
use Rattle.fraction_theory.proofs.SumLaws.{sum_by-append, sum_by-nil, sum_by-times, total-Product}
use Rattle.linear_system.specs.Systems.{System, activity}
use Rattle.market_model.specs.declared.answered.Duals.{Duals}
use Rattle.market_model.specs.declared.limits.Row.{Row}
use Rattle.market_model.specs.declared.participants.Parts.{Parts}
use Rattle.market_model.specs.Dispatch.{Dispatch, block_at, offer_at, zero}
use Rattle.market_model.specs.LimitRows.{rows, unit_factor}
use Rattle.market_model.specs.Market.{IsMarket}
use Rattle.market_model.specs.Optimality.{congestion_by, down_of, energy_worth, net_shadow_price, price_by, reserve_worth, room_price, up_of}
use Rattle.market_model.specs.Reserves.{offers_reserve, reserve_units}
use Rattle.market_model.proofs.ListSteps.{map-map}
use Rattle.market_model.proofs.RoomLemmas.{listed-offers, offers-listed}
use Rattle.market_model.proofs.RowLaws.{unit_price-by_factors}
use Rattle.limit_rows.proofs.ApartLemmas.{names_apart}
use Rattle.market_system.specs.MarketSystem.{at_unit}
use Rattle.market_system.proofs.DualLists.{reserve_unit-below, rows_apart}
use Rattle.market_system.proofs.RowOrder.{RowsApart}
use Rattle.market_system.proofs.RowSums.{sum_by-alone}
use Rattle.market_system.proofs.VariableLaws.{units_ascend}
use Rattle.one_price.specs.FirstPrices.{sum_of_prices}
use Rattle.price_system.specs.PriceSystem.{Caps, block_name, coefficient, column_price, down_name, high, low, name, offer_name, price_system, room_name, sum_name, up_name}
use Rattle.price_system.specs.declared.variables.Variable.{Variable}
use Rattle.price_system.specs.declared.variables.Variable.TheVariants.{Energy, Reserve, Up, Down, Room, Sum, Block, Offer}
use Rattle.price_system.proofs.NameLemmas.{IsVariable, sides, variable_at}

-- the columns of a point are the opposites of the prices of duals
pub record Agrees (m : Parts) (v : ℕ → Fraction) (d : Duals Fraction) : Type 0 where
  pub energy : v 0 ≡ neg_ℚ d.energy
  pub reserve : v 1 ≡ neg_ℚ d.reserve
  pub up : (r : Row) → Contains (rows m) r → v (up_name m r) ≡ neg_ℚ (up_of m d r)
  pub down : (r : Row) → Contains (rows m) r → v (down_name m r) ≡ neg_ℚ (down_of m d r)
  pub room : (u : ℕ) → Contains (reserve_units m) u → v (room_name m u) ≡ neg_ℚ (room_price m d u)

-- sums over names
over_names : {X : Type 0} (f : ℕ → Fraction) (g : X → ℕ) (xs : List X) → sum_by f (map g xs) ≡ sum_by (λ x. f (g x)) xs
over_names f g [] = refl
over_names f g (x ∷ xs) = ap (λ t. f (g x) +ℚ t) (over_names f g xs)

over_sides : (m : Parts) (f : ℕ → Fraction) (rs : List Row) → sum_by f (map (name m) (sides rs)) ≡ sum_by (λ r. f (up_name m r) +ℚ f (down_name m r)) rs
over_sides m f [] = refl
over_sides m f (r ∷ rs) =
    ap (λ t. f (up_name m r) +ℚ (f (down_name m r) +ℚ t)) (over_sides m f rs)
    ∙ sym (ring_ℚ.plus_assoc (f (up_name m r)) (f (down_name m r)) (sum_by (λ q. f (up_name m q) +ℚ f (down_name m q)) rs))

-- what the prices of rooms take of a unit's worth is that of its own
at_other : (a b : ℕ) (x : Fraction) → b ≢ a → at_unit a b x ≡ zero
at_other a b x n = elim (eqb_tells b a) [ inl t ↦ absurd (n t.1) | inr t ↦ ap (λ (k : Bool). if k then x else zero) t.0 ]

at_own : (a : ℕ) (x : Fraction) → at_unit a a x ≡ x
at_own a x = elim (eqb_tells a a) [ inl t ↦ ap (λ (k : Bool). if k then x else zero) t.0 | inr t ↦ absurd (t.1 refl) ]

module _ (m : Parts) (x : Dispatch) (c : Caps) (market : IsMarket m) where
  pub apart : RowsApart m
  apart = rows_apart m (names_apart m market)

  abbrev s : System
  s = price_system m x c

  -- ---- what the system has at the names of variables
  pub coefficient-at : (r j : Variable) → IsVariable m r → IsVariable m j → s.coefficient (name m r) (name m j) ≡ coefficient m r j
  unfolding price_system
  coefficient-at r j is_row is_column = ap₂ (coefficient m) (variable_at m apart r is_row) (variable_at m apart j is_column)

  pub price-at : (j : Variable) → IsVariable m j → s.price (name m j) ≡ column_price j
  unfolding price_system
  price-at j is = ap column_price (variable_at m apart j is)

  pub low-at : (v : Variable) → IsVariable m v → s.low (name m v) ≡ low m x c v
  unfolding price_system
  low-at v is = ap (low m x c) (variable_at m apart v is)

  pub high-at : (v : Variable) → IsVariable m v → s.high (name m v) ≡ high m x c v
  unfolding price_system
  high-at v is = ap (high m x c) (variable_at m apart v is)

  -- ---- sums over its columns
  pub sum-columns : (f : ℕ → Fraction)
      → sum_by f s.columns ≡ f 0 +ℚ (f 1 +ℚ (sum_by (λ r. f (up_name m r) +ℚ f (down_name m r)) (rows m) +ℚ sum_by (λ u. f (room_name m u)) (reserve_units m)))
  unfolding price_system
  sum-columns f =
      ap (λ t. f 0 +ℚ (f 1 +ℚ t))
      (ap (sum_by f) (map-append (name m) (sides (rows m)) (map Room (reserve_units m)))
      ∙ sum_by-append f (map (name m) (sides (rows m))) (map (name m) (map Room (reserve_units m)))
      ∙ ap₂ ◌+ℚ◌ (over_sides m f (rows m)) (ap (sum_by f) (map-map Room (name m) (reserve_units m)) ∙ over_names f (room_name m) (reserve_units m)))

  -- of numbers that are these at the columns
  pub sum-at : (f : ℕ → Fraction) (a b : Fraction) (g : Row → Fraction) (h : ℕ → Fraction) → f 0 ≡ a → f 1 ≡ b
      → ((r : Row) → Contains (rows m) r → f (up_name m r) +ℚ f (down_name m r) ≡ g r) → ((u : ℕ) → Contains (reserve_units m) u → f (room_name m u) ≡ h u)
      → sum_by f s.columns ≡ a +ℚ (b +ℚ (sum_by g (rows m) +ℚ sum_by h (reserve_units m)))
  sum-at f a b g h e k sided roomed =
      sum-columns f
      ∙ ap₂ ◌+ℚ◌ e
      (ap₂ ◌+ℚ◌ k
      (ap₂ ◌+ℚ◌
      (sum_by-members (λ r. f (up_name m r) +ℚ f (down_name m r)) g (rows m) sided)
      (sum_by-members (λ u. f (room_name m u)) h (reserve_units m) roomed)))

  -- ---- at the prices of duals
  module _ (v : ℕ → Fraction) (d : Duals Fraction) (agrees : Agrees m v d) where
    own_room : (u w : ℕ) → w ≡ u → Contains (reserve_units m) w → at_unit u w (whole (pos 1)) *ℚ v (room_name m w) ≡ neg_ℚ (room_price m d w)
    own_room u w e k =
        ap₂ ◌*ℚ◌ (ap (λ (a : ℕ). at_unit a w (whole (pos 1))) (sym e) ∙ at_own w (whole (pos 1))) (agrees.room w k)
        ∙ by_ring ring_ℚ (room_price m d w ∷ []) (pone ⊗ pneg (at 0)) (pneg (at 0)) refl

    other_room : (u w : ℕ) → w ≢ u → at_unit u w (whole (pos 1)) *ℚ v (room_name m w) ≡ zero
    other_room u w n = ap (λ t. t *ℚ v (room_name m w)) (at_other u w (whole (pos 1)) n) ∙ by_ring ring_ℚ (v (room_name m w) ∷ []) (pnil ⊗ at 0) pnil refl

    pub rooms-sum : (u : ℕ) → sum_by (λ w. at_unit u w (whole (pos 1)) *ℚ v (room_name m w)) (reserve_units m) ≡ neg_ℚ (room_price m d u)
    rooms-sum u = by (offers_reserve m u) refl
      where
        by : (b : Bool) → offers_reserve m u ≡ b → sum_by (λ w. at_unit u w (whole (pos 1)) *ℚ v (room_name m w)) (reserve_units m) ≡ neg_ℚ (room_price m d u)
        by true e =
            let k : Contains (reserve_units m) u = offers-listed m u (reserve_unit-below m market u e) e in
            sum_by-alone (λ w. at_unit u w (whole (pos 1)) *ℚ v (room_name m w)) u (reserve_units m)
            (λ i j a lt h same. Prim.omega (arith, units_ascend m i j a lt h, same)) k (λ w l n. other_room u w n)
            ∙ own_room u u refl k
        by false e =
            sum_by-members (λ w. at_unit u w (whole (pos 1)) *ℚ v (room_name m w)) (λ w. zero) (reserve_units m)
            (λ w k. other_room u w (λ same. let wrong : true ≡ false = sym (listed-offers m w k) ∙ ap (offers_reserve m) same ∙ e in absurd cc))
            ∙ sum_by-nil (reserve_units m)
            ∙ by_ring ring_ℚ [] pnil (pneg pnil) refl
            ∙ sym (ap neg_ℚ (none e))
          where
            none : offers_reserve m u ≡ false → room_price m d u ≡ zero
            none f = Prim.rw f refl

    -- where each column counts at its price they come to the opposite of the sum of all prices but energy's
    pub sum-priced : (weight : ℕ → Fraction) → ((j : Variable) → IsVariable m j → weight (name m j) ≡ column_price j)
        → sum_by (λ w. weight w *ℚ v w) s.columns ≡ neg_ℚ (sum_of_prices m d)
    sum-priced weight priced =
        let one : Fraction = whole (pos 1) in
        let limits : Fraction = sum_by (λ r. up_of m d r +ℚ down_of m d r) (rows m) in
        let rooms : Fraction = sum_by (room_price m d) (reserve_units m) in
        sum-at (λ w. weight w *ℚ v w) (zero *ℚ v 0) (one *ℚ neg_ℚ d.reserve) (λ r. neg_ℚ one *ℚ (up_of m d r +ℚ down_of m d r)) (λ u. neg_ℚ one *ℚ room_price m d u)
        (ap (λ t. t *ℚ v 0) (priced Energy tt))
        (ap₂ ◌*ℚ◌ (priced Reserve tt) agrees.reserve)
        (λ r k.
        ap₂ ◌+ℚ◌ (ap₂ ◌*ℚ◌ (priced (Up r) k) (agrees.up r k)) (ap₂ ◌*ℚ◌ (priced (Down r) k) (agrees.down r k))
        ∙ by_ring ring_ℚ (up_of m d r ∷ down_of m d r ∷ []) (pone ⊗ pneg (at 0) ⊕ pone ⊗ pneg (at 1)) (pneg pone ⊗ (at 0 ⊕ at 1)) refl)
        (λ u k. ap₂ ◌*ℚ◌ (priced (Room u) k) (agrees.room u k) ∙ by_ring ring_ℚ (room_price m d u ∷ []) (pone ⊗ pneg (at 0)) (pneg pone ⊗ at 0) refl)
        ∙ ap₂ (λ (a b : Fraction). (zero *ℚ v 0) +ℚ ((one *ℚ neg_ℚ d.reserve) +ℚ (a +ℚ b)))
        (sum_by-times (neg_ℚ one) (λ r. up_of m d r +ℚ down_of m d r) (rows m))
        (sum_by-times (neg_ℚ one) (room_price m d) (reserve_units m))
        ∙ by_ring ring_ℚ (v 0 ∷ d.reserve ∷ limits ∷ rooms ∷ []) (pnil ⊗ at 0 ⊕ (pone ⊗ pneg (at 1) ⊕ (pneg pone ⊗ at 2 ⊕ pneg pone ⊗ at 3))) (pneg ((at 2 ⊕ at 3) ⊕ at 1)) refl

    pub activity-sum : activity s v (sum_name m) ≡ neg_ℚ (sum_of_prices m d)
    unfolding activity
    activity-sum = sum-priced (s.coefficient (name m Sum)) (λ j is. coefficient-at Sum j tt is)

    -- what limits take of a unit's worth
    abbrev taken : ℕ → Row → Fraction
    taken u r = neg_ℚ (net_shadow_price m d r) *ℚ unit_factor m r u

    pub activity-block : (j : ℕ) → j < length m.blocks → activity s v (block_name m j) ≡ energy_worth m d (block_at m j).unit
    unfolding activity price_by congestion_by
    activity-block j h =
        let u : ℕ = (block_at m j).unit in
        let limits : Fraction = sum_by (taken u) (rows m) in
        sum-at (λ w. s.coefficient (name m (Block j)) w *ℚ v w) (neg_ℚ (whole (pos 1)) *ℚ neg_ℚ d.energy) (zero *ℚ v 1) (taken u) (λ w. at_unit u w (whole (pos 1)) *ℚ v (room_name m w))
        (ap₂ ◌*ℚ◌ (coefficient-at (Block j) Energy h tt) agrees.energy)
        (ap (λ t. t *ℚ v 1) (coefficient-at (Block j) Reserve h tt))
        (λ r k.
        ap₂ ◌+ℚ◌ (ap₂ ◌*ℚ◌ (coefficient-at (Block j) (Up r) h k) (agrees.up r k)) (ap₂ ◌*ℚ◌ (coefficient-at (Block j) (Down r) h k) (agrees.down r k))
        ∙ by_ring ring_ℚ (unit_factor m r u ∷ up_of m d r ∷ down_of m d r ∷ []) (at 0 ⊗ pneg (at 1) ⊕ pneg (at 0) ⊗ pneg (at 2)) (pneg (at 1 ⊕ pneg (at 2)) ⊗ at 0) refl)
        (λ w k. ap (λ t. t *ℚ v (room_name m w)) (coefficient-at (Block j) (Room w) h k))
        ∙ ap (λ t. (neg_ℚ (whole (pos 1)) *ℚ neg_ℚ d.energy) +ℚ ((zero *ℚ v 1) +ℚ (limits +ℚ t))) (rooms-sum u)
        ∙ by_ring ring_ℚ (d.energy ∷ v 1 ∷ limits ∷ room_price m d u ∷ []) (pneg pone ⊗ pneg (at 0) ⊕ (pnil ⊗ at 1 ⊕ (at 2 ⊕ pneg (at 3)))) ((at 0 ⊕ at 2) ⊕ pneg (at 3)) refl
        ∙ ap (λ t. t -ℚ room_price m d u)
        (sym (unit_price-by_factors m d u ∙ ap (λ t. d.energy +ℚ t) (total-Product (λ r. neg_ℚ (net_shadow_price m d r)) (λ r. unit_factor m r u) (rows m))))

    pub activity-offer : (n : ℕ) → n < length m.reserve.offers → activity s v (offer_name m n) ≡ reserve_worth m d (offer_at m n).unit
    unfolding activity
    activity-offer n h =
        let u : ℕ = (offer_at m n).unit in
        sum-at (λ w. s.coefficient (name m (Offer n)) w *ℚ v w) (zero *ℚ v 0) (neg_ℚ (whole (pos 1)) *ℚ neg_ℚ d.reserve) (λ r. zero) (λ w. at_unit u w (whole (pos 1)) *ℚ v (room_name m w))
        (ap (λ t. t *ℚ v 0) (coefficient-at (Offer n) Energy h tt))
        (ap₂ ◌*ℚ◌ (coefficient-at (Offer n) Reserve h tt) agrees.reserve)
        (λ r k.
        ap₂ (λ (a b : Fraction). a *ℚ v (up_name m r) +ℚ b *ℚ v (down_name m r)) (coefficient-at (Offer n) (Up r) h k) (coefficient-at (Offer n) (Down r) h k)
        ∙ by_ring ring_ℚ (v (up_name m r) ∷ v (down_name m r) ∷ []) (pnil ⊗ at 0 ⊕ pnil ⊗ at 1) pnil refl)
        (λ w k. ap (λ t. t *ℚ v (room_name m w)) (coefficient-at (Offer n) (Room w) h k))
        ∙ ap₂ (λ (a b : Fraction). (zero *ℚ v 0) +ℚ ((neg_ℚ (whole (pos 1)) *ℚ neg_ℚ d.reserve) +ℚ (a +ℚ b))) (sum_by-nil (rows m)) (rooms-sum u)
        ∙ by_ring ring_ℚ (v 0 ∷ d.reserve ∷ room_price m d u ∷ []) (pnil ⊗ at 0 ⊕ (pneg pone ⊗ pneg (at 1) ⊕ (pnil ⊕ pneg (at 2)))) (at 1 ⊕ pneg (at 2)) refl
