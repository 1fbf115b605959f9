-- A basic variable of a market's system that is stuck beyond a bound: its duals, up to the one sign and with prices of reserve below 0 taken as 0,
-- show that no dispatch of the market is feasible, and their bound is at most what the variable lacks, and in a market of energy alone just that.
use Rattle.std.specs.Prelude.{◌≡◌, ◌⊎◌, ◌&&◌, ℕ, ◌<◌, pos, Bool, true, false, not, [], ◌∷◌, length, filter, if◌then◌else◌, Contains, refl, List, map}
use Rattle.std.proofs.Common.{ap, ap₂, sym, ◌∙◌, subst, subst₂, inl, inr}
use Rattle.fraction_theory.specs.Fraction.{Fraction, whole, neg_ℚ, ◌+ℚ◌, ◌-ℚ◌, ◌*ℚ◌}
use Rattle.fraction_theory.specs.Order.{NonNeg, ◌≤ℚ◌}
use Rattle.fraction_theory.specs.Signs.{sign_of, part_above, where_above}
use Rattle.fraction_theory.specs.declared.Sign.{Sign}
use Rattle.fraction_theory.specs.declared.Sign.TheVariants.{Below, Zero, Above}
use Rattle.fraction_theory.specs.Sums.{sum_by, Plain, total}
use Rattle.fraction_theory.proofs.Ring.{by_ring, by_ring1, at, pnil, pone, pneg, ◌⊕◌, ◌⊗◌}
use Rattle.fraction_theory.proofs.FieldLaws.{ring_ℚ}
use Rattle.fraction_theory.proofs.OrderLaws.{≤ℚ_refl, ≤ℚ_trans, ≤ℚ-<ℚ_trans, ≤ℚ-or-<ℚ, ≤ℚ_of_same, ≤ℚ_antisym, <ℚ-≤ℚ, +ℚ-≤ℚ, *ℚ-≤ℚ, *ℚ-≤ℚ_neg, NonNeg_from, NonNeg-plus, le_to, by_le1, by_le2, NonNeg-one, whole-≤ℚ}
use Rattle.fraction_theory.proofs.SignLaws.{sign_of_is, part_at_least, part_at_most, part_least}
use Rattle.fraction_theory.proofs.SumLaws.{sum_by-same, sum_by-nil, sum_by-plus, sum_by-times, sum_by-≤}
use Rattle.fraction_theory.proofs.ListSums.{kept, put_at, put_at-here, put_at-elsewhere, same_or_not, sum_by-filter, sum_by-members}
use Rattle.linear_system.specs.Systems.{System, IsSystem, MeetsRows, InBounds}
use Rattle.linear_system.specs.Choices.{Choice, IsChoice}
use Rattle.linear_system.proofs.Multipliers.{multiplied}
use Rattle.simplex_theory.specs.Steps.{opposite_if}
use Rattle.simplex_theory.specs.Stuck.{IsStuck, multiplier, margin}
use Rattle.simplex_theory.proofs.NameSums.{signed-sum}
use Rattle.simplex_theory.proofs.StuckRows.{combined, corner, combined_vanishes, corner_reaches, corner_within, margin_below, each_most}
use Rattle.market_model.specs.declared.answered.Duals.{Duals}
use Rattle.market_model.specs.declared.participants.Parts.{Parts}
use Rattle.market_model.specs.declared.participants.Reserve.{Reserve}
use Rattle.market_model.specs.Dispatch.{zero as nil, places, block_at, blocks_of, offer_at, unit_at, signed_by_side, quantity, reserve_quantity, balance, empty}
use Rattle.market_model.specs.Infeasibility.{block_weight, offer_weight, farkas_bound, ShowsInfeasible}
use Rattle.market_model.specs.declared.limits.Row.{Row}
use Rattle.market_model.specs.LimitRows.{rows, is_soft, limit, most_excess, most_flow, flow}
use Rattle.market_data.specs.Participants.{IsUnit}
use Rattle.market_model.specs.Market.{IsMarket, IsReserveOffer}
use Rattle.market_model.specs.Optimality.{Taken, net_shadow_price, room_price, unit_price, ProperDuals}
use Rattle.market_model.specs.Reserves.{no_reserve, offer_places, offers_among, offers_reserve, reserve_need, reserve_units, room}
use Rattle.market_model.proofs.Excesses.{limit_least}
use Rattle.market_model.proofs.FarkasLaw.{farkas_bound-by_parts, farkas_bound-alone, left_of, blocks_most, offers_most}
use Rattle.market_model.proofs.EnergyAlone.{no_places, no_units}
use Rattle.market_model.proofs.MarketSums.{block_unit-in}
use Rattle.market_model.proofs.PlaceSums.{gather_times, places_all}
use Rattle.market_model.proofs.ReserveSums.{whole_rooms}
use Rattle.market_model.proofs.RoomLemmas.{listed-inside, listed-offers}
use Rattle.market_system.specs.MarketSystem.{name, balance_name, row_name, over_name, under_name, offer_name, need_name, room_name, is_in, in_order, is_among, rooms_in_order, taken_in_order, residual_demand, most_reserve, reserve_offered, block_sign, block_coefficient, system_of, duals_by_cost, IsVariableOf}
use Rattle.market_system.proofs.Clamps.{lack, lack-nil, lack-below, where_low, block_more, offer_more, sum_more, buys_fit}
use Rattle.market_model.specs.NamedSums.{SameSize}
use Rattle.market_model.proofs.RowMembers.{Contains-from_places}
use Rattle.market_system.specs.MarketNumbers.{IsFarkasOf}
use Rattle.market_system.proofs.RowOrder.{RowsApart, in_order-filter, is_in-in, is_among-in, is_among-from, rooms_in_order-from, rooms_in_order-filter}
use Rattle.market_system.proofs.DualLists.{NamesApart, rows_apart, takes_room, rooms_in_order-places, room_price-made, one_is_nil, up_by, down_by, up_sign, down_sign, up_is_part, down_is_part, up-made, down-made, net_price-made, prices_only-made, proper-made}
use Rattle.market_system.proofs.MarketPoints.{is_system_of, both_parts, low-block, high-block, low-balance, high-balance, low-row, high-row, low-over, low-under, high-over, high-under, low-offer, high-offer, low-need, high-need, low-room, high-room, over_column, under_column, over_variable, under_variable, block_in, balance_in, row_in, offer_in, need_in, room_in}
use Rattle.market_system.proofs.SolvedMarkets.{at_room, offer_listed_by, rows-at, rows-offer, rows-over, rows-under, signed_minus, weight-made}
use Rattle.market_system.proofs.SoftRows.{hard_stands, most_excess_least}
use Rattle.market_system.proofs.VariableLaws.{by_variable, column_in, offer_in as offer_column, soft, sum-columns, sum-rows}
use Rattle.market_system.specs.declared.variables.Variable.{Variable}
use Rattle.market_system.specs.declared.variables.Variable.TheVariants.{Block, Balance, Limit, Over, Under, Offer, Need, Room}
use Rattle.market_system.proofs.RoomBounds.{offered-by_offers, offered_most}

-- ---- the most that a factor makes of a number between two bounds
module _ (k low high c : Fraction) (above_low : low ≤ℚ c) (below_high : c ≤ℚ high) (most : (t : Fraction) → low ≤ℚ t → t ≤ℚ high → (k *ℚ t) ≤ℚ (k *ℚ c)) where
  most_high : nil ≤ℚ k → k *ℚ c ≡ k *ℚ high
  most_high sign = ≤ℚ_antisym (k *ℚ c) (k *ℚ high) (*ℚ-≤ℚ k c high (NonNeg_from k sign) below_high) (most high (both above_low below_high) (≤ℚ_refl high))
    where
      both : low ≤ℚ c → c ≤ℚ high → low ≤ℚ high
      both p q = by_le2 p q
        where
          by_le2 : low ≤ℚ c → c ≤ℚ high → low ≤ℚ high
          by_le2 p q = ≤ℚ_trans low c high p q

  most_low : k ≤ℚ nil → k *ℚ c ≡ k *ℚ low
  most_low sign = ≤ℚ_antisym (k *ℚ c) (k *ℚ low) (*ℚ-≤ℚ_neg k low c (subst NonNeg (by_ring ring_ℚ (k ∷ []) (pnil ⊕ pneg (at 0)) (pneg (at 0)) refl) (le_to k nil sign)) above_low)
      (most low (≤ℚ_refl low) (≤ℚ_trans low c high above_low below_high))

-- of a block, from 0 to its quantity
block_most : (k q c : Fraction) → nil ≤ℚ c → c ≤ℚ q → ((t : Fraction) → nil ≤ℚ t → t ≤ℚ q → (k *ℚ t) ≤ℚ (k *ℚ c)) → part_above k *ℚ q ≡ k *ℚ c
block_most k q c low high most = by (sign_of k) refl
  where
    by : (s : Sign) → s ≡ sign_of k → where_above s k *ℚ q ≡ k *ℚ c
    by Below e = by_ring ring_ℚ (q ∷ k ∷ []) (pnil ⊗ at 0) (at 1 ⊗ pnil) refl ∙ sym (most_low k nil q c low high most (<ℚ-≤ℚ k nil (sign_of_is k Below e)))
    by Zero e = by_ring ring_ℚ (q ∷ k ∷ []) (pnil ⊗ at 0) (at 1 ⊗ pnil) refl ∙ sym (most_low k nil q c low high most (≤ℚ_of_same k nil (sign_of_is k Zero e)))
    by Above e = sym (most_high k nil q c low high most (<ℚ-≤ℚ nil k (sign_of_is k Above e)))

-- of a row, from what is left of its limit on the lower side to that on the upper one
row_most : (k l f c : Fraction) → (neg_ℚ l -ℚ f) ≤ℚ c → c ≤ℚ (l -ℚ f) → ((t : Fraction) → (neg_ℚ l -ℚ f) ≤ℚ t → t ≤ℚ (l -ℚ f) → (k *ℚ t) ≤ℚ (k *ℚ c))
    → up_by (sign_of k) k *ℚ (l -ℚ f) +ℚ (down_by (sign_of k) k *ℚ (l +ℚ f) +ℚ nil) ≡ k *ℚ c
unfolding up_by down_by
row_most k l f c low high most = by (sign_of k) refl
  where
    by : (s : Sign) → s ≡ sign_of k → up_by s k *ℚ (l -ℚ f) +ℚ (down_by s k *ℚ (l +ℚ f) +ℚ nil) ≡ k *ℚ c
    by Below e = by_ring ring_ℚ (k ∷ l ∷ f ∷ []) (pnil ⊗ (at 1 ⊕ pneg (at 2)) ⊕ (pneg (at 0) ⊗ (at 1 ⊕ at 2) ⊕ pnil)) (at 0 ⊗ (pneg (at 1) ⊕ pneg (at 2))) refl
        ∙ sym (most_low k (neg_ℚ l -ℚ f) (l -ℚ f) c low high most (<ℚ-≤ℚ k nil (sign_of_is k Below e)))
    by Zero e = by_ring ring_ℚ (l ∷ f ∷ c ∷ []) (pnil ⊗ (at 0 ⊕ pneg (at 1)) ⊕ (pnil ⊗ (at 0 ⊕ at 1) ⊕ pnil)) (pnil ⊗ at 2) refl ∙ ap (λ t. t *ℚ c) (sym (sign_of_is k Zero e))
    by Above e = by_ring ring_ℚ (k ∷ l ∷ f ∷ []) (at 0 ⊗ (at 1 ⊕ pneg (at 2)) ⊕ (pnil ⊗ (at 1 ⊕ at 2) ⊕ pnil)) (at 0 ⊗ (at 1 ⊕ pneg (at 2))) refl
        ∙ sym (most_high k (neg_ℚ l -ℚ f) (l -ℚ f) c low high most (<ℚ-≤ℚ nil k (sign_of_is k Above e)))

-- of the need, from it to the most that its row keeps: at the price taken as 0 where it is below, and what that lacks
need_most : (k need most c : Fraction) → need ≤ℚ c → c ≤ℚ most → ((t : Fraction) → need ≤ℚ t → t ≤ℚ most → (k *ℚ t) ≤ℚ (k *ℚ c)) → neg_ℚ (part_above (neg_ℚ k) *ℚ need) +ℚ lack (neg_ℚ k) *ℚ most ≡ k *ℚ c
need_most k need most c low high each = elim (≤ℚ-or-<ℚ k nil) [
  | inl below ↦
      ap₂ (λ (a b : Fraction). neg_ℚ (a *ℚ need) +ℚ b *ℚ most) (lack-below k below) (lack-nil (neg_ℚ k) (by_le1 (k ∷ []) pnil (pneg (at 0)) pone (at 0) pnil NonNeg-one below refl))
      ∙ by_ring ring_ℚ (k ∷ need ∷ most ∷ []) (pneg (pneg (at 0) ⊗ at 1) ⊕ pnil ⊗ at 2) (at 0 ⊗ at 1) refl
      ∙ sym (most_low k need most c low high each below)
  | inr above ↦
      ap₂ (λ (a b : Fraction). neg_ℚ (a *ℚ need) +ℚ b *ℚ most) (lack-nil k (<ℚ-≤ℚ nil k above))
      (lack-below (neg_ℚ k) (by_le1 (k ∷ []) (pneg (at 0)) pnil pone pnil (at 0) NonNeg-one (<ℚ-≤ℚ nil k above) refl))
      ∙ by_ring ring_ℚ (k ∷ need ∷ most ∷ []) (pneg (pnil ⊗ at 1) ⊕ pneg (pneg (at 0)) ⊗ at 2) (at 0 ⊗ at 2) refl
      ∙ sym (most_high k need most c low high each (<ℚ-≤ℚ nil k above))
]

-- of a room, from the opposite of what may be bought to what may be sold
room_most : (k up down c : Fraction) → neg_ℚ down ≤ℚ c → c ≤ℚ up → ((t : Fraction) → neg_ℚ down ≤ℚ t → t ≤ℚ up → (k *ℚ t) ≤ℚ (k *ℚ c)) → part_above k *ℚ up +ℚ lack k *ℚ down ≡ k *ℚ c
room_most k up down c low high each = elim (≤ℚ-or-<ℚ k nil) [
  | inl below ↦
      ap₂ (λ (a b : Fraction). a *ℚ up +ℚ b *ℚ down) (part_at_most k below) (lack-below k below)
      ∙ by_ring ring_ℚ (k ∷ up ∷ down ∷ []) (pnil ⊗ at 1 ⊕ pneg (at 0) ⊗ at 2) (at 0 ⊗ pneg (at 2)) refl
      ∙ sym (most_low k (neg_ℚ down) up c low high each below)
  | inr above ↦
      ap₂ (λ (a b : Fraction). a *ℚ up +ℚ b *ℚ down) (part_at_least k (<ℚ-≤ℚ nil k above)) (lack-nil k (<ℚ-≤ℚ nil k above))
      ∙ by_ring ring_ℚ (k ∷ up ∷ down ∷ []) (at 0 ⊗ at 1 ⊕ pnil ⊗ at 2) (at 0 ⊗ at 1) refl
      ∙ sym (most_high k (neg_ℚ down) up c low high each (<ℚ-≤ℚ nil k above))
]

-- a number taken as 0 where it is below is 0 or the number
part_either : (x : Fraction) → (part_above x ≡ nil) ⊎ (part_above x ≡ x)
part_either x = elim (≤ℚ-or-<ℚ x nil) [
  | inl below ↦ inl (part_at_most x below)
  | inr above ↦ inr (part_at_least x (<ℚ-≤ℚ nil x above))
]

reserve_quantity-least : (m : Parts) → IsMarket m → (n : ℕ) → n < length m.reserve.offers → nil ≤ℚ reserve_quantity m n
reserve_quantity-least m market n lt = let is : IsReserveOffer (length m.units) (offer_at m n) = market.reserve.each n _ lt in whole-≤ℚ (pos 0) (offer_at m n).quantity is.quantity

quantity-least : (m : Parts) → IsMarket m → (j : ℕ) → j < length m.blocks → nil ≤ℚ quantity m j
quantity-least m market j lt = whole-≤ℚ (pos 0) (block_at m j).quantity (market.blocks j _ lt).quantity

-- ---- in a market low bounds are at most the high ones
bounds_ordered : (m : Parts) (names : NamesApart m) → IsMarket m → (g : Taken) → (w : ℕ) → Contains (system_of m g).variables w → (system_of m g).low w ≤ℚ (system_of m g).high w
bounds_ordered m names market g = by_variable m (taken_in_order m g) (λ w. (system_of m g).low w ≤ℚ (system_of m g).high w) by
  where
    by : (v : Variable) → IsVariableOf m (taken_in_order m g) v → (system_of m g).low (name m v) ≤ℚ (system_of m g).high (name m v)
    by (Block j) lt = subst₂ ◌≤ℚ◌ (sym (low-block m (rows_apart m names) g j lt)) (sym (high-block m (rows_apart m names) g j lt))
        (whole-≤ℚ (pos 0) (block_at m j).quantity (market.blocks j _ lt).quantity)
    by Balance is = ≤ℚ_of_same _ _ (low-balance m (rows_apart m names) g ∙ sym (high-balance m (rows_apart m names) g))
    by (Limit r) c = subst₂ ◌≤ℚ◌ (sym (low-row m (rows_apart m names) g r c)) (sym (high-row m (rows_apart m names) g r c))
        (by_le1 (limit m r ∷ flow m (empty m) r ∷ []) (pneg (at 0) ⊕ pneg (at 1)) (at 0 ⊕ pneg (at 1)) (pone ⊕ pone) pnil (at 0) (NonNeg-plus (whole (pos 1)) (whole (pos 1)) NonNeg-one NonNeg-one)
        (limit_least m market r) refl)
    by (Over r) (c, e) = subst₂ ◌≤ℚ◌ (sym (low-over m (rows_apart m names) g r c e)) (sym (high-over m (rows_apart m names) g r c e)) (most_excess_least m market r)
    by (Under r) (c, e) = subst₂ ◌≤ℚ◌ (sym (low-under m (rows_apart m names) g r c e)) (sym (high-under m (rows_apart m names) g r c e)) (most_excess_least m market r)
    by (Offer n) lt = subst₂ ◌≤ℚ◌ (sym (low-offer m (rows_apart m names) g n lt)) (sym (high-offer m (rows_apart m names) g n lt)) (reserve_quantity-least m market n lt)
    by Need e = subst₂ ◌≤ℚ◌ (sym (low-need m (rows_apart m names) g e)) (sym (high-need m (rows_apart m names) g e))
        (by_le1 (reserve_need m ∷ part_above (reserve_offered m -ℚ reserve_need m) ∷ []) (at 0) (at 0 ⊕ at 1) pone pnil (at 1) NonNeg-one (part_least (reserve_offered m -ℚ reserve_need m)).0 refl)
    by (Room u) c = subst₂ ◌≤ℚ◌ (sym (low-room m (rows_apart m names) g u c)) (sym (high-room m (rows_apart m names) g u c))
        (let is : IsUnit (length m.buses) (unit_at m u) = market.units u _ (listed-inside m u (rooms_in_order-from m g.rooms u c).0) in
        by_le2 (whole (unit_at m u).down ∷ whole (unit_at m u).up ∷ []) (pneg (at 0)) (at 1) pone pnil (at 0) pone pnil (at 1) NonNeg-one (whole-≤ℚ (pos 0) (unit_at m u).down is.down) NonNeg-one (whole-≤ℚ (pos 0) (unit_at m u).up is.up) refl)

module _ (m : Parts) (names : NamesApart m) (market : IsMarket m) (g : Taken) (h : Choice) (choice : IsChoice (system_of m g) h)
    (b : ℕ) (above : Bool) (stuck : IsStuck (system_of m g) h b above) where
  ordered : (w : ℕ) → Contains (system_of m g).variables w → (system_of m g).low w ≤ℚ (system_of m g).high w
  ordered = bounds_ordered m names market g

  abbrev apart : RowsApart m
  apart = rows_apart m names

  abbrev s : System
  s = system_of m g

  system : IsSystem (system_of m g)
  system = is_system_of m apart g

  -- the multipliers with the one sign
  abbrev turned : ℕ → Fraction
  turned w = opposite_if (not above) (multiplier h b w)

  -- the duals of the stuck variable
  abbrev pub stuck_duals : Duals Fraction
  stuck_duals = duals_by_cost m g turned

  abbrev at_corner : ℕ → Fraction
  at_corner w = corner s h b above w

  within : InBounds s (corner s h b above)
  within = corner_within s h system b stuck.basic above ordered

  -- within its bounds no number makes more of its multiplier
  most_at : (w : ℕ) → Contains s.variables w → (t : Fraction) → s.low w ≤ℚ t → t ≤ℚ s.high w → (turned w *ℚ t) ≤ℚ (turned w *ℚ at_corner w)
  most_at w c t low high =
      let u : ℕ → Fraction = put_at w t (corner s h b above) in
      subst (λ x. (turned w *ℚ x) ≤ℚ (turned w *ℚ at_corner w)) (put_at-here w t (corner s h b above) w refl)
      (each_most s h system b stuck.basic above ordered stuck.at_low stuck.at_high u
      (record {
        low = λ v k. elim (same_or_not v w) [
          | inl e ↦ subst (λ x. s.low v ≤ℚ x) (sym (put_at-here w t (corner s h b above) v e)) (subst (λ (x : ℕ). s.low x ≤ℚ t) (sym e) low)
          | inr n ↦ subst (λ x. s.low v ≤ℚ x) (sym (put_at-elsewhere w t (corner s h b above) v n)) (within.low v k)
        ];
        high = λ v k. elim (same_or_not v w) [
          | inl e ↦ subst (λ x. x ≤ℚ s.high v) (sym (put_at-here w t (corner s h b above) v e)) (subst (λ (x : ℕ). t ≤ℚ s.high x) (sym e) high)
          | inr n ↦ subst (λ x. x ≤ℚ s.high v) (sym (put_at-elsewhere w t (corner s h b above) v n)) (within.high v k)
        ];
      }) w c)

  signed_nil : (a : Bool) → opposite_if a (whole (pos 0)) ≡ whole (pos 0)
  signed_nil true = by_ring ring_ℚ [] (pneg pnil) pnil refl
  signed_nil false = refl

  combined_turned : (v : ℕ → Fraction) → sum_by (λ w. turned w *ℚ v w) s.variables ≡ opposite_if (not above) (combined s h b v)
  unfolding combined
  combined_turned v = sym (signed-sum (not above) (multiplier h b) v s.variables)

  vanishes : (v : ℕ → Fraction) → MeetsRows s v → sum_by (λ j. whole (pos 0) *ℚ v j) s.columns ≡ sum_by (λ w. turned w *ℚ v w) s.variables
  vanishes v meets =
      sum_by-same (λ j. whole (pos 0) *ℚ v j) (λ j. whole (pos 0)) s.columns (λ j. by_ring ring_ℚ (v j ∷ []) (pnil ⊗ at 0) pnil refl) ∙ sum_by-nil s.columns
      ∙ sym (combined_turned v ∙ ap (opposite_if (not above)) (combined_vanishes s h system b stuck.basic choice v meets) ∙ signed_nil (not above))

  at_column : (j : ℕ) → Contains s.columns j → whole (pos 0) ≡ turned j +ℚ sum_by (λ r. turned r *ℚ s.coefficient r j) s.rows
  at_column j c = multiplied s system (both_parts m apart g) (λ w. whole (pos 0)) turned vanishes j c

  -- what a MW on a unit's room costs, where it is taken, and the price of reserve, as they are before they are taken as 0
  abbrev room_cost : ℕ → Fraction
  room_cost u = at_room m g turned u

  abbrev need_price : Fraction
  need_price = neg_ℚ (turned (need_name m))

  room_price_is : (u : ℕ) → room_price m stuck_duals u ≡ part_above (room_cost u)
  room_price_is u = room_price-made m market turned g u

  -- a block's weight at these is its multiplier
  pub block_multiplier : (j : ℕ) → j < length m.blocks → signed_by_side (block_at m j).side (unit_price m stuck_duals (block_at m j).unit -ℚ room_cost (block_at m j).unit) ≡ turned j
  block_multiplier j lt =
      let costs : Fraction = sum_by (λ r. turned (row_name m r) *ℚ block_coefficient m r j) (in_order m g.limits) in
      signed_minus (block_at m j).side (unit_price m stuck_duals (block_at m j).unit) (room_cost (block_at m j).unit)
      ∙ ap (λ t. t -ℚ room_cost (block_at m j).unit *ℚ block_sign m j) (weight-made m names turned g j)
      ∙ by_ring1 ring_ℚ (turned (balance_name m) ∷ block_sign m j ∷ costs ∷ turned j ∷ room_cost (block_at m j).unit ∷ [])
      ((pneg (at 0) ⊗ at 1 ⊕ pneg (at 2)) ⊕ pneg (at 4 ⊗ at 1)) (at 3) pone pnil (at 3 ⊕ ((at 0 ⊗ at 1 ⊕ at 2) ⊕ at 4 ⊗ at 1))
      (at_column j (column_in m (taken_in_order m g) j lt) ∙ ap (λ t. turned j +ℚ t) (rows-at m names market g turned j lt)) refl

  -- and an offer's likewise
  offer_multiplier : (n : ℕ) → n < length m.reserve.offers → need_price -ℚ room_cost (offer_at m n).unit ≡ turned (offer_name m n)
  offer_multiplier n lt =
      by_ring1 ring_ℚ (turned (need_name m) ∷ room_cost (offer_at m n).unit ∷ turned (offer_name m n) ∷ []) (pneg (at 0) ⊕ pneg (at 1)) (at 2) pone pnil (at 2 ⊕ (at 0 ⊕ at 1))
      (at_column (offer_name m n) (offer_column m (taken_in_order m g) n lt) ∙ ap (λ t. turned (offer_name m n) +ℚ t) (rows-offer m names market g turned n lt)) refl

  -- those of the columns of a soft row are the row's, and its opposite
  module _ (r : Row) (c : Contains (in_order m g.limits) r) (e : is_soft m r ≡ true) where
    over_multiplier : turned (row_name m r) ≡ turned (over_name m r)
    over_multiplier = by_ring1 ring_ℚ (turned (row_name m r) ∷ turned (over_name m r) ∷ []) (at 0) (at 1) pone pnil (at 1 ⊕ at 0 ⊗ pneg pone)
        (at_column (over_name m r) (over_column m apart g r c e) ∙ ap (λ t. turned (over_name m r) +ℚ t) (rows-over m names market g turned r c e)) refl

    under_multiplier : neg_ℚ (turned (row_name m r)) ≡ turned (under_name m r)
    under_multiplier = by_ring1 ring_ℚ (turned (row_name m r) ∷ turned (under_name m r) ∷ []) (pneg (at 0)) (at 1) pone pnil (at 1 ⊕ at 0 ⊗ pone)
        (at_column (under_name m r) (under_column m apart g r c e) ∙ ap (λ t. turned (under_name m r) +ℚ t) (rows-under m names market g turned r c e)) refl

  -- ---- the bound
  column_most : (w : ℕ) → Contains s.variables w → (q : Fraction) → s.low w ≡ nil → s.high w ≡ q → part_above (turned w) *ℚ q ≡ turned w *ℚ at_corner w
  column_most w named q low high =
      block_most (turned w) q (at_corner w) (subst (λ t. t ≤ℚ at_corner w) low (within.low w named)) (subst (λ t. at_corner w ≤ℚ t) high (within.high w named))
      (λ t a b. most_at w named t (subst (λ x. x ≤ℚ t) (sym low) a) (subst (λ x. t ≤ℚ x) (sym high) b))

  block_most_is : (j : ℕ) → j < length m.blocks → part_above (turned j) *ℚ quantity m j ≡ turned j *ℚ at_corner j
  block_most_is j lt = column_most j (block_in m apart g j lt) (quantity m j) (low-block m apart g j lt) (high-block m apart g j lt)

  offer_most_is : (n : ℕ) → n < length m.reserve.offers → part_above (turned (offer_name m n)) *ℚ reserve_quantity m n ≡ turned (offer_name m n) *ℚ at_corner (offer_name m n)
  offer_most_is n lt = column_most (offer_name m n) (offer_in m apart g n lt) (reserve_quantity m n) (low-offer m apart g n lt) (high-offer m apart g n lt)

  -- what blocks may buy, at what prices of rooms lack
  abbrev low_part : ℕ → Fraction
  low_part j = lack (room_cost (block_at m j).unit) *ℚ where_low (block_at m j).side (quantity m j)

  blocks_at_most : blocks_most m stuck_duals ≤ℚ (sum_by (λ w. turned w *ℚ at_corner w) (places (length m.blocks)) +ℚ sum_by low_part (places (length m.blocks)))
  blocks_at_most = sum_more (λ j. part_above (block_weight m stuck_duals j) *ℚ quantity m j) (λ w. turned w *ℚ at_corner w) low_part (places (length m.blocks)) (λ j c. each j (Contains-from_places (length m.blocks) j c))
    where
      each : (j : ℕ) → j < length m.blocks → (part_above (block_weight m stuck_duals j) *ℚ quantity m j) ≤ℚ (turned j *ℚ at_corner j +ℚ low_part j)
      each j lt =
          subst₂ ◌≤ℚ◌
          (ap (λ t. part_above (signed_by_side (block_at m j).side (unit_price m stuck_duals (block_at m j).unit -ℚ t)) *ℚ quantity m j) (sym (room_price_is (block_at m j).unit)))
          (ap (λ t. t +ℚ low_part j) (ap (λ k. part_above k *ℚ quantity m j) (block_multiplier j lt) ∙ block_most_is j lt))
          (block_more (block_at m j).side (unit_price m stuck_duals (block_at m j).unit) (room_cost (block_at m j).unit) (quantity m j) (quantity-least m market j lt))

  offers_at_most : offers_most m stuck_duals ≤ℚ (sum_by (λ n. turned (offer_name m n) *ℚ at_corner (offer_name m n)) (offer_places m) +ℚ lack need_price *ℚ reserve_offered m)
  offers_at_most =
      subst (λ t. offers_most m stuck_duals ≤ℚ (sum_by (λ n. turned (offer_name m n) *ℚ at_corner (offer_name m n)) (offer_places m) +ℚ t)) (sum_by-times (lack need_price) (reserve_quantity m) (offer_places m) ∙ ap (λ t. lack need_price *ℚ t) (sym (offered-by_offers m)))
      (sum_more (λ n. part_above (offer_weight m stuck_duals n) *ℚ reserve_quantity m n) (λ n. turned (offer_name m n) *ℚ at_corner (offer_name m n)) (λ n. lack need_price *ℚ reserve_quantity m n) (offer_places m)
      (λ n c. each n (Contains-from_places (length m.reserve.offers) n c)))
    where
      each : (n : ℕ) → n < length m.reserve.offers
          → (part_above (offer_weight m stuck_duals n) *ℚ reserve_quantity m n) ≤ℚ (turned (offer_name m n) *ℚ at_corner (offer_name m n) +ℚ lack need_price *ℚ reserve_quantity m n)
      each n lt =
          subst₂ ◌≤ℚ◌
          (ap₂ (λ (a b : Fraction). part_above (a -ℚ b) *ℚ reserve_quantity m n) (sym (ap (λ (t : Bool). if t then part_above need_price else nil) (offer_listed_by m market n lt))) (sym (room_price_is (offer_at m n).unit)))
          (ap (λ t. t +ℚ lack need_price *ℚ reserve_quantity m n) (ap (λ k. part_above k *ℚ reserve_quantity m n) (offer_multiplier n lt) ∙ offer_most_is n lt))
          (offer_more need_price (room_cost (offer_at m n).unit) (reserve_quantity m n) (reserve_quantity-least m market n lt))

  -- ---- rooms and the need
  abbrev room_low : ℕ → Fraction
  room_low u = lack (turned (room_name m u)) *ℚ whole (unit_at m u).down

  abbrev room_up : ℕ → Fraction
  room_up u = part_above (turned (room_name m u)) *ℚ room m u

  lows_at_most : sum_by low_part (places (length m.blocks)) ≤ℚ sum_by room_low (rooms_in_order m g.rooms)
  lows_at_most =
      subst₂ ◌≤ℚ◌
      (gather_times (λ u. lack (room_cost u)) (λ j. where_low (block_at m j).side (quantity m j)) (λ j. (block_at m j).unit) (length m.units) (places (length m.blocks))
      (places_all (λ j. (block_at m j).unit < length m.units) (length m.blocks) (block_unit-in m market)))
      (sum_by-same (λ u. lack (room_cost u) *ℚ whole (unit_at m u).down) (λ u. kept (takes_room m g.rooms u) (room_low u)) (places (length m.units)) (λ u. by (takes_room m g.rooms u) (turned (room_name m u)) (whole (unit_at m u).down))
      ∙ sym (sum_by-filter room_low (takes_room m g.rooms) (places (length m.units)))
      ∙ ap (sum_by room_low) (sym (rooms_in_order-places m g.rooms)))
      (sum_by-≤ (λ u. lack (room_cost u) *ℚ sum_by (λ j. where_low (block_at m j).side (quantity m j)) (blocks_of m u)) (λ u. lack (room_cost u) *ℚ whole (unit_at m u).down) (places (length m.units))
      (places_all (λ u. (lack (room_cost u) *ℚ sum_by (λ j. where_low (block_at m j).side (quantity m j)) (blocks_of m u)) ≤ℚ (lack (room_cost u) *ℚ whole (unit_at m u).down)) (length m.units)
      (λ u lt. *ℚ-≤ℚ (lack (room_cost u)) (sum_by (λ j. where_low (block_at m j).side (quantity m j)) (blocks_of m u)) (whole (unit_at m u).down)
      (NonNeg_from (lack (room_cost u)) (part_least (neg_ℚ (room_cost u))).0) (buys_fit m market u lt))))
    where
      by : (t : Bool) (x y : Fraction) → lack (kept t x) *ℚ y ≡ kept t (lack x *ℚ y)
      by true x y = refl
      by false x y = ap (λ k. k *ℚ y) (lack-nil nil (≤ℚ_refl nil)) ∙ by_ring ring_ℚ (y ∷ []) (pnil ⊗ at 0) pnil refl

  rooms_up : whole_rooms m stuck_duals ≡ sum_by room_up (rooms_in_order m g.rooms)
  rooms_up =
      sum_by-members (λ u. room_price m stuck_duals u *ℚ room m u) (λ u. kept (is_among g.rooms u) (room_up u)) (reserve_units m)
      (λ u c. ap (λ t. t *ℚ room m u) (room_price_is u)
      ∙ ap (λ (t : Bool). part_above (kept (t && is_among g.rooms u) (turned (room_name m u))) *ℚ room m u) (listed-offers m u c)
      ∙ by (is_among g.rooms u) (turned (room_name m u)) (room m u))
      ∙ sym (sum_by-filter room_up (is_among g.rooms) (reserve_units m))
      ∙ ap (sum_by room_up) (sym (rooms_in_order-filter m g.rooms))
    where
      by : (t : Bool) (x y : Fraction) → part_above (kept t x) *ℚ y ≡ kept t (part_above x *ℚ y)
      by true x y = refl
      by false x y = ap (λ k. k *ℚ y) (part_at_most nil (≤ℚ_refl nil)) ∙ by_ring ring_ℚ (y ∷ []) (pnil ⊗ at 0) pnil refl

  rooms_most : sum_by room_up (rooms_in_order m g.rooms) +ℚ sum_by room_low (rooms_in_order m g.rooms) ≡ sum_by (λ u. turned (room_name m u) *ℚ at_corner (room_name m u)) (rooms_in_order m g.rooms)
  rooms_most =
      sym (sum_by-plus room_up room_low (rooms_in_order m g.rooms))
      ∙ sum_by-members (λ u. room_up u +ℚ room_low u) (λ u. turned (room_name m u) *ℚ at_corner (room_name m u)) (rooms_in_order m g.rooms) each
    where
      each : (u : ℕ) → Contains (rooms_in_order m g.rooms) u → room_up u +ℚ room_low u ≡ turned (room_name m u) *ℚ at_corner (room_name m u)
      each u c =
          let named = room_in m apart g u c in
          let low = low-room m apart g u c in
          let high = high-room m apart g u c in
          room_most (turned (room_name m u)) (room m u) (whole (unit_at m u).down) (at_corner (room_name m u))
          (subst (λ t. t ≤ℚ at_corner (room_name m u)) low (within.low (room_name m u) named))
          (subst (λ t. at_corner (room_name m u) ≤ℚ t) high (within.high (room_name m u) named))
          (λ t p q. most_at (room_name m u) named t (subst (λ x. x ≤ℚ t) (sym low) p) (subst (λ x. t ≤ℚ x) (sym high) q))

  needs_most : (neg_ℚ (stuck_duals.reserve *ℚ reserve_need m) +ℚ lack need_price *ℚ reserve_offered m) ≤ℚ kept m.reserve.listed (turned (need_name m) *ℚ at_corner (need_name m))
  needs_most = by m.reserve.listed refl
    where
      by : (t : Bool) → m.reserve.listed ≡ t → (neg_ℚ ((if t then part_above need_price else nil) *ℚ reserve_need m) +ℚ lack need_price *ℚ reserve_offered m) ≤ℚ kept t (turned (need_name m) *ℚ at_corner (need_name m))
      by true e =
          let named = need_in m apart g e in
          let low = low-need m apart g e in
          let high = high-need m apart g e in
          subst (λ t. (neg_ℚ (part_above need_price *ℚ reserve_need m) +ℚ lack need_price *ℚ reserve_offered m) ≤ℚ t)
          (need_most (turned (need_name m)) (reserve_need m) (most_reserve m) (at_corner (need_name m))
          (subst (λ t. t ≤ℚ at_corner (need_name m)) low (within.low (need_name m) named))
          (subst (λ t. at_corner (need_name m) ≤ℚ t) high (within.high (need_name m) named))
          (λ t p q. most_at (need_name m) named t (subst (λ x. x ≤ℚ t) (sym low) p) (subst (λ x. t ≤ℚ x) (sym high) q)))
          (by_le1 (part_above need_price ∷ reserve_need m ∷ lack need_price ∷ reserve_offered m ∷ most_reserve m ∷ []) (pneg (at 0 ⊗ at 1) ⊕ at 2 ⊗ at 3) (pneg (at 0 ⊗ at 1) ⊕ at 2 ⊗ at 4) (at 2) (at 3) (at 4)
          (NonNeg_from (lack need_price) (part_least (neg_ℚ need_price)).0) (offered_most m) refl)
      by false e =
          let none : reserve_offered m ≡ nil = ap (λ (ns : List ℕ). total (map (λ n. Plain (reserve_quantity m n)) ns)) (no_places m (market.reserve.unlisted e)) in
          ≤ℚ_of_same _ _
          (ap (λ t. neg_ℚ (nil *ℚ reserve_need m) +ℚ lack need_price *ℚ t) none ∙ by_ring ring_ℚ (reserve_need m ∷ lack need_price ∷ []) (pneg (pnil ⊗ at 0) ⊕ at 1 ⊗ pnil) pnil refl)

  balance_most : neg_ℚ (turned (balance_name m)) *ℚ balance m (empty m) ≡ turned (balance_name m) *ℚ at_corner (balance_name m)
  balance_most =
      by_ring ring_ℚ (turned (balance_name m) ∷ balance m (empty m) ∷ []) (pneg (at 0) ⊗ at 1) (at 0 ⊗ pneg (at 1)) refl
      ∙ ap (λ t. turned (balance_name m) *ℚ t)
      (≤ℚ_antisym (residual_demand m) (at_corner (balance_name m))
      (subst (λ t. t ≤ℚ at_corner (balance_name m)) (low-balance m apart g) (within.low (balance_name m) (balance_in m apart g)))
      (subst (λ t. at_corner (balance_name m) ≤ℚ t) (high-balance m apart g) (within.high (balance_name m) (balance_in m apart g))))

  abbrev up : Row → Fraction
  up r = up_by (sign_of (turned (row_name m r))) (turned (row_name m r))

  abbrev down : Row → Fraction
  down r = down_by (sign_of (turned (row_name m r))) (turned (row_name m r))

  left_here : Row → Fraction
  left_here r = up r *ℚ (most_flow m r -ℚ flow m (empty m) r) +ℚ (down r *ℚ (most_flow m r +ℚ flow m (empty m) r) +ℚ nil)

  left_of_row : (r : Row) → Contains (rows m) r → left_of m stuck_duals (empty m) r ≡ kept (is_in g.limits r) (left_here r)
  unfolding left_here
  left_of_row r c =
      ap₂ (λ (u d : Fraction). u *ℚ (most_flow m r -ℚ flow m (empty m) r) +ℚ (d *ℚ (most_flow m r +ℚ flow m (empty m) r) +ℚ nil))
      (up-made m names turned g r c)
      (down-made m names turned g r c)
      ∙ by (is_in g.limits r)
    where
      by : (t : Bool) → (if t then up r else nil) *ℚ (most_flow m r -ℚ flow m (empty m) r) +ℚ ((if t then down r else nil) *ℚ (most_flow m r +ℚ flow m (empty m) r) +ℚ nil)
          ≡ kept t (left_here r)
      by true = refl
      by false = by_ring ring_ℚ (most_flow m r ∷ flow m (empty m) r ∷ []) (pnil ⊗ (at 0 ⊕ pneg (at 1)) ⊕ (pnil ⊗ (at 0 ⊕ at 1) ⊕ pnil)) pnil refl

  -- what the columns of a row make of its multiplier, where it is soft
  abbrev column_part : Row → Fraction
  column_part r = turned (over_name m r) *ℚ at_corner (over_name m r) +ℚ turned (under_name m r) *ℚ at_corner (under_name m r)

  columns_most : (r : Row) → Contains (in_order m g.limits) r → up r *ℚ most_excess m r +ℚ down r *ℚ most_excess m r ≡ kept (is_soft m r) (column_part r)
  columns_most r c = by (is_soft m r) refl
    where
      by : (b : Bool) → is_soft m r ≡ b → up r *ℚ most_excess m r +ℚ down r *ℚ most_excess m r ≡ kept b (column_part r)
      by true e = ap₂ ◌+ℚ◌
          (ap (λ t. t *ℚ most_excess m r) (up_is_part (turned (row_name m r)) ∙ ap part_above (over_multiplier r c e))
          ∙ column_most (over_name m r) (over_variable m apart g r c e) (most_excess m r) (low-over m apart g r c e) (high-over m apart g r c e))
          (ap (λ t. t *ℚ most_excess m r) (down_is_part (turned (row_name m r)) ∙ ap part_above (under_multiplier r c e))
          ∙ column_most (under_name m r) (under_variable m apart g r c e) (most_excess m r) (low-under m apart g r c e) (high-under m apart g r c e))
      by false e = ap (λ t. up r *ℚ t +ℚ down r *ℚ t) (hard_stands m market r e) ∙ by_ring ring_ℚ (up r ∷ down r ∷ []) (at 0 ⊗ pnil ⊕ at 1 ⊗ pnil) pnil refl

  rows_most : sum_by (left_of m stuck_duals (empty m)) (rows m) ≡ sum_by (λ r. turned (row_name m r) *ℚ at_corner (row_name m r)) (in_order m g.limits) +ℚ sum_by column_part (soft m (taken_in_order m g))
  unfolding left_here
  rows_most =
      sum_by-members (left_of m stuck_duals (empty m)) (λ r. kept (is_in g.limits r) (left_here r)) (rows m) left_of_row
      ∙ sym (sum_by-filter left_here (is_in g.limits) (rows m))
      ∙ ap (sum_by left_here) (sym (in_order-filter m g.limits))
      ∙ sum_by-members left_here (λ r. turned (row_name m r) *ℚ at_corner (row_name m r) +ℚ kept (is_soft m r) (column_part r)) (in_order m g.limits) each
      ∙ sum_by-plus (λ r. turned (row_name m r) *ℚ at_corner (row_name m r)) (λ r. kept (is_soft m r) (column_part r)) (in_order m g.limits)
      ∙ ap (λ t. sum_by (λ r. turned (row_name m r) *ℚ at_corner (row_name m r)) (in_order m g.limits) +ℚ t) (sym (sum_by-filter column_part (is_soft m) (in_order m g.limits)))
    where
      each : (r : Row) → Contains (in_order m g.limits) r → left_here r ≡ turned (row_name m r) *ℚ at_corner (row_name m r) +ℚ kept (is_soft m r) (column_part r)
      each r c =
          let named = row_in m apart g r c in
          let low = low-row m apart g r c in
          let high = high-row m apart g r c in
          by_ring ring_ℚ (up r ∷ down r ∷ limit m r ∷ most_excess m r ∷ flow m (empty m) r ∷ []) (at 0 ⊗ ((at 2 ⊕ at 3) ⊕ pneg (at 4)) ⊕ (at 1 ⊗ ((at 2 ⊕ at 3) ⊕ at 4) ⊕ pnil))
          ((at 0 ⊗ (at 2 ⊕ pneg (at 4)) ⊕ (at 1 ⊗ (at 2 ⊕ at 4) ⊕ pnil)) ⊕ (at 0 ⊗ at 3 ⊕ at 1 ⊗ at 3)) refl
          ∙ ap₂ ◌+ℚ◌
          (row_most (turned (row_name m r)) (limit m r) (flow m (empty m) r) (at_corner (row_name m r))
          (subst (λ t. t ≤ℚ at_corner (row_name m r)) low (within.low (row_name m r) named))
          (subst (λ t. at_corner (row_name m r) ≤ℚ t) high (within.high (row_name m r) named))
          (λ t p q. most_at (row_name m r) named t (subst (λ x. x ≤ℚ t) (sym low) p) (subst (λ x. t ≤ℚ x) (sym high) q)))
          (columns_most r c)

  all_parts : (f : ℕ → Fraction) → sum_by f s.variables
      ≡ ((sum_by f (places (length m.blocks)) +ℚ sum_by (λ r. f (over_name m r) +ℚ f (under_name m r)) (soft m (taken_in_order m g))) +ℚ sum_by (λ n. f (offer_name m n)) (offer_places m))
      +ℚ ((f (balance_name m) +ℚ sum_by (λ r. f (row_name m r)) (in_order m g.limits)) +ℚ (kept m.reserve.listed (f (need_name m)) +ℚ sum_by (λ u. f (room_name m u)) (rooms_in_order m g.rooms)))
  all_parts f = both_parts m apart g f ∙ ap₂ ◌+ℚ◌ (sum-columns m (taken_in_order m g) f) (sum-rows m (taken_in_order m g) f)

  abbrev made : ℕ → Fraction
  made w = turned w *ℚ at_corner w

  reaches : sum_by made s.variables ≡ margin s h b above
  reaches = combined_turned (corner s h b above) ∙ corner_reaches s h system b stuck.basic above

  -- the bound of the duals is at most what the variable leaves of the bound that it violates
  pub stuck_bound : farkas_bound m stuck_duals ≤ℚ margin s h b above
  stuck_bound =
      let blocks : Fraction = sum_by made (places (length m.blocks)) in
      let offers : Fraction = sum_by (λ n. made (offer_name m n)) (offer_places m) in
      let limits : Fraction = sum_by (λ r. made (row_name m r)) (in_order m g.limits) in
      let excesses : Fraction = sum_by column_part (soft m (taken_in_order m g)) in
      let need : Fraction = kept m.reserve.listed (made (need_name m)) in
      let rooms : Fraction = sum_by (λ u. made (room_name m u)) (rooms_in_order m g.rooms) in
      let ups : Fraction = sum_by room_up (rooms_in_order m g.rooms) in
      let lows : Fraction = sum_by room_low (rooms_in_order m g.rooms) in
      let asked : Fraction = neg_ℚ (stuck_duals.reserve *ℚ reserve_need m) in
      let lacked : Fraction = lack need_price *ℚ reserve_offered m in
      subst₂ ◌≤ℚ◌
      (sym
      (farkas_bound-by_parts m stuck_duals market
      ∙ ap (λ t. t +ℚ (blocks_most m stuck_duals +ℚ offers_most m stuck_duals))
      (ap₂ ◌+ℚ◌ (ap₂ ◌+ℚ◌ balance_most rows_most) (ap (λ t. asked +ℚ t) rooms_up))))
      (ap (λ t. (((made (balance_name m) +ℚ (limits +ℚ excesses)) +ℚ (need +ℚ t)) +ℚ (blocks +ℚ offers))) rooms_most
      ∙ by_ring ring_ℚ (made (balance_name m) ∷ limits ∷ excesses ∷ blocks ∷ offers ∷ need ∷ rooms ∷ [])
      (((at 0 ⊕ (at 1 ⊕ at 2)) ⊕ (at 5 ⊕ at 6)) ⊕ (at 3 ⊕ at 4)) (((at 3 ⊕ at 2) ⊕ at 4) ⊕ ((at 0 ⊕ at 1) ⊕ (at 5 ⊕ at 6))) refl
      ∙ sym (all_parts made) ∙ reaches)
      (≤ℚ_trans
      (((made (balance_name m) +ℚ (limits +ℚ excesses)) +ℚ (asked +ℚ ups)) +ℚ (blocks_most m stuck_duals +ℚ offers_most m stuck_duals))
      (((made (balance_name m) +ℚ (limits +ℚ excesses)) +ℚ ((need -ℚ lacked) +ℚ ups)) +ℚ ((blocks +ℚ lows) +ℚ (offers +ℚ lacked)))
      (((made (balance_name m) +ℚ (limits +ℚ excesses)) +ℚ (need +ℚ (ups +ℚ lows))) +ℚ (blocks +ℚ offers))
      (+ℚ-≤ℚ ((made (balance_name m) +ℚ (limits +ℚ excesses)) +ℚ (asked +ℚ ups)) ((made (balance_name m) +ℚ (limits +ℚ excesses)) +ℚ ((need -ℚ lacked) +ℚ ups))
      (blocks_most m stuck_duals +ℚ offers_most m stuck_duals) ((blocks +ℚ lows) +ℚ (offers +ℚ lacked))
      (by_le1 ((made (balance_name m) +ℚ (limits +ℚ excesses)) ∷ asked ∷ ups ∷ need ∷ lacked ∷ []) (at 0 ⊕ (at 1 ⊕ at 2)) (at 0 ⊕ ((at 3 ⊕ pneg (at 4)) ⊕ at 2)) pone (at 1 ⊕ at 4) (at 3) NonNeg-one needs_most refl)
      (+ℚ-≤ℚ (blocks_most m stuck_duals) (blocks +ℚ lows) (offers_most m stuck_duals) (offers +ℚ lacked)
      (≤ℚ_trans (blocks_most m stuck_duals) (blocks +ℚ sum_by low_part (places (length m.blocks))) (blocks +ℚ lows) blocks_at_most
      (+ℚ-≤ℚ blocks blocks (sum_by low_part (places (length m.blocks))) lows (≤ℚ_refl blocks) lows_at_most))
      offers_at_most))
      (≤ℚ_of_same _ _
      (by_ring ring_ℚ ((made (balance_name m) +ℚ (limits +ℚ excesses)) ∷ need ∷ lacked ∷ ups ∷ blocks ∷ lows ∷ offers ∷ [])
      ((at 0 ⊕ ((at 1 ⊕ pneg (at 2)) ⊕ at 3)) ⊕ ((at 4 ⊕ at 5) ⊕ (at 6 ⊕ at 2))) ((at 0 ⊕ (at 1 ⊕ (at 3 ⊕ at 5))) ⊕ (at 4 ⊕ at 6)) refl)))

  -- in a market of energy alone it is just that
  pub stuck_bound_alone : m.reserve.listed ≡ false → farkas_bound m stuck_duals ≡ margin s h b above
  stuck_bound_alone e =
      let blocks : Fraction = sum_by made (places (length m.blocks)) in
      let limits : Fraction = sum_by (λ r. made (row_name m r)) (in_order m g.limits) in
      let excesses : Fraction = sum_by column_part (soft m (taken_in_order m g)) in
      farkas_bound-alone m stuck_duals alone
      ∙ ap₂ (λ (x y : Fraction). x +ℚ y) balance_most (ap₂ (λ (x y : Fraction). x +ℚ y) rows_most blocks_same)
      ∙ by_ring ring_ℚ (made (balance_name m) ∷ limits ∷ excesses ∷ blocks ∷ [])
      (at 0 ⊕ ((at 1 ⊕ at 2) ⊕ at 3)) (((at 3 ⊕ at 2) ⊕ pnil) ⊕ ((at 0 ⊕ at 1) ⊕ (pnil ⊕ pnil))) refl
      ∙ sym
      (all_parts made
      ∙ ap₂ (λ (x y : Fraction). ((blocks +ℚ excesses) +ℚ x) +ℚ ((made (balance_name m) +ℚ limits) +ℚ y))
      (ap (sum_by (λ n. made (offer_name m n))) (no_places m alone))
      (ap₂ ◌+ℚ◌ (ap (λ (t : Bool). kept t (made (need_name m))) e) (ap (sum_by (λ u. made (room_name m u))) no_rooms)))
      ∙ reaches
    where
      alone : m.reserve ≡ no_reserve
      alone = market.reserve.unlisted e

      no_rooms : rooms_in_order m g.rooms ≡ []
      no_rooms = rooms_in_order-filter m g.rooms ∙ ap (filter (is_among g.rooms)) (no_units m alone)

      no_cost : (u : ℕ) → room_cost u ≡ nil
      no_cost u = ap (λ (r : Reserve). kept (offers_among r.offers u && is_among g.rooms u) (turned (room_name m u))) alone

      same_cost : (u : ℕ) → room_price m stuck_duals u ≡ room_cost u
      same_cost u = room_price_is u ∙ ap part_above (no_cost u) ∙ part_at_most nil (≤ℚ_refl nil) ∙ sym (no_cost u)

      blocks_same : blocks_most m stuck_duals ≡ sum_by made (places (length m.blocks))
      blocks_same = sum_by-members (λ j. part_above (block_weight m stuck_duals j) *ℚ quantity m j) made (places (length m.blocks)) (λ j c. each j (Contains-from_places (length m.blocks) j c))
        where
          each : (j : ℕ) → j < length m.blocks → part_above (block_weight m stuck_duals j) *ℚ quantity m j ≡ turned j *ℚ at_corner j
          each j lt =
              ap (λ k. part_above k *ℚ quantity m j)
              (ap (λ t. signed_by_side (block_at m j).side (unit_price m stuck_duals (block_at m j).unit -ℚ t)) (same_cost (block_at m j).unit) ∙ block_multiplier j lt)
              ∙ block_most_is j lt

  -- so they show that nothing is feasible, and they are proper
  pub stuck_shows : ShowsInfeasible m stuck_duals
  stuck_shows = record {
    up_signs = λ r c. subst (λ t. nil ≤ℚ t) (sym (up-made m names turned g r c)) (by (is_in g.limits r) (up_sign (turned (row_name m r))));
    down_signs = λ r c. subst (λ t. nil ≤ℚ t) (sym (down-made m names turned g r c)) (by (is_in g.limits r) (down_sign (turned (row_name m r))));
    need_sign = signed m.reserve.listed;
    room_signs = λ u c. subst (λ t. nil ≤ℚ t) (sym (room_price_is u)) (part_least (room_cost u)).0;
    below = ≤ℚ-<ℚ_trans (farkas_bound m stuck_duals) (margin s h b above) nil stuck_bound (margin_below s h system b stuck.basic above stuck.violates);
  }
    where
      by : (t : Bool) {x : Fraction} → nil ≤ℚ x → nil ≤ℚ (if t then x else nil)
      by true p = p
      by false p = ≤ℚ_refl nil

      signed : (t : Bool) → nil ≤ℚ (if t then part_above need_price else nil)
      signed true = (part_least need_price).0
      signed false = ≤ℚ_refl nil

  pub stuck_proper : ProperDuals m stuck_duals
  stuck_proper = proper-made m names turned g market

  -- and their numbers are those of the choice
  turned_size : (w : ℕ) → SameSize (turned w) (multiplier h b w)
  turned_size w = by above
    where
      by : (a : Bool) → SameSize (opposite_if (not a) (multiplier h b w)) (multiplier h b w)
      by true = inl refl
      by false = inr refl

  neg_size : (x y : Fraction) → SameSize x y → SameSize (neg_ℚ x) y
  neg_size x y (inl e) = inr (ap neg_ℚ e)
  neg_size x y (inr e) = inl (ap neg_ℚ e ∙ by_ring ring_ℚ (y ∷ []) (pneg (pneg (at 0))) (at 0) refl)

  pub stuck_of_choice : ((r : Row) → Contains g.limits r → Contains (rows m) r) → IsFarkasOf m g h stuck_duals
  stuck_of_choice all = record {
    shows = stuck_shows;
    basic = b;
    is_basic = stuck.basic;
    energy = neg_size (turned (balance_name m)) (multiplier h b (balance_name m)) (turned_size (balance_name m));
    limits = λ r c. subst (λ x. SameSize x (multiplier h b (row_name m r))) (sym (by_net_prices r (all r c) (is_in-in g.limits r c))) (turned_size (row_name m r));
    one_sided = λ r c. elim (one_is_nil (turned (row_name m r))) [
      | inl e ↦ inl (up-made m names turned g r (all r c) ∙ ap (λ (t : Bool). if t then up_by (sign_of (costs r)) (costs r) else nil) (is_in-in g.limits r c) ∙ e)
      | inr e ↦ inr (down-made m names turned g r (all r c) ∙ ap (λ (t : Bool). if t then down_by (sign_of (costs r)) (costs r) else nil) (is_in-in g.limits r c) ∙ e)
    ];
    no_others = prices_only-made m names turned g;
    above = above;
    reserve = refl;
    rooms = λ u c k. room_price_is u ∙ ap (λ (t : Bool). part_above (kept t (turned (room_name m u)))) (takes u c k);
    no_other_rooms = λ u out. room_price_is u ∙ ap part_above (absent u out (is_among g.rooms u) refl (offers_reserve m u)) ∙ part_at_most nil (≤ℚ_refl nil);
  }
    where
      takes : (u : ℕ) → Contains g.rooms u → Contains (reserve_units m) u → takes_room m g.rooms u ≡ true
      takes u c k = ap₂ ◌&&◌ (listed-offers m u k) (is_among-in g.rooms u c)

      absent : (u : ℕ) → ¬ (Contains g.rooms u) → (t : Bool) → is_among g.rooms u ≡ t → (o : Bool) → kept (o && is_among g.rooms u) (turned (room_name m u)) ≡ nil
      absent u out true k o = absurd (out (is_among-from g.rooms u k))
      absent u out false k true = ap (λ (t : Bool). kept t (turned (room_name m u))) k
      absent u out false k false = refl

      costs : Row → Fraction
      costs r = turned (row_name m r)

      by_net_prices : (r : Row) → Contains (rows m) r → is_in g.limits r ≡ true → net_shadow_price m stuck_duals r ≡ costs r
      by_net_prices r c e = net_price-made m names turned g r c ∙ ap (λ (t : Bool). if t then costs r else nil) e
