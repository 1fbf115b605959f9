-- Duals that are made of what a MW costs on each variable.
use Rattle.std.specs.Prelude.{◌≡◌, ◌≢◌, ℕ, ◌<◌, ◌==◌, ◌&&◌, ◌||◌, Bool, true, false, List, [], ◌∷◌, ◌++◌, length, map, filter, if◌then◌else◌, All, AllPairs, Contains, cond, refl, ◌⊎◌}
use Rattle.std.specs.List.{flat_map}
use Rattle.std.proofs.Common.{zero, suc, arith, ap, ap₂, sym, ◌∙◌, subst, inl, inr, get_or}
use Rattle.std.proofs.lemmas.Bool.Decides.{eqb_tells}
use Rattle.std.proofs.lemmas.List.Elements.{All-append, All-cons, All-nil}
use Rattle.fraction_theory.specs.Fraction.{Fraction, neg_ℚ, ◌-ℚ◌}
use Rattle.fraction_theory.specs.Order.{◌≤ℚ◌, ◌<ℚ◌}
use Rattle.fraction_theory.specs.Signs.{sign_of, where_above, part_above}
use Rattle.fraction_theory.specs.declared.Sign.{Sign}
use Rattle.fraction_theory.specs.declared.Sign.TheVariants.{Below, Zero, Above}
use Rattle.fraction_theory.proofs.Ring.{by_ring, at, pnil, pone, pneg, ◌⊕◌}
use Rattle.fraction_theory.proofs.FieldLaws.{ring_ℚ}
use Rattle.fraction_theory.proofs.OrderLaws.{≤ℚ_refl, ≤ℚ_of_same, <ℚ-≤ℚ, <ℚ_irrefl, by_le1, NonNeg-one}
use Rattle.fraction_theory.proofs.SignLaws.{sign_of_is, part_at_least, part_at_most, part_least}
use Rattle.fraction_theory.proofs.ListSums.{kept, Contains-head, Contains-cons, Contains-filter, Contains-from_filter, filter-members}
use Rattle.simplex_theory.proofs.Signs.{neg_above}
use Rattle.market_model.specs.declared.answered.Dual.{Dual}
use Rattle.market_model.specs.declared.answered.Duals.{Duals}
use Rattle.market_model.specs.declared.answered.RoomDual.{RoomDual}
use Rattle.market_model.specs.declared.answered.RowId.{RowId}
use Rattle.market_model.specs.declared.participants.Parts.{Parts}
use Rattle.market_model.specs.declared.participants.ReserveOffer.{ReserveOffer}
use Rattle.market_model.specs.Dispatch.{zero as nil, places, unit_at}
use Rattle.market_model.specs.declared.limits.Row.{Row}
use Rattle.market_model.specs.LimitRows.{rows, row_id}
use Rattle.market_model.specs.Market.{IsMarket, IsReserveOffer}
use Rattle.market_model.specs.Optimality.{Taken, same_id, up_in, down_in, up_of, down_of, net_shadow_price, names_row, room_price, room_price_in, names_room, IsOneSided, ProperDuals}
use Rattle.market_model.specs.Reserves.{offers_among, offers_reserve, reserve_units}
use Rattle.market_model.proofs.RoomLemmas.{listed-inside, offers-listed}
use Rattle.limit_rows.proofs.ApartLemmas.{unit_of_row}
use Rattle.market_system.specs.Growth.{PricesOnly}
use Rattle.market_system.specs.MarketSystem.{row_name, room_name, need_name, is_in, in_order, is_among, rooms_in_order, dual_by, room_dual_by, duals_by_cost}
use Rattle.market_system.proofs.RowOrder.{RowsApart, row_or_not, is_in-in, is_in-from, in_order-in, in_order-from, in_order-filter, is_among-in, is_among-from, rooms_in_order-filter, and_true, same_number, same_row-not, same_row-itself}

-- rows of a market have different names
abbrev pub NamesApart : Parts → Type 0
NamesApart m = AllPairs (λ (a b : Row). row_id m a ≢ row_id m b) (rows m)

pub rows_apart : (m : Parts) → NamesApart m → RowsApart m
rows_apart m names i j d lt h e = names i j d lt h (ap (row_id m) e)

same_id-is : (a b : RowId) → same_id a b ≡ true → a ≡ b
same_id-is a b h =
    let both = and_true ((a.branch == b.branch) && (a.outage == b.outage)) (a.unit == b.unit) h in
    let lines = and_true (a.branch == b.branch) (a.outage == b.outage) both.0 in
    let branches = same_number a.branch b.branch lines.0 in
    let outages = same_number a.outage b.outage lines.1 in
    let units = same_number a.unit b.unit both.1 in
    λ i. record { branch = branches i; outage = outages i; unit = units i }

same_id-itself : (a : RowId) → same_id a a ≡ true
same_id-itself a = ap₂ ◌&&◌ (ap₂ ◌&&◌ (itself a.branch) (itself a.outage)) (itself a.unit)
  where
    itself : (n : ℕ) → (n == n) ≡ true
    itself n = elim (eqb_tells n n) [ inl t ↦ t.0 | inr t ↦ absurd (t.1 refl) ]

same_id-not : (a b : RowId) → a ≢ b → same_id a b ≡ false
same_id-not a b n = by (same_id a b) refl
  where
    by : (t : Bool) → same_id a b ≡ t → same_id a b ≡ false
    by true e = absurd (n (same_id-is a b e))
    by false e = e

-- ---- the two prices by the sign of a cost
unfoldable pub up_by : Sign → Fraction → Fraction
up_by Below x = nil
up_by Zero x = nil
up_by Above x = x

unfoldable pub down_by : Sign → Fraction → Fraction
down_by Below x = neg_ℚ x
down_by Zero x = nil
down_by Above x = nil

-- whether a row of this sign is named
named_by : Sign → Bool
named_by Below = true
named_by Zero = false
named_by Above = true

pub up_less_down : (x : Fraction) → up_by (sign_of x) x -ℚ down_by (sign_of x) x ≡ x
unfolding up_by down_by
up_less_down x = by (sign_of x) refl
  where
    by : (s : Sign) → s ≡ sign_of x → up_by s x -ℚ down_by s x ≡ x
    by Below e = by_ring ring_ℚ (x ∷ []) (pnil ⊕ pneg (pneg (at 0))) (at 0) refl
    by Zero e = by_ring ring_ℚ [] (pnil ⊕ pneg pnil) pnil refl ∙ sym (sign_of_is x Zero e)
    by Above e = by_ring ring_ℚ (x ∷ []) (at 0 ⊕ pneg pnil) (at 0) refl

neg_is_above : (x : Fraction) → x <ℚ nil → nil <ℚ neg_ℚ x
neg_is_above x l = subst (λ t. t <ℚ neg_ℚ x) (by_ring ring_ℚ [] (pneg pnil) pnil refl) (neg_above x nil l)

-- they are the parts above 0 of the cost and of its opposite
pub up_is_part : (x : Fraction) → up_by (sign_of x) x ≡ part_above x
unfolding up_by
up_is_part x = by (sign_of x)
  where
    by : (s : Sign) → up_by s x ≡ where_above s x
    by Below = refl
    by Zero = refl
    by Above = refl

pub down_is_part : (x : Fraction) → down_by (sign_of x) x ≡ part_above (neg_ℚ x)
unfolding down_by
down_is_part x = by (sign_of x) refl
  where
    by : (s : Sign) → s ≡ sign_of x → down_by s x ≡ part_above (neg_ℚ x)
    by Below e = sym (part_at_least (neg_ℚ x) (<ℚ-≤ℚ nil (neg_ℚ x) (neg_is_above x (sign_of_is x Below e))))
    by Zero e = sym (part_at_most (neg_ℚ x) (≤ℚ_of_same (neg_ℚ x) nil (ap neg_ℚ (sign_of_is x Zero e) ∙ by_ring ring_ℚ [] (pneg pnil) pnil refl)))
    by Above e = sym (part_at_most (neg_ℚ x) (by_le1 (x ∷ []) (pneg (at 0)) pnil pone pnil (at 0) NonNeg-one (<ℚ-≤ℚ nil x (sign_of_is x Above e)) refl))

pub up_sign : (x : Fraction) → nil ≤ℚ up_by (sign_of x) x
up_sign x = subst (λ t. nil ≤ℚ t) (sym (up_is_part x)) (part_least x).0

pub down_sign : (x : Fraction) → nil ≤ℚ down_by (sign_of x) x
down_sign x = subst (λ t. nil ≤ℚ t) (sym (down_is_part x)) (part_least (neg_ℚ x)).0

-- a price is no less than what a MW costs on its side, and where it is above 0 it is that
pub up_most : (x : Fraction) → x ≤ℚ up_by (sign_of x) x
up_most x = subst (λ t. x ≤ℚ t) (sym (up_is_part x)) (part_least x).1

pub down_most : (x : Fraction) → neg_ℚ x ≤ℚ down_by (sign_of x) x
down_most x = subst (λ t. neg_ℚ x ≤ℚ t) (sym (down_is_part x)) (part_least (neg_ℚ x)).1

pub up_is : (x : Fraction) → nil <ℚ up_by (sign_of x) x → up_by (sign_of x) x ≡ x
unfolding up_by
up_is x = by (sign_of x)
  where
    by : (s : Sign) → nil <ℚ up_by s x → up_by s x ≡ x
    by Below l = absurd (<ℚ_irrefl nil l)
    by Zero l = absurd (<ℚ_irrefl nil l)
    by Above l = refl

pub down_is : (x : Fraction) → nil <ℚ down_by (sign_of x) x → down_by (sign_of x) x ≡ neg_ℚ x
unfolding down_by
down_is x = by (sign_of x)
  where
    by : (s : Sign) → nil <ℚ down_by s x → down_by s x ≡ neg_ℚ x
    by Below l = refl
    by Zero l = absurd (<ℚ_irrefl nil l)
    by Above l = absurd (<ℚ_irrefl nil l)

-- one of the two is 0
pub one_is_nil : (x : Fraction) → (up_by (sign_of x) x ≡ nil) ⊎ (down_by (sign_of x) x ≡ nil)
unfolding up_by down_by
one_is_nil x = by (sign_of x)
  where
    by : (s : Sign) → (up_by s x ≡ nil) ⊎ (down_by s x ≡ nil)
    by Below = inl refl
    by Zero = inl refl
    by Above = inr refl

-- ---- units that offer reserve, and the rooms of some of them
offers_among-offer : (os : List ReserveOffer) (u : ℕ) → offers_among os u ≡ true → (o : ReserveOffer) × Contains os o × (o.unit ≡ u)
offers_among-offer [] u h = absurd Prim.cc
offers_among-offer (o ∷ os) u h = by (eqb_tells o.unit u) h (offers_among-offer os u)
  where
    behind : (p : ReserveOffer) × Contains os p × (p.unit ≡ u) → (p : ReserveOffer) × Contains (o ∷ os) p × (p.unit ≡ u)
    behind (p, c, e) = (p, Contains-cons o os p c, e)

    by : ((o.unit == u ≡ true) × (o.unit ≡ u)) ⊎ ((o.unit == u ≡ false) × (o.unit ≢ u)) → ((o.unit == u) || offers_among os u) ≡ true
        → (offers_among os u ≡ true → (p : ReserveOffer) × Contains os p × (p.unit ≡ u)) → (p : ReserveOffer) × Contains (o ∷ os) p × (p.unit ≡ u)
    by (inl t) k more = (o, Contains-head o os, t.1)
    by (inr t) k more = behind (more (sym (ap (λ (b : Bool). b || offers_among os u) t.0) ∙ k))

-- a unit that offers reserve is one of the market's
pub reserve_unit-below : (m : Parts) → IsMarket m → (u : ℕ) → offers_reserve m u ≡ true → u < length m.units
reserve_unit-below m market u h =
    let (o, c, e) = offers_among-offer m.reserve.offers u h in
    let is : IsReserveOffer (length m.units) o = subst (IsReserveOffer (length m.units)) c.2 (market.reserve.each c.0 o c.1) in
    subst (λ (w : ℕ). w < length m.units) e is.unit

pub both_filters : {T : Type 0} (p q : T → Bool) (xs : List T) → filter q (filter p xs) ≡ filter (λ x. p x && q x) xs
both_filters p q [] = refl
both_filters {T} p q (r ∷ rs) = by (p r) (both_filters p q rs)
  where
    by : (b : Bool) → filter q (filter p rs) ≡ filter (λ x. p x && q x) rs → filter q (cond b (r ∷ filter p rs) (filter p rs)) ≡ cond (b && q r) (r ∷ filter (λ x. p x && q x) rs) (filter (λ x. p x && q x) rs)
    by true more = ap (λ (rest : List T). cond (q r) (r ∷ rest) rest) more
    by false more = more

-- whether a unit's room is taken: it offers reserve, and is in the list
abbrev pub takes_room : Parts → List ℕ → ℕ → Bool
takes_room m ws u = offers_reserve m u && is_among ws u

-- these are the units whose rooms are taken
pub rooms_in_order-places : (m : Parts) (ws : List ℕ) → rooms_in_order m ws ≡ filter (takes_room m ws) (places (length m.units))
rooms_in_order-places m ws = rooms_in_order-filter m ws ∙ both_filters (offers_reserve m) (is_among ws) (places (length m.units))

among_kept : (p : ℕ → Bool) (xs : List ℕ) (u : ℕ) → Contains xs u → is_among (filter p xs) u ≡ p u
among_kept p xs u c = by (p u) refl (is_among (filter p xs) u) refl
  where
    by : (b : Bool) → p u ≡ b → (t : Bool) → is_among (filter p xs) u ≡ t → is_among (filter p xs) u ≡ p u
    by true e true f = f ∙ sym e
    by true e false f = let wrong : true ≡ false = sym (is_among-in (filter p xs) u (Contains-filter p xs u c e)) ∙ f in absurd cc
    by false e true f = let wrong : true ≡ false = sym (Contains-from_filter p xs u (is_among-from (filter p xs) u f)).1 ∙ e in absurd cc
    by false e false f = f ∙ sym e

-- ---- lists of prices of rooms
priced_by : Sign → Bool
priced_by Below = false
priced_by Zero = false
priced_by Above = true

pub same_itself : (n : ℕ) → (n == n) ≡ true
same_itself n = elim (eqb_tells n n) [ inl t ↦ t.0 | inr t ↦ absurd (t.1 refl) ]

module _ (m : Parts) (market : IsMarket m) (cost_of : ℕ → Fraction) where
  abbrev room_cost : ℕ → Fraction
  room_cost u = cost_of (room_name m u)

  abbrev room_duals_of : ℕ → List (RoomDual Fraction)
  room_duals_of u = room_dual_by (unit_at m u).row (room_cost u) (sign_of (room_cost u))

  abbrev room_duals : List ℕ → List (RoomDual Fraction)
  room_duals ws = flat_map room_duals_of ws

  rows_differ : (w u : ℕ) → w < length m.units → u < length m.units → w ≢ u → ((unit_at m w).row == (unit_at m u).row) ≡ false
  rows_differ w u p q n = elim (eqb_tells (unit_at m w).row (unit_at m u).row) [ inl t ↦ absurd (n (unit_of_row m market w u p q t.1)) | inr t ↦ t.0 ]

  price_in_list : (ws : List ℕ) → ((w : ℕ) → Contains ws w → w < length m.units) → (u : ℕ) → u < length m.units
      → room_price_in (room_duals ws) (unit_at m u).row ≡ (if is_among ws u then part_above (room_cost u) else nil)
  price_in_list [] all u lt = refl
  price_in_list (w ∷ ws) all u lt = by (eqb_tells w u) (price_in_list ws (λ v c. all v (Contains-cons w ws v c)) u lt)
    where
      nothing : (b : Bool) → (if b then nil else nil) ≡ nil
      nothing true = refl
      nothing false = refl

      at_head : (t : Sign) → sign_of (room_cost u) ≡ t → room_price_in (room_duals ws) (unit_at m u).row ≡ (if is_among ws u then part_above (room_cost u) else nil) → room_price_in (room_dual_by (unit_at m u).row (room_cost u) t ++ room_duals ws) (unit_at m u).row ≡ where_above t (room_cost u)
      at_head Below e more = more ∙ ap (λ (s : Sign). if is_among ws u then where_above s (room_cost u) else nil) e ∙ nothing (is_among ws u)
      at_head Zero e more = more ∙ ap (λ (s : Sign). if is_among ws u then where_above s (room_cost u) else nil) e ∙ nothing (is_among ws u)
      at_head Above e more = ap (λ (b : Bool). if b then room_cost u else room_price_in (room_duals ws) (unit_at m u).row) (same_itself (unit_at m u).row)

      skipped : w ≢ u → (t : Sign) → room_price_in (room_dual_by (unit_at m w).row (room_cost w) t ++ room_duals ws) (unit_at m u).row ≡ room_price_in (room_duals ws) (unit_at m u).row
      skipped n Below = refl
      skipped n Zero = refl
      skipped n Above = ap (λ (b : Bool). if b then room_cost w else room_price_in (room_duals ws) (unit_at m u).row) (rows_differ w u (all w (Contains-head w ws)) lt n)

      by : ((w == u ≡ true) × (w ≡ u)) ⊎ ((w == u ≡ false) × (w ≢ u)) → room_price_in (room_duals ws) (unit_at m u).row ≡ (if is_among ws u then part_above (room_cost u) else nil)
          → room_price_in (room_duals_of w ++ room_duals ws) (unit_at m u).row ≡ (if (w == u) || is_among ws u then part_above (room_cost u) else nil)
      by (inl t) more =
          ap (λ (x : ℕ). room_price_in (room_duals_of x ++ room_duals ws) (unit_at m u).row) t.1
          ∙ at_head (sign_of (room_cost u)) refl more
          ∙ sym (ap (λ (b : Bool). if b || is_among ws u then part_above (room_cost u) else nil) t.0)
      by (inr t) more =
          skipped t.1 (sign_of (room_cost w)) ∙ more
          ∙ sym (ap (λ (b : Bool). if b || is_among ws u then part_above (room_cost u) else nil) t.0)

  named_room_in_list : (ws : List ℕ) → ((w : ℕ) → Contains ws w → w < length m.units) → (u : ℕ) → u < length m.units
      → names_room (room_duals ws) (unit_at m u).row ≡ (is_among ws u && priced_by (sign_of (room_cost u)))
  unfolding priced_by
  named_room_in_list [] all u lt = refl
  named_room_in_list (w ∷ ws) all u lt = by (eqb_tells w u) (named_room_in_list ws (λ v c. all v (Contains-cons w ws v c)) u lt)
    where
      nothing : (b : Bool) → (b && false) ≡ false
      nothing true = refl
      nothing false = refl

      at_head : (t : Sign) → sign_of (room_cost u) ≡ t → names_room (room_duals ws) (unit_at m u).row ≡ (is_among ws u && priced_by (sign_of (room_cost u))) → names_room (room_dual_by (unit_at m u).row (room_cost u) t ++ room_duals ws) (unit_at m u).row ≡ priced_by t
      at_head Below e more = more ∙ ap (λ (s : Sign). is_among ws u && priced_by s) e ∙ nothing (is_among ws u)
      at_head Zero e more = more ∙ ap (λ (s : Sign). is_among ws u && priced_by s) e ∙ nothing (is_among ws u)
      at_head Above e more = ap (λ (b : Bool). b || names_room (room_duals ws) (unit_at m u).row) (same_itself (unit_at m u).row)

      skipped : w ≢ u → (t : Sign) → names_room (room_dual_by (unit_at m w).row (room_cost w) t ++ room_duals ws) (unit_at m u).row ≡ names_room (room_duals ws) (unit_at m u).row
      skipped n Below = refl
      skipped n Zero = refl
      skipped n Above = ap (λ (b : Bool). b || names_room (room_duals ws) (unit_at m u).row) (rows_differ w u (all w (Contains-head w ws)) lt n)

      by : ((w == u ≡ true) × (w ≡ u)) ⊎ ((w == u ≡ false) × (w ≢ u)) → names_room (room_duals ws) (unit_at m u).row ≡ (is_among ws u && priced_by (sign_of (room_cost u)))
          → names_room (room_duals_of w ++ room_duals ws) (unit_at m u).row ≡ (((w == u) || is_among ws u) && priced_by (sign_of (room_cost u)))
      by (inl t) more =
          ap (λ (x : ℕ). names_room (room_duals_of x ++ room_duals ws) (unit_at m u).row) t.1
          ∙ at_head (sign_of (room_cost u)) refl more
          ∙ sym (ap (λ (b : Bool). (b || is_among ws u) && priced_by (sign_of (room_cost u))) t.0)
      by (inr t) more =
          skipped t.1 (sign_of (room_cost w)) ∙ more
          ∙ sym (ap (λ (b : Bool). (b || is_among ws u) && priced_by (sign_of (room_cost u))) t.0)

  rooms_named_of : (ws : List ℕ) → map (λ d. d.unit) (room_duals ws) ≡ map (λ u. (unit_at m u).row) (filter (λ u. priced_by (sign_of (room_cost u))) ws)
  unfolding priced_by
  rooms_named_of [] = refl
  rooms_named_of (w ∷ ws) = by (sign_of (room_cost w)) (rooms_named_of ws)
    where
      by : (t : Sign) → map (λ d. d.unit) (room_duals ws) ≡ map (λ u. (unit_at m u).row) (filter (λ u. priced_by (sign_of (room_cost u))) ws)
          → map (λ d. d.unit) (room_dual_by (unit_at m w).row (room_cost w) t ++ room_duals ws)
          ≡ map (λ u. (unit_at m u).row) (cond (priced_by t) (w ∷ filter (λ u. priced_by (sign_of (room_cost u))) ws) (filter (λ u. priced_by (sign_of (room_cost u))) ws))
      by Below more = more
      by Zero more = more
      by Above more = ap (λ rows. (unit_at m w).row ∷ rows) more

  abbrev IsPriced : RoomDual Fraction → Type 0
  IsPriced e = nil <ℚ e.price

  rooms_priced_of : (ws : List ℕ) → All IsPriced (room_duals ws)
  rooms_priced_of [] = All-nil IsPriced
  rooms_priced_of (w ∷ ws) = All-append IsPriced (room_duals_of w) (room_duals ws) (by (sign_of (room_cost w)) refl) (rooms_priced_of ws)
    where
      by : (t : Sign) → t ≡ sign_of (room_cost w) → All IsPriced (room_dual_by (unit_at m w).row (room_cost w) t)
      by Below e = All-nil IsPriced
      by Zero e = All-nil IsPriced
      by Above e = All-cons IsPriced (record { unit = (unit_at m w).row; price = room_cost w }) [] (sign_of_is (room_cost w) Above e) (All-nil IsPriced)

  -- ---- of the rooms that are taken
  module _ (t : Taken) where
    -- what a MW on a unit's room costs, where it is taken
    abbrev pub room_cost_of : ℕ → Fraction
    room_cost_of u = kept (takes_room m t.rooms u) (cost_of (room_name m u))

    in_units : (w : ℕ) → Contains (rooms_in_order m t.rooms) w → w < length m.units
    in_units w c = listed-inside m w (Contains-from_filter (is_among t.rooms) (reserve_units m) w (subst (λ ws. Contains ws w) (rooms_in_order-filter m t.rooms) c)).0

    among_in_order : (u : ℕ) → Contains (reserve_units m) u → is_among (rooms_in_order m t.rooms) u ≡ is_among t.rooms u
    among_in_order u c = ap (λ ws. is_among ws u) (rooms_in_order-filter m t.rooms) ∙ among_kept (is_among t.rooms) (reserve_units m) u c

    pub room_price-made : (u : ℕ) → room_price m (duals_by_cost m t cost_of) u ≡ part_above (room_cost_of u)
    room_price-made u = by (offers_reserve m u) refl
      where
        chosen : (b : Bool) (x : Fraction) → (if b then part_above x else nil) ≡ part_above (kept b x)
        chosen true x = refl
        chosen false x = sym (part_at_most nil (≤ℚ_refl nil))

        by : (b : Bool) → offers_reserve m u ≡ b → (if b then room_price_in (room_duals (rooms_in_order m t.rooms)) (unit_at m u).row else nil) ≡ part_above (kept (b && is_among t.rooms u) (room_cost u))
        by true e =
            let lt = reserve_unit-below m market u e in
            price_in_list (rooms_in_order m t.rooms) in_units u lt
            ∙ ap (λ (b : Bool). if b then part_above (room_cost u) else nil) (among_in_order u (offers-listed m u lt e))
            ∙ chosen (is_among t.rooms u) (room_cost u)
        by false e = sym (part_at_most nil (≤ℚ_refl nil))

    rooms_named-made : map (λ e. e.unit) (room_duals (rooms_in_order m t.rooms)) ≡ map (λ u. (unit_at m u).row) (filter (λ u. names_room (room_duals (rooms_in_order m t.rooms)) (unit_at m u).row) (reserve_units m))
    rooms_named-made =
        rooms_named_of (rooms_in_order m t.rooms)
        ∙ ap (λ ws. map (λ u. (unit_at m u).row) (filter (λ u. priced_by (sign_of (room_cost u))) ws)) (rooms_in_order-filter m t.rooms)
        ∙ ap (map (λ u. (unit_at m u).row))
        (both_filters (is_among t.rooms) (λ u. priced_by (sign_of (room_cost u))) (reserve_units m)
        ∙ filter-members (λ u. is_among t.rooms u && priced_by (sign_of (room_cost u))) (λ u. names_room (room_duals (rooms_in_order m t.rooms)) (unit_at m u).row) (reserve_units m)
        (λ u c. sym (named_room_in_list (rooms_in_order m t.rooms) in_units u (listed-inside m u c) ∙ ap (λ (b : Bool). b && priced_by (sign_of (room_cost u))) (among_in_order u c))))

-- ---- lists of duals by rows
module _ (m : Parts) (names : NamesApart m) (cost_of : ℕ → Fraction) where
  abbrev cost : Row → Fraction
  cost r = cost_of (row_name m r)

  abbrev duals_of : Row → List (Dual Fraction)
  duals_of r = dual_by (row_id m r) (cost r) (sign_of (cost r))

  abbrev limits_of : List Row → List (Dual Fraction)
  limits_of rs = flat_map duals_of rs

  up_in-append : (xs ys : List (Dual Fraction)) (id : RowId) → names_row xs id ≡ false → up_in (xs ++ ys) id ≡ up_in ys id
  up_in-append [] ys id h = refl
  up_in-append (x ∷ xs) ys id h = by (same_id x.row id) refl h (up_in-append xs ys id)
    where
      by : (t : Bool) → same_id x.row id ≡ t → (t || names_row xs id) ≡ false → (names_row xs id ≡ false → up_in (xs ++ ys) id ≡ up_in ys id) → up_in (x ∷ (xs ++ ys)) id ≡ up_in ys id
      by true e k more = absurd Prim.cc
      by false e k more = ap (λ (t : Bool). if t then x.up else up_in (xs ++ ys) id) e ∙ more k

  down_in-append : (xs ys : List (Dual Fraction)) (id : RowId) → names_row xs id ≡ false → down_in (xs ++ ys) id ≡ down_in ys id
  down_in-append [] ys id h = refl
  down_in-append (x ∷ xs) ys id h = by (same_id x.row id) refl h (down_in-append xs ys id)
    where
      by : (t : Bool) → same_id x.row id ≡ t → (t || names_row xs id) ≡ false → (names_row xs id ≡ false → down_in (xs ++ ys) id ≡ down_in ys id) → down_in (x ∷ (xs ++ ys)) id ≡ down_in ys id
      by true e k more = absurd Prim.cc
      by false e k more = ap (λ (t : Bool). if t then x.down else down_in (xs ++ ys) id) e ∙ more k

  is_named-append : (xs ys : List (Dual Fraction)) (id : RowId) → names_row (xs ++ ys) id ≡ (names_row xs id || names_row ys id)
  is_named-append [] ys id = refl
  is_named-append (x ∷ xs) ys id = ap (λ (t : Bool). same_id x.row id || t) (is_named-append xs ys id) ∙ assoc (same_id x.row id) (names_row xs id) (names_row ys id)
    where
      assoc : (a b c : Bool) → (a || (b || c)) ≡ ((a || b) || c)
      assoc true b c = refl
      assoc false b c = refl

  -- the duals of one row
  unnamed : (r : Row) (id : RowId) → row_id m r ≢ id → names_row (duals_of r) id ≡ false
  unnamed r id n = by (sign_of (cost r))
    where
      not_it : same_id (row_id m r) id ≡ false
      not_it = same_id-not (row_id m r) id n

      by : (t : Sign) → names_row (dual_by (row_id m r) (cost r) t) id ≡ false
      by Below = ap (λ (b : Bool). b || false) not_it
      by Zero = refl
      by Above = ap (λ (b : Bool). b || false) not_it

  own_named : (r : Row) → names_row (duals_of r) (row_id m r) ≡ named_by (sign_of (cost r))
  unfolding named_by
  own_named r = by (sign_of (cost r))
    where
      by : (t : Sign) → names_row (dual_by (row_id m r) (cost r) t) (row_id m r) ≡ named_by t
      by Below = ap (λ (b : Bool). b || false) (same_id-itself (row_id m r))
      by Zero = refl
      by Above = ap (λ (b : Bool). b || false) (same_id-itself (row_id m r))

  -- rows of one name are one
  pub one_row : (a b : Row) → Contains (rows m) a → Contains (rows m) b → row_id m a ≡ row_id m b → a ≡ b
  one_row a b (i, li, ia) (j, lj, jb) e = elim (three i j) [
    | inl lt ↦ absurd (names i j a lt lj (ap (row_id m) ia ∙ e ∙ ap (row_id m) (sym (other (rows m) j a b lj ∙ jb))))
    | inr more ↦ elim more [
      | inl same ↦ sym ia ∙ other (rows m) i a b li ∙ ap (λ (k : ℕ). get_or (rows m) k b) same ∙ jb
      | inr gt ↦ absurd (names j i b gt li (ap (row_id m) jb ∙ sym e ∙ ap (row_id m) (sym (other (rows m) i b a li ∙ ia))))
    ]
  ]
    where
      three : (x y : ℕ) → (x < y) ⊎ ((x ≡ y) ⊎ (y < x))
      three zero zero = inr (inl refl)
      three zero (suc y) = inl (Prim.omega arith)
      three (suc x) zero = inr (inr (Prim.omega arith))
      three (suc x) (suc y) = elim (three x y) [
        | inl l ↦ inl (Prim.omega (arith, l))
        | inr k ↦ elim k [ inl e ↦ inr (inl (ap suc e)) | inr l ↦ inr (inr (Prim.omega (arith, l))) ]
      ]

      other : (rs : List Row) (k : ℕ) (x y : Row) → k < length rs → get_or rs k x ≡ get_or rs k y
      other [] k x y h = absurd (Prim.omega (arith, h))
      other (r ∷ rs) zero x y h = refl
      other (r ∷ rs) (suc k) x y h = other rs k x y (Prim.omega (arith, h))

  abbrev up_here : Row → Fraction
  up_here r = up_by (sign_of (cost r)) (cost r)

  abbrev down_here : Row → Fraction
  down_here r = down_by (sign_of (cost r)) (cost r)

  in_more : (s r : Row) (rs : List Row) → s ≢ r → is_in (s ∷ rs) r ≡ is_in rs r
  in_more s r rs n = ap (λ (t : Bool). t || is_in rs r) (same_row-not s r n)

  in_head : (r : Row) (rs : List Row) → is_in (r ∷ rs) r ≡ true
  in_head r rs = ap (λ (t : Bool). t || is_in rs r) (same_row-itself r)

  -- what the list says of a row of the market
  up_in_list : (rs : List Row) → ((s : Row) → Contains rs s → Contains (rows m) s) → (r : Row) → Contains (rows m) r → up_in (limits_of rs) (row_id m r) ≡ (if is_in rs r then up_here r else nil)
  unfolding up_by
  up_in_list [] all r c = refl
  up_in_list (s ∷ rs) all r c = by (row_or_not s r) (up_in_list rs (λ t k. all t (Contains-cons s rs t k)) r c)
    where
      at_head : (t : Sign) → sign_of (cost r) ≡ t → up_in (limits_of rs) (row_id m r) ≡ (if is_in rs r then up_here r else nil) → up_in (dual_by (row_id m r) (cost r) t ++ limits_of rs) (row_id m r) ≡ up_by t (cost r)
      at_head Below e more = ap (λ (b : Bool). if b then nil else up_in (limits_of rs) (row_id m r)) (same_id-itself (row_id m r))
      at_head Zero e more = more ∙ ap (λ (x : Fraction). if is_in rs r then x else nil) (ap (λ (t : Sign). up_by t (cost r)) e) ∙ nothing (is_in rs r)
        where
          nothing : (b : Bool) → (if b then nil else nil) ≡ nil
          nothing true = refl
          nothing false = refl
      at_head Above e more = ap (λ (b : Bool). if b then cost r else up_in (limits_of rs) (row_id m r)) (same_id-itself (row_id m r))

      by : (s ≡ r) ⊎ (s ≢ r) → up_in (limits_of rs) (row_id m r) ≡ (if is_in rs r then up_here r else nil) → up_in (duals_of s ++ limits_of rs) (row_id m r) ≡ (if is_in (s ∷ rs) r then up_here r else nil)
      by (inl e) more =
          ap (λ (x : Row). up_in (duals_of x ++ limits_of rs) (row_id m r)) e
          ∙ at_head (sign_of (cost r)) refl more
          ∙ sym (ap (λ (b : Bool). if b then up_here r else nil) (ap (λ (x : Row). is_in (x ∷ rs) r) e ∙ in_head r rs))
      by (inr n) more =
          up_in-append (duals_of s) (limits_of rs) (row_id m r) (unnamed s (row_id m r) (λ e. n (one_row s r (all s (Contains-head s rs)) c e)))
          ∙ more ∙ sym (ap (λ (b : Bool). if b then up_here r else nil) (in_more s r rs n))

  down_in_list : (rs : List Row) → ((s : Row) → Contains rs s → Contains (rows m) s) → (r : Row) → Contains (rows m) r → down_in (limits_of rs) (row_id m r) ≡ (if is_in rs r then down_here r else nil)
  unfolding down_by
  down_in_list [] all r c = refl
  down_in_list (s ∷ rs) all r c = by (row_or_not s r) (down_in_list rs (λ t k. all t (Contains-cons s rs t k)) r c)
    where
      at_head : (t : Sign) → sign_of (cost r) ≡ t → down_in (limits_of rs) (row_id m r) ≡ (if is_in rs r then down_here r else nil) → down_in (dual_by (row_id m r) (cost r) t ++ limits_of rs) (row_id m r) ≡ down_by t (cost r)
      at_head Below e more = ap (λ (b : Bool). if b then neg_ℚ (cost r) else down_in (limits_of rs) (row_id m r)) (same_id-itself (row_id m r))
      at_head Zero e more = more ∙ ap (λ (x : Fraction). if is_in rs r then x else nil) (ap (λ (t : Sign). down_by t (cost r)) e) ∙ nothing (is_in rs r)
        where
          nothing : (b : Bool) → (if b then nil else nil) ≡ nil
          nothing true = refl
          nothing false = refl
      at_head Above e more = ap (λ (b : Bool). if b then nil else down_in (limits_of rs) (row_id m r)) (same_id-itself (row_id m r))

      by : (s ≡ r) ⊎ (s ≢ r) → down_in (limits_of rs) (row_id m r) ≡ (if is_in rs r then down_here r else nil) → down_in (duals_of s ++ limits_of rs) (row_id m r) ≡ (if is_in (s ∷ rs) r then down_here r else nil)
      by (inl e) more =
          ap (λ (x : Row). down_in (duals_of x ++ limits_of rs) (row_id m r)) e
          ∙ at_head (sign_of (cost r)) refl more
          ∙ sym (ap (λ (b : Bool). if b then down_here r else nil) (ap (λ (x : Row). is_in (x ∷ rs) r) e ∙ in_head r rs))
      by (inr n) more =
          down_in-append (duals_of s) (limits_of rs) (row_id m r) (unnamed s (row_id m r) (λ e. n (one_row s r (all s (Contains-head s rs)) c e)))
          ∙ more ∙ sym (ap (λ (b : Bool). if b then down_here r else nil) (in_more s r rs n))

  named_in_list : (rs : List Row) → ((s : Row) → Contains rs s → Contains (rows m) s) → (r : Row) → Contains (rows m) r → names_row (limits_of rs) (row_id m r) ≡ (is_in rs r && named_by (sign_of (cost r)))
  named_in_list [] all r c = refl
  named_in_list (s ∷ rs) all r c = is_named-append (duals_of s) (limits_of rs) (row_id m r) ∙ by (row_or_not s r) (named_in_list rs (λ t k. all t (Contains-cons s rs t k)) r c)
    where
      or_and : (a b : Bool) → (b || (a && b)) ≡ b
      or_and true true = refl
      or_and true false = refl
      or_and false true = refl
      or_and false false = refl

      by : (s ≡ r) ⊎ (s ≢ r) → names_row (limits_of rs) (row_id m r) ≡ (is_in rs r && named_by (sign_of (cost r)))
          → (names_row (duals_of s) (row_id m r) || names_row (limits_of rs) (row_id m r)) ≡ (is_in (s ∷ rs) r && named_by (sign_of (cost r)))
      by (inl e) more =
          ap₂ ◌||◌ (ap (λ (x : Row). names_row (duals_of x) (row_id m r)) e ∙ own_named r) more
          ∙ or_and (is_in rs r) (named_by (sign_of (cost r)))
          ∙ sym (ap (λ (b : Bool). b && named_by (sign_of (cost r))) (ap (λ (x : Row). is_in (x ∷ rs) r) e ∙ in_head r rs))
      by (inr n) more =
          ap₂ ◌||◌ (unnamed s (row_id m r) (λ e. n (one_row s r (all s (Contains-head s rs)) c e))) more
          ∙ sym (ap (λ (b : Bool). b && named_by (sign_of (cost r))) (in_more s r rs n))

  -- ---- duals of the rows of a list
  module _ (t : Taken) where
    abbrev g : List Row
    g = t.limits

    abbrev pub made : Duals Fraction
    made = duals_by_cost m t cost_of

    over_rows : (r : Row) → Contains (in_order m g) r → Contains (rows m) r
    over_rows r c = (in_order-from m g r c).0

    pub in_order-tells : (r : Row) → Contains (rows m) r → is_in (in_order m g) r ≡ is_in g r
    in_order-tells r c = by (is_in g r) refl
      where
        not_in : is_in g r ≡ false → (t : Bool) → is_in (in_order m g) r ≡ t → is_in (in_order m g) r ≡ false
        not_in e true f = let wrong : false ≡ true = sym e ∙ is_in-in g r (in_order-from m g r (is_in-from (in_order m g) r f)).1 in absurd cc
        not_in e false f = f

        by : (t : Bool) → is_in g r ≡ t → is_in (in_order m g) r ≡ t
        by true e = is_in-in (in_order m g) r (in_order-in m g r c (is_in-from g r e))
        by false e = not_in e (is_in (in_order m g) r) refl

    module _ (r : Row) (c : Contains (rows m) r) where
      pub up-made : up_of m made r ≡ (if is_in g r then up_here r else nil)
      up-made = up_in_list (in_order m g) over_rows r c ∙ ap (λ (b : Bool). if b then up_here r else nil) (in_order-tells r c)

      pub down-made : down_of m made r ≡ (if is_in g r then down_here r else nil)
      down-made = down_in_list (in_order m g) over_rows r c ∙ ap (λ (b : Bool). if b then down_here r else nil) (in_order-tells r c)

      pub net_price-made : net_shadow_price m made r ≡ (if is_in g r then cost r else nil)
      net_price-made = ap₂ ◌-ℚ◌ up-made down-made ∙ by (is_in g r)
        where
          by : (b : Bool) → (if b then up_here r else nil) -ℚ (if b then down_here r else nil) ≡ (if b then cost r else nil)
          by true = up_less_down (cost r)
          by false = by_ring ring_ℚ [] (pnil ⊕ pneg pnil) pnil refl

    -- rows that are not in the list have no price
    pub prices_only-made : PricesOnly m g made
    prices_only-made r c out = (
      up-made r c ∙ ap (λ (b : Bool). if b then up_here r else nil) absent,
      down-made r c ∙ ap (λ (b : Bool). if b then down_here r else nil) absent,
    )
      where
        absent : is_in g r ≡ false
        absent = by (is_in g r) refl
          where
            by : (b : Bool) → is_in g r ≡ b → is_in g r ≡ false
            by true e = absurd (out (is_in-from g r e))
            by false e = e

    -- what the duals name, in the market's order
    named_rows_of : (rs : List Row) → map (λ d. d.row) (limits_of rs) ≡ map (row_id m) (filter (λ r. named_by (sign_of (cost r))) rs)
    unfolding named_by
    named_rows_of [] = refl
    named_rows_of (r ∷ rs) = by (sign_of (cost r)) (named_rows_of rs)
      where
        by : (t : Sign) → map (λ d. d.row) (limits_of rs) ≡ map (row_id m) (filter (λ r. named_by (sign_of (cost r))) rs)
            → map (λ d. d.row) (dual_by (row_id m r) (cost r) t ++ limits_of rs) ≡ map (row_id m) (cond (named_by t) (r ∷ filter (λ r. named_by (sign_of (cost r))) rs) (filter (λ r. named_by (sign_of (cost r))) rs))
        by Below more = ap (λ ids. row_id m r ∷ ids) more
        by Zero more = more
        by Above more = ap (λ ids. row_id m r ∷ ids) more

    sides : (rs : List Row) → All IsOneSided (limits_of rs)
    sides [] = All-nil IsOneSided
    sides (r ∷ rs) = All-append IsOneSided (duals_of r) (limits_of rs) (by (sign_of (cost r)) refl) (sides rs)
      where
        by : (t : Sign) → t ≡ sign_of (cost r) → All IsOneSided (dual_by (row_id m r) (cost r) t)
        by Below e = All-cons IsOneSided (record { row = row_id m r; up = nil; down = neg_ℚ (cost r) }) []
            (record { up = ≤ℚ_refl nil; down = <ℚ-≤ℚ nil (neg_ℚ (cost r)) (neg_is_above (cost r) (sign_of_is (cost r) Below e)); one = inr (refl, neg_is_above (cost r) (sign_of_is (cost r) Below e)) })
            (All-nil IsOneSided)
        by Zero e = All-nil IsOneSided
        by Above e = All-cons IsOneSided (record { row = row_id m r; up = cost r; down = nil }) []
            (record { up = <ℚ-≤ℚ nil (cost r) (sign_of_is (cost r) Above e); down = ≤ℚ_refl nil; one = inl (sign_of_is (cost r) Above e, refl) })
            (All-nil IsOneSided)

    -- such duals are proper
    pub proper-made : IsMarket m → ProperDuals m made
    proper-made market = record {
      named =
          named_rows_of (in_order m g)
          ∙ ap (λ rs. map (row_id m) (filter (λ r. named_by (sign_of (cost r))) rs)) (in_order-filter m g)
          ∙ ap (map (row_id m))
          (both_filters (is_in g) (λ r. named_by (sign_of (cost r))) (rows m)
          ∙ filter-members (λ r. is_in g r && named_by (sign_of (cost r))) (λ r. names_row (limits_of (in_order m g)) (row_id m r)) (rows m)
          (λ r c. sym (named_in_list (in_order m g) over_rows r c ∙ ap (λ (b : Bool). b && named_by (sign_of (cost r))) (in_order-tells r c))));
      one_sided = sides (in_order m g);
      rooms_named = rooms_named-made m market cost_of t;
      rooms_priced = rooms_priced_of m market cost_of (rooms_in_order m t.rooms);
      energy_alone = λ e. ap (λ (b : Bool). if b then part_above (neg_ℚ (cost_of (need_name m))) else nil) e;
    }
