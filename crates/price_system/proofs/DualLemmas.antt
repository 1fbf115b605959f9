-- The duals of a point: its prices are theirs, and where they are one-sided the duals are proper.
use Rattle.std.specs.Prelude.{◌≡◌, ◌≢◌, ◌⊎◌, ℕ, ◌<◌, ◌==◌, ◌&&◌, ◌||◌, Bool, true, false, not, List, [], ◌∷◌, ◌++◌, length, map, filter, if◌then◌else◌, cond, All, Contains, refl}
use Rattle.std.specs.List.{flat_map}
use Rattle.std.proofs.Common.{ap, ap₂, sym, ◌∙◌, subst, inl, inr}
use Rattle.std.proofs.lemmas.Bool.Decides.{eqb_tells}
use Rattle.std.proofs.lemmas.List.Elements.{All-append, All-cons, All-nil}
use Rattle.fraction_theory.specs.Fraction.{Fraction, neg_ℚ}
use Rattle.fraction_theory.specs.Order.{◌<ℚ◌}
use Rattle.fraction_theory.proofs.FieldLaws.{ring_ℚ}
use Rattle.fraction_theory.proofs.ListSums.{kept, Contains-cons, Contains-head, filter-members}
use Rattle.fraction_theory.proofs.Ring.{by_ring, at, pneg}
use Rattle.market_model.specs.declared.answered.Dual.{Dual}
use Rattle.market_model.specs.declared.answered.Duals.{Duals}
use Rattle.market_model.specs.declared.answered.RoomDual.{RoomDual}
use Rattle.market_model.specs.declared.answered.RowId.{RowId}
use Rattle.market_model.specs.declared.limits.Row.{Row}
use Rattle.market_model.specs.declared.participants.Parts.{Parts}
use Rattle.market_model.specs.Dispatch.{unit_at, zero as nil}
use Rattle.market_model.specs.LimitRows.{row_id, rows}
use Rattle.market_model.specs.Market.{IsMarket}
use Rattle.market_model.specs.Optimality.{IsOneSided, ProperDuals, down_in, down_of, names_room, names_row, room_price, room_price_in, same_id, up_in, up_of}
use Rattle.market_model.specs.Reserves.{reserve_units}
use Rattle.market_model.proofs.RoomLemmas.{listed-inside, listed-offers}
use Rattle.limit_rows.proofs.ApartLemmas.{names_apart, unit_of_row}
use Rattle.limit_rows.proofs.PlaceLemmas.{same_name}
use Rattle.market_system.specs.MarketSystem.{is_among, is_in, same_row}
use Rattle.market_system.proofs.DualLists.{one_row}
use Rattle.market_system.proofs.RowOrder.{is_among-in, is_in-in, row_or_not, same_row-itself, same_row-not}
use Rattle.price_system.specs.PriceSystem.{down_name, duals_of, is_nil, limit_dual, room_dual, room_name, up_name}
use Rattle.limit_screen.proofs.ReachLemmas.{nil_tells}
use Rattle.price_system.proofs.WorthLemmas.{Agrees}

-- ---- plain steps
number_itself : (n : ℕ) → (n == n) ≡ true
number_itself n = elim (eqb_tells n n) [ inl t ↦ t.0 | inr t ↦ absurd (t.1 refl) ]

own_id : (a : RowId) → same_id a a ≡ true
own_id a = ap₂ ◌&&◌ (ap₂ ◌&&◌ (number_itself a.branch) (number_itself a.outage)) (number_itself a.unit)

other_id : (a b : RowId) → a ≢ b → same_id a b ≡ false
other_id a b n = by (same_id a b) refl
  where
    by : (t : Bool) → same_id a b ≡ t → same_id a b ≡ false
    by true e = absurd (n (same_name a b e))
    by false e = e

is_nil_of : (x : Fraction) → is_nil x ≡ true → x ≡ nil
is_nil_of x h = elim (nil_tells x) [ inl t ↦ t.1 | inr t ↦ let wrong : false ≡ true = sym t.0 ∙ h in absurd cc ]

both_true : (a b : Bool) → (a && b) ≡ true → (a ≡ true) × (b ≡ true)
both_true true b h = (refl, h)
both_true false b h = absurd Prim.cc

kept_nil : (b : Bool) (x : Fraction) → x ≡ nil → kept b x ≡ x
kept_nil true x e = refl
kept_nil false x e = sym e

and_false : (a : Bool) → (a && false) ≡ false
and_false true = refl
and_false false = refl

-- what a list of duals says of a limit, and one of rooms of a room
record Told (ds : List (Dual Fraction)) (id : RowId) (up down : Fraction) (named : Bool) : Type 0 where
  pub up_is : up_in ds id ≡ up
  pub down_is : down_in ds id ≡ down
  pub named_is : names_row ds id ≡ named

record RoomTold (ds : List (RoomDual Fraction)) (row : ℕ) (price : Fraction) (named : Bool) : Type 0 where
  pub price_is : room_price_in ds row ≡ price
  pub named_is : names_room ds row ≡ named

-- ---- limits by the prices of their sides
module _ (m : Parts) (market : IsMarket m) (up down : Row → Fraction) where
  abbrev limits_of : List Row → List (Dual Fraction)
  limits_of rs = flat_map (λ r. limit_dual (row_id m r) (up r) (down r)) rs

  abbrev none : Row → Bool
  none r = is_nil (up r) && is_nil (down r)

  abbrev named : Row → Bool
  named r = not (none r)

  abbrev own : Row → Dual Fraction
  own r = record { row = row_id m r; up = up r; down = down r }

  at_head : (r : Row) (rs : List Row) → Told (limits_of rs) (row_id m r) (kept (is_in rs r) (up r)) (kept (is_in rs r) (down r)) (is_in rs r && named r)
      → Told (limits_of (r ∷ rs)) (row_id m r) (up r) (down r) (named r)
  at_head r rs more = by (none r) refl
    where
      by : (b : Bool) → none r ≡ b → Told ((if b then [] else own r ∷ []) ++ limits_of rs) (row_id m r) (up r) (down r) (not b)
      by true e =
          let both = both_true (is_nil (up r)) (is_nil (down r)) e in
          record {
            up_is = more.up_is ∙ kept_nil (is_in rs r) (up r) (is_nil_of (up r) both.0);
            down_is = more.down_is ∙ kept_nil (is_in rs r) (down r) (is_nil_of (down r) both.1);
            named_is = more.named_is ∙ ap (λ (b : Bool). is_in rs r && not b) e ∙ and_false (is_in rs r);
          }
      by false e = record {
        up_is = ap (λ (b : Bool). if b then up r else up_in (limits_of rs) (row_id m r)) (own_id (row_id m r));
        down_is = ap (λ (b : Bool). if b then down r else down_in (limits_of rs) (row_id m r)) (own_id (row_id m r));
        named_is = ap (λ (b : Bool). b || names_row (limits_of rs) (row_id m r)) (own_id (row_id m r));
      }

  behind : (s r : Row) (rs : List Row) (u d : Fraction) (n : Bool) → row_id m s ≢ row_id m r → Told (limits_of rs) (row_id m r) u d n → Told (limits_of (s ∷ rs)) (row_id m r) u d n
  behind s r rs u d n apart more = by (none s)
    where
      other : same_id (row_id m s) (row_id m r) ≡ false
      other = other_id (row_id m s) (row_id m r) apart

      by : (b : Bool) → Told ((if b then [] else own s ∷ []) ++ limits_of rs) (row_id m r) u d n
      by true = more
      by false = record {
        up_is = ap (λ (b : Bool). if b then up s else up_in (limits_of rs) (row_id m r)) other ∙ more.up_is;
        down_is = ap (λ (b : Bool). if b then down s else down_in (limits_of rs) (row_id m r)) other ∙ more.down_is;
        named_is = ap (λ (b : Bool). b || names_row (limits_of rs) (row_id m r)) other ∙ more.named_is;
      }

  told : (rs : List Row) → ((s : Row) → Contains rs s → Contains (rows m) s) → (r : Row) → Contains (rows m) r
      → Told (limits_of rs) (row_id m r) (kept (is_in rs r) (up r)) (kept (is_in rs r) (down r)) (is_in rs r && named r)
  told [] all r c = record { up_is = refl; down_is = refl; named_is = refl }
  told (s ∷ rs) all r c = by (row_or_not s r) (told rs (λ t k. all t (Contains-cons s rs t k)) r c)
    where
      by : (s ≡ r) ⊎ (s ≢ r) → Told (limits_of rs) (row_id m r) (kept (is_in rs r) (up r)) (kept (is_in rs r) (down r)) (is_in rs r && named r)
          → Told (limits_of (s ∷ rs)) (row_id m r) (kept (is_in (s ∷ rs) r) (up r)) (kept (is_in (s ∷ rs) r) (down r)) (is_in (s ∷ rs) r && named r)
      by (inl e) more =
          let here : is_in (s ∷ rs) r ≡ true = ap (λ (x : Row). same_row x r || is_in rs r) e ∙ ap (λ (b : Bool). b || is_in rs r) (same_row-itself r) in
          subst (λ (b : Bool). Told (limits_of (s ∷ rs)) (row_id m r) (kept b (up r)) (kept b (down r)) (b && named r)) (sym here)
          (subst (λ (x : Row). Told (limits_of (x ∷ rs)) (row_id m r) (up r) (down r) (named r)) (sym e) (at_head r rs more))
      by (inr n) more =
          let there : is_in (s ∷ rs) r ≡ is_in rs r = ap (λ (b : Bool). b || is_in rs r) (same_row-not s r n) in
          subst (λ (b : Bool). Told (limits_of (s ∷ rs)) (row_id m r) (kept b (up r)) (kept b (down r)) (b && named r)) (sym there)
          (behind s r rs (kept (is_in rs r) (up r)) (kept (is_in rs r) (down r)) (is_in rs r && named r)
          (λ same. n (one_row m (names_apart m market) (λ w. nil) s r (all s (Contains-head s rs)) c same)) more)

  -- of a row of the market
  limit_told : (r : Row) → Contains (rows m) r → Told (limits_of (rows m)) (row_id m r) (up r) (down r) (named r)
  limit_told r c = subst (λ (b : Bool). Told (limits_of (rows m)) (row_id m r) (kept b (up r)) (kept b (down r)) (b && named r)) (is_in-in (rows m) r c) (told (rows m) (λ s k. k) r c)

  -- what is named
  named_ids : (rs : List Row) → map (λ (f : Dual Fraction). f.row) (limits_of rs) ≡ map (row_id m) (filter named rs)
  named_ids [] = refl
  named_ids (r ∷ rs) = by (none r) (named_ids rs)
    where
      by : (b : Bool) → map (λ (f : Dual Fraction). f.row) (limits_of rs) ≡ map (row_id m) (filter named rs)
          → map (λ (f : Dual Fraction). f.row) ((if b then [] else own r ∷ []) ++ limits_of rs) ≡ map (row_id m) (cond (not b) (r ∷ filter named rs) (filter named rs))
      by true more = more
      by false more = ap (λ (ids : List RowId). row_id m r ∷ ids) more

  pub limits_named : map (λ (f : Dual Fraction). f.row) (limits_of (rows m)) ≡ map (row_id m) (filter (λ r. names_row (limits_of (rows m)) (row_id m r)) (rows m))
  limits_named = named_ids (rows m) ∙ ap (map (row_id m)) (filter-members named (λ r. names_row (limits_of (rows m)) (row_id m r)) (rows m) (λ r c. let t = limit_told r c in sym t.named_is))

  pub limits_sided : (rs : List Row) → ((r : Row) → Contains rs r → ((up r ≡ nil) × (down r ≡ nil)) ⊎ IsOneSided (own r)) → All IsOneSided (limits_of rs)
  limits_sided [] each = All-nil IsOneSided
  limits_sided (r ∷ rs) each = All-append IsOneSided (limit_dual (row_id m r) (up r) (down r)) (limits_of rs) (by (none r) refl) (limits_sided rs (λ s k. each s (Contains-cons r rs s k)))
    where
      nothing : (x : Fraction) → x ≡ nil → is_nil x ≡ true
      nothing x e = elim (nil_tells x) [ inl t ↦ t.0 | inr t ↦ absurd (t.1 e) ]

      by : (b : Bool) → none r ≡ b → All IsOneSided (if b then [] else own r ∷ [])
      by true e = All-nil IsOneSided
      by false e = All-cons IsOneSided (own r) [] (elim (each r (Contains-head r rs)) [
        | inl both ↦ let wrong : true ≡ false = sym (ap₂ ◌&&◌ (nothing (up r) both.0) (nothing (down r) both.1)) ∙ e in absurd cc
        | inr sided ↦ sided
      ]) (All-nil IsOneSided)

-- ---- rooms by their prices
module _ (m : Parts) (market : IsMarket m) (price : ℕ → Fraction) where
  abbrev row_of : ℕ → ℕ
  row_of u = (unit_at m u).row

  abbrev rooms_of : List ℕ → List (RoomDual Fraction)
  rooms_of us = flat_map (λ u. room_dual (row_of u) (price u)) us

  abbrev priced : ℕ → Bool
  priced u = not (is_nil (price u))

  abbrev own_room : ℕ → RoomDual Fraction
  own_room u = record { unit = row_of u; price = price u }

  room_at_head : (u : ℕ) (us : List ℕ) → RoomTold (rooms_of us) (row_of u) (kept (is_among us u) (price u)) (is_among us u && priced u) → RoomTold (rooms_of (u ∷ us)) (row_of u) (price u) (priced u)
  room_at_head u us more = by (is_nil (price u)) refl
    where
      by : (b : Bool) → is_nil (price u) ≡ b → RoomTold ((if b then [] else own_room u ∷ []) ++ rooms_of us) (row_of u) (price u) (not b)
      by true e = record {
        price_is = more.price_is ∙ kept_nil (is_among us u) (price u) (is_nil_of (price u) e);
        named_is = more.named_is ∙ ap (λ (b : Bool). is_among us u && not b) e ∙ and_false (is_among us u);
      }
      by false e = record {
        price_is = ap (λ (b : Bool). if b then price u else room_price_in (rooms_of us) (row_of u)) (number_itself (row_of u));
        named_is = ap (λ (b : Bool). b || names_room (rooms_of us) (row_of u)) (number_itself (row_of u));
      }

  room_behind : (w u : ℕ) (us : List ℕ) (p : Fraction) (n : Bool) → (row_of w == row_of u) ≡ false → RoomTold (rooms_of us) (row_of u) p n → RoomTold (rooms_of (w ∷ us)) (row_of u) p n
  room_behind w u us p n other more = by (is_nil (price w))
    where
      by : (b : Bool) → RoomTold ((if b then [] else own_room w ∷ []) ++ rooms_of us) (row_of u) p n
      by true = more
      by false = record {
        price_is = ap (λ (b : Bool). if b then price w else room_price_in (rooms_of us) (row_of u)) other ∙ more.price_is;
        named_is = ap (λ (b : Bool). b || names_room (rooms_of us) (row_of u)) other ∙ more.named_is;
      }

  rows_differ : (w u : ℕ) → w < length m.units → u < length m.units → w ≢ u → (row_of w == row_of u) ≡ false
  rows_differ w u p q n = elim (eqb_tells (row_of w) (row_of u)) [ inl t ↦ absurd (n (unit_of_row m market w u p q t.1)) | inr t ↦ t.0 ]

  room_told_in : (us : List ℕ) → ((w : ℕ) → Contains us w → w < length m.units) → (u : ℕ) → u < length m.units
      → RoomTold (rooms_of us) (row_of u) (kept (is_among us u) (price u)) (is_among us u && priced u)
  room_told_in [] all u lt = record { price_is = refl; named_is = refl }
  room_told_in (w ∷ us) all u lt = by (eqb_tells w u) (room_told_in us (λ v k. all v (Contains-cons w us v k)) u lt)
    where
      by : (((w == u) ≡ true) × (w ≡ u)) ⊎ (((w == u) ≡ false) × (w ≢ u)) → RoomTold (rooms_of us) (row_of u) (kept (is_among us u) (price u)) (is_among us u && priced u)
          → RoomTold (rooms_of (w ∷ us)) (row_of u) (kept (is_among (w ∷ us) u) (price u)) (is_among (w ∷ us) u && priced u)
      by (inl t) more =
          subst (λ (b : Bool). RoomTold (rooms_of (w ∷ us)) (row_of u) (kept (b || is_among us u) (price u)) ((b || is_among us u) && priced u)) (sym t.0)
          (subst (λ (x : ℕ). RoomTold (rooms_of (x ∷ us)) (row_of u) (price u) (priced u)) (sym t.1) (room_at_head u us more))
      by (inr t) more =
          subst (λ (b : Bool). RoomTold (rooms_of (w ∷ us)) (row_of u) (kept (b || is_among us u) (price u)) ((b || is_among us u) && priced u)) (sym t.0)
          (room_behind w u us (kept (is_among us u) (price u)) (is_among us u && priced u) (rows_differ w u (all w (Contains-head w us)) lt t.1) more)

  -- of a unit that offers reserve
  room_told : (u : ℕ) → Contains (reserve_units m) u → RoomTold (rooms_of (reserve_units m)) (row_of u) (price u) (priced u)
  room_told u c = subst (λ (b : Bool). RoomTold (rooms_of (reserve_units m)) (row_of u) (kept b (price u)) (b && priced u)) (is_among-in (reserve_units m) u c)
      (room_told_in (reserve_units m) (λ w k. listed-inside m w k) u (listed-inside m u c))

  room_ids : (us : List ℕ) → map (λ (f : RoomDual Fraction). f.unit) (rooms_of us) ≡ map row_of (filter priced us)
  room_ids [] = refl
  room_ids (u ∷ us) = by (is_nil (price u)) (room_ids us)
    where
      by : (b : Bool) → map (λ (f : RoomDual Fraction). f.unit) (rooms_of us) ≡ map row_of (filter priced us)
          → map (λ (f : RoomDual Fraction). f.unit) ((if b then [] else own_room u ∷ []) ++ rooms_of us) ≡ map row_of (cond (not b) (u ∷ filter priced us) (filter priced us))
      by true more = more
      by false more = ap (λ (ids : List ℕ). row_of u ∷ ids) more

  pub rooms_named : map (λ (f : RoomDual Fraction). f.unit) (rooms_of (reserve_units m)) ≡ map row_of (filter (λ u. names_room (rooms_of (reserve_units m)) (row_of u)) (reserve_units m))
  rooms_named =
      room_ids (reserve_units m)
      ∙ ap (map row_of)
      (filter-members priced (λ u. names_room (rooms_of (reserve_units m)) (row_of u)) (reserve_units m) (λ u c. let t = room_told u c in sym t.named_is))

  abbrev IsPriced : RoomDual Fraction → Type 0
  IsPriced e = nil <ℚ e.price

  pub rooms_priced : (us : List ℕ) → ((u : ℕ) → Contains us u → (price u ≡ nil) ⊎ (nil <ℚ price u)) → All IsPriced (rooms_of us)
  rooms_priced [] each = All-nil IsPriced
  rooms_priced (u ∷ us) each = All-append IsPriced (room_dual (row_of u) (price u)) (rooms_of us) (by (nil_tells (price u))) (rooms_priced us (λ w k. each w (Contains-cons u us w k)))
    where
      by : ((is_nil (price u) ≡ true) × (price u ≡ nil)) ⊎ ((is_nil (price u) ≡ false) × (price u ≢ nil)) → All IsPriced (room_dual (row_of u) (price u))
      by (inl t) = subst (λ (b : Bool). All IsPriced (if b then [] else own_room u ∷ [])) (sym t.0) (All-nil IsPriced)
      by (inr t) = subst (λ (b : Bool). All IsPriced (if b then [] else own_room u ∷ [])) (sym t.0)
          (All-cons IsPriced (own_room u) [] (elim (each u (Contains-head u us)) [ inl e ↦ absurd (t.1 e) | inr l ↦ l ]) (All-nil IsPriced))

-- ---- the duals of a point
module _ (m : Parts) (market : IsMarket m) (v : ℕ → Fraction) where
  abbrev made : Duals Fraction
  made = duals_of m v

  abbrev up_at : Row → Fraction
  up_at r = neg_ℚ (v (up_name m r))

  abbrev down_at : Row → Fraction
  down_at r = neg_ℚ (v (down_name m r))

  abbrev room_at : ℕ → Fraction
  room_at u = neg_ℚ (v (room_name m u))

  pub up-made : (r : Row) → Contains (rows m) r → up_of m made r ≡ up_at r
  up-made r c = let t = limit_told m market up_at down_at r c in t.up_is

  pub down-made : (r : Row) → Contains (rows m) r → down_of m made r ≡ down_at r
  down-made r c = let t = limit_told m market up_at down_at r c in t.down_is

  pub room-made : (u : ℕ) → Contains (reserve_units m) u → room_price m made u ≡ room_at u
  room-made u c =
      let t = room_told m market room_at u c in
      ap (λ (b : Bool). if b then room_price_in made.rooms (unit_at m u).row else nil) (listed-offers m u c) ∙ t.price_is

  twice : (x y : Fraction) → y ≡ neg_ℚ x → x ≡ neg_ℚ y
  twice x y e = by_ring ring_ℚ (x ∷ []) (at 0) (pneg (pneg (at 0))) refl ∙ ap neg_ℚ (sym e)

  -- its columns are the opposites of their prices
  pub agrees-made : Agrees m v made
  agrees-made = record {
    energy = twice (v 0) made.energy refl;
    reserve = twice (v 1) made.reserve refl;
    up = λ r c. twice (v (up_name m r)) (up_of m made r) (up-made r c);
    down = λ r c. twice (v (down_name m r)) (down_of m made r) (down-made r c);
    room = λ u c. twice (v (room_name m u)) (room_price m made u) (room-made u c);
  }

  -- they are proper, where no limit has a price on both of its sides and no price is below 0
  pub proper-made : ((r : Row) → Contains (rows m) r → ((up_at r ≡ nil) × (down_at r ≡ nil)) ⊎ IsOneSided (record { row = row_id m r; up = up_at r; down = down_at r }))
      → ((u : ℕ) → Contains (reserve_units m) u → (room_at u ≡ nil) ⊎ (nil <ℚ room_at u)) → (m.reserve.listed ≡ false → made.reserve ≡ nil) → ProperDuals m made
  proper-made sided above alone = record {
    named = limits_named m market up_at down_at;
    one_sided = limits_sided m market up_at down_at (rows m) sided;
    rooms_named = rooms_named m market room_at;
    rooms_priced = rooms_priced m market room_at (reserve_units m) above;
    energy_alone = alone;
  }
