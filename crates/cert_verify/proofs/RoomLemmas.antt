-- The rooms that duals name: what the reason against their names means, and their prices.
use Rattle.std.specs.Prelude.{◌≡◌, ◌≢◌, ◌⊎◌, ◌==◌, ◌&&◌, ◌||◌, ◌<◌, ℕ, Bool, true, false, not, List, [], ◌∷◌, length, All, AllPairs, Contains, Some, None, if◌then◌else◌, refl}
use Rattle.std.proofs.Common.{suc, arith, inl, inr, ap, sym, subst, ◌∙◌, get_or}
use Rattle.std.proofs.lemmas.Bool.{or_parts, eq-eqb, eqb-true, true≢false}
use Rattle.std.proofs.lemmas.List.{get_or-map}
use Rattle.std.proofs.lemmas.List.Elements.{All-nil, All-cons, All-head, All-tail, All-contains}
use Rattle.std.proofs.lemmas.List.FromFn.{length-range_with_len}
use Rattle.std.proofs.lemmas.List.Kept.{AllPairs-cons, AllPairs-filter}
use Rattle.fraction_theory.specs.Fraction.{Fraction}
use Rattle.fraction_theory.specs.Order.{◌≤ℚ◌, ◌<ℚ◌}
use Rattle.fraction_theory.proofs.ListSums.{Contains-head, Contains-cons, Contains-cases, Contains-from_filter}
use Rattle.fraction_theory.proofs.OrderLaws.{≤ℚ_refl, <ℚ_irrefl}
use Rattle.market_model.specs.declared.answered.Duals.{Duals}
use Rattle.market_model.specs.declared.answered.RoomDual.{RoomDual}
use Rattle.market_model.specs.declared.participants.Parts.{Parts}
use Rattle.market_model.specs.Dispatch.{Dispatch, zero, places, unit_at}
use Rattle.market_model.specs.Market.{IsMarket}
use Rattle.market_model.specs.Optimality.{ProperDuals, RoomSupported, named_rooms, names_room, room_price, room_price_in}
use Rattle.market_model.specs.Reserves.{offers_reserve, reserve_units, room, room_used}
use Rattle.market_model.proofs.ChangeLemmas.{same_default}
use Rattle.market_model.proofs.LostLemmas.{place_at}
use Rattle.market_model.proofs.RoomLemmas.{listed-offers}
use Rattle.limit_rows.proofs.ApartLemmas.{unit_of_row}
use Rattle.limit_rows.proofs.GroupLemmas.{length-map}
use Rattle.cert_verify.specs.declared.verdicts.Reason.TheVariants as reason
use Rattle.cert_verify.specs.Certificates.{NamesRooms}
use Rattle.cert_verify.specs.Reasons.{differ, has_offer, has_room_slack, is_below, is_slack, room_sign_reason, room_slack_reason, unit_reason}
use Rattle.cert_verify.proofs.TestLemmas.{any_false, any_none, any_of, any_true, below_not, below_of, below_true, neither, none_of, not_below, not_both, not_false, not_true, of_none, same_by, same_not, then_not}

-- ---- names and their prices
other_unit : (a b : ℕ) → a ≢ b → (a == b) ≡ false
other_unit a b h = by (a == b) refl
  where
    by : (t : Bool) → (a == b) ≡ t → t ≡ false
    by true e = absurd (h (eqb-true a b e))
    by false e = refl

-- the dual that has the price of a name
record IsPriced (ds : List (RoomDual Fraction)) (row : ℕ) (e : RoomDual Fraction) : Type 0 where
  pub listed : Contains ds e
  pub name : e.unit ≡ row
  pub price : room_price_in ds row ≡ e.price

-- there is none, and the price is 0
record IsFree (ds : List (RoomDual Fraction)) (row : ℕ) : Type 0 where
  pub free : room_price_in ds row ≡ zero

priced : (ds : List (RoomDual Fraction)) (row : ℕ) → IsFree ds row ⊎ ((e : RoomDual Fraction) × IsPriced ds row e)
priced [] row = inl (record { free = refl })
priced (d ∷ ds) row = by (d.unit == row) refl (priced ds row)
  where
    price_by : (b : Bool) → (d.unit == row) ≡ b → room_price_in (d ∷ ds) row ≡ (if b then d.price else room_price_in ds row)
    price_by b t = ap (λ (c : Bool). if c then d.price else room_price_in ds row) t

    by : (b : Bool) → (d.unit == row) ≡ b → IsFree ds row ⊎ ((e : RoomDual Fraction) × IsPriced ds row e) → IsFree (d ∷ ds) row ⊎ ((e : RoomDual Fraction) × IsPriced (d ∷ ds) row e)
    by true t h = inr (d, record { listed = Contains-head d ds; name = eqb-true d.unit row t; price = price_by true t })
    by false t (inl h) = inl (record { free = price_by false t ∙ h.free })
    by false t (inr (e, p)) = inr (e, record { listed = Contains-cons d ds e p.listed; name = p.name; price = price_by false t ∙ p.price })

abbrev Once : List (RoomDual Fraction) → Type 0
Once ds = AllPairs (λ (a b : RoomDual Fraction). a.unit ≢ b.unit) ds

-- where no unit is named twice, each dual has the price of its name
own_price : (ds : List (RoomDual Fraction)) → Once ds → (e : RoomDual Fraction) → Contains ds e → room_price_in ds e.unit ≡ e.price
own_price [] once e (k, lt, at) = absurd (Prim.omega (arith, lt))
own_price (d ∷ ds) once e c = by (λ r h. own_price ds r e h) (Contains-cases d ds e c)
  where
    rest : Once ds
    rest = λ i j f p q. once (suc i) (suc j) f (Prim.omega (arith, p)) (Prim.omega (arith, q))

    other : Contains ds e → (d.unit == e.unit) ≡ false
    other (k, lt, at) = other_unit d.unit e.unit (λ same. once 0 (suc k) e (Prim.omega arith) (Prim.omega (arith, lt)) (same ∙ sym (ap (λ (f : RoomDual Fraction). f.unit) at)))

    by : (Once ds → Contains ds e → room_price_in ds e.unit ≡ e.price) → (d ≡ e) ⊎ Contains ds e → room_price_in (d ∷ ds) e.unit ≡ e.price
    by more (inl f) = ap (λ (b : Bool). if b then d.price else room_price_in ds e.unit) (eq-eqb d.unit e.unit (ap (λ (g : RoomDual Fraction). g.unit) f)) ∙ ap (λ (g : RoomDual Fraction). g.price) f
    by more (inr h) = ap (λ (b : Bool). if b then d.price else room_price_in ds e.unit) (other h) ∙ more rest h

-- a name that none of these has
abbrev IsOther : ℕ → RoomDual Fraction → Type 0
IsOther row b = row ≢ b.unit

others_to : (ds : List (RoomDual Fraction)) (row : ℕ) → names_room ds row ≡ false → All (IsOther row) ds
others_to [] row e = All-nil (IsOther row)
others_to (d ∷ ds) row e =
    let parts = or_parts (d.unit == row) (names_room ds row) e in
    All-cons (IsOther row) d ds (λ same. true≢false (sym (eq-eqb d.unit row (sym same)) ∙ parts.0)) (others_to ds row parts.1)

others_from : (ds : List (RoomDual Fraction)) (row : ℕ) → All (IsOther row) ds → names_room ds row ≡ false
others_from [] row h = refl
others_from (d ∷ ds) row h =
    neither (d.unit == row) (names_room ds row) (other_unit d.unit row (λ e. All-head (IsOther row) d ds h (sym e))) (others_from ds row (All-tail (IsOther row) d ds h))

-- ---- the reason against names
-- the unit of that gen row offers reserve
abbrev IsOffered : Parts → RoomDual Fraction → Type 0
IsOffered m e = (u : ℕ) × Contains (reserve_units m) u × ((unit_at m u).row ≡ e.unit)

module _ (m : Parts) where
  offered_to : (e : RoomDual Fraction) → has_offer m e.unit ≡ true → IsOffered m e
  offered_to e h = let r = any_true (λ (u : ℕ). (unit_at m u).row == e.unit) (reserve_units m) h in (r.0, r.1, eqb-true (unit_at m r.0).row e.unit r.2)

  offered_from : (e : RoomDual Fraction) → IsOffered m e → has_offer m e.unit ≡ true
  offered_from e (u, c, same) = any_of (λ (u : ℕ). (unit_at m u).row == e.unit) (reserve_units m) u c (eq-eqb (unit_at m u).row e.unit same)

  pub rooms_to : (ds : List (RoomDual Fraction)) → unit_reason m ds ≡ None → NamesRooms m ds
  rooms_to [] e = record { offered = All-nil (IsOffered m); once = λ i j d p q. absurd (Prim.omega (arith, q)) }
  rooms_to (d ∷ ds) e = by (not (has_offer m d.unit) || names_room ds d.unit) refl e (rooms_to ds)
    where
      by : (b : Bool) → (not (has_offer m d.unit) || names_room ds d.unit) ≡ b → (if b then Some (reason.NoUnit d.unit) else unit_reason m ds) ≡ None → (unit_reason m ds ≡ None → NamesRooms m ds) → NamesRooms m (d ∷ ds)
      by true t f more = absurd Prim.cc
      by false t f more =
          let parts = or_parts (not (has_offer m d.unit)) (names_room ds d.unit) t in
          let rest = more f in record {
            offered = All-cons (IsOffered m) d ds (offered_to d (not_false (has_offer m d.unit) parts.0)) rest.offered;
            once = AllPairs-cons (λ (a b : RoomDual Fraction). a.unit ≢ b.unit) d ds (others_to ds d.unit parts.1) rest.once;
          }

  pub rooms_from : (ds : List (RoomDual Fraction)) → NamesRooms m ds → unit_reason m ds ≡ None
  rooms_from [] h = refl
  rooms_from (d ∷ ds) h =
      let named : (not (has_offer m d.unit) || names_room ds d.unit) ≡ false = neither (not (has_offer m d.unit)) (names_room ds d.unit)
      (not_true (has_offer m d.unit) (offered_from d (All-head (IsOffered m) d ds h.offered))) (others_from ds d.unit (apart h.once)) in
      ap (λ (b : Bool). if b then Some (reason.NoUnit d.unit) else unit_reason m ds) named
      ∙ rooms_from ds (record { offered = All-tail (IsOffered m) d ds h.offered; once = λ i j f p q. h.once (suc i) (suc j) f (Prim.omega (arith, p)) (Prim.omega (arith, q)) })
    where
      apart : Once (d ∷ ds) → All (IsOther d.unit) ds
      apart once = λ k f lt. once 0 (suc k) f (Prim.omega arith) (Prim.omega (arith, lt))

-- ---- signs
pub room_signs_to : (ds : List (RoomDual Fraction)) → room_sign_reason ds ≡ None → (row : ℕ) → zero ≤ℚ room_price_in ds row
room_signs_to ds h row = by (priced ds row)
  where
    by : IsFree ds row ⊎ ((e : RoomDual Fraction) × IsPriced ds row e) → zero ≤ℚ room_price_in ds row
    by (inl f) = subst (λ y. zero ≤ℚ y) (sym f.free) (≤ℚ_refl zero)
    by (inr (e, p)) = subst (λ y. zero ≤ℚ y) (sym p.price) (not_below e.price zero (none_of (λ (e : RoomDual Fraction). reason.RoomSign e.unit) (λ (e : RoomDual Fraction). is_below e.price zero) ds h e p.listed))

-- the price of the room of a unit that offers reserve
offered_price : (m : Parts) (d : Duals Fraction) (u : ℕ) → Contains (reserve_units m) u → room_price m d u ≡ room_price_in d.rooms (unit_at m u).row
offered_price m d u c =
    ap (λ (b : Bool). if b then room_price_in d.rooms (unit_at m u).row else zero) (listed-offers m u c)

-- each dual has the price of the room of a unit that offers reserve
dual_price : (m : Parts) (d : Duals Fraction) → NamesRooms m d.rooms → (e : RoomDual Fraction) → Contains d.rooms e → (u : ℕ) → Contains (reserve_units m) u → (unit_at m u).row ≡ e.unit → room_price m d u ≡ e.price
dual_price m d names e c u k same = offered_price m d u k ∙ ap (room_price_in d.rooms) same ∙ own_price d.rooms names.once e c

module _ (m : Parts) (d : Duals Fraction) where
  pub room_sign : room_sign_reason d.rooms ≡ None → (u : ℕ) → Contains (reserve_units m) u → zero ≤ℚ room_price m d u
  room_sign h u c = subst (λ y. zero ≤ℚ y) (sym (offered_price m d u c)) (room_signs_to d.rooms h (unit_at m u).row)

  pub room_signs_from : NamesRooms m d.rooms → ((u : ℕ) → Contains (reserve_units m) u → zero ≤ℚ room_price m d u) → room_sign_reason d.rooms ≡ None
  room_signs_from names signs =
      of_none (λ (e : RoomDual Fraction). reason.RoomSign e.unit) (λ (e : RoomDual Fraction). is_below e.price zero) d.rooms
      (λ e c. by e c (All-contains (IsOffered m) d.rooms e names.offered c))
    where
      by : (e : RoomDual Fraction) → Contains d.rooms e → IsOffered m e → is_below e.price zero ≡ false
      by e c (u, k, same) = below_not e.price zero (subst (λ y. zero ≤ℚ y) (dual_price m d names e c u k same) (signs u k))

-- ---- prices above 0
module _ (m : Parts) (x : Dispatch) (d : Duals Fraction) where
  -- a room whose price is above 0 is used up
  pub used_up_to : room_slack_reason m x d.rooms ≡ None → (u : ℕ) → Contains (reserve_units m) u → zero <ℚ room_price m d u → room_used m x u ≡ room m u
  used_up_to h u c above = by (priced d.rooms (unit_at m u).row)
    where
      some : zero <ℚ room_price_in d.rooms (unit_at m u).row
      some = subst (λ y. zero <ℚ y) (offered_price m d u c) above

      by : IsFree d.rooms (unit_at m u).row ⊎ ((e : RoomDual Fraction) × IsPriced d.rooms (unit_at m u).row e) → room_used m x u ≡ room m u
      by (inl f) = absurd (<ℚ_irrefl zero (subst (λ y. zero <ℚ y) f.free some))
      by (inr (e, p)) =
          let none = any_false (λ (v : ℕ). ((unit_at m v).row == e.unit) && is_slack e.price (room_used m x v) (room m v)) (reserve_units m)
          (none_of (λ (e : RoomDual Fraction). reason.RoomSlack e.unit) (has_room_slack m x) d.rooms h e p.listed) u c in
          let slack = then_not ((unit_at m u).row == e.unit) (is_slack e.price (room_used m x u) (room m u)) none (eq-eqb (unit_at m u).row e.unit (sym p.name)) in
          same_by (room_used m x u) (room m u) (then_not (is_below zero e.price) (differ (room_used m x u) (room m u)) slack (below_of zero e.price (subst (λ y. zero <ℚ y) p.price some)))

  pub room_slack_from : NamesRooms m d.rooms → ((u : ℕ) → Contains (reserve_units m) u → RoomSupported m x d u) → room_slack_reason m x d.rooms ≡ None
  room_slack_from names rooms =
      of_none (λ (e : RoomDual Fraction). reason.RoomSlack e.unit) (has_room_slack m x) d.rooms
      (λ e c. any_none (λ (u : ℕ). ((unit_at m u).row == e.unit) && is_slack e.price (room_used m x u) (room m u)) (reserve_units m)
      (λ u k. not_both ((unit_at m u).row == e.unit) (is_slack e.price (room_used m x u) (room m u)) (λ t. by e c u k (eqb-true (unit_at m u).row e.unit t))))
    where
      by : (e : RoomDual Fraction) → Contains d.rooms e → (u : ℕ) → Contains (reserve_units m) u → (unit_at m u).row ≡ e.unit → is_slack e.price (room_used m x u) (room m u) ≡ false
      by e c u k same =
          not_both (is_below zero e.price) (differ (room_used m x u) (room m u))
          (λ t. same_not (room_used m x u) (room m u) ((rooms u k).used_up (subst (λ y. zero <ℚ y) (sym (dual_price m d names e c u k same)) (below_true zero e.price t))))

-- ---- the duals of answers
module _ (m : Parts) (market : IsMarket m) (d : Duals Fraction) (proper : ProperDuals m d) where
  abbrev row_of : ℕ → ℕ
  row_of u = (unit_at m u).row

  room_count : length d.rooms ≡ length (named_rooms m d)
  room_count = sym (length-map (λ (e : RoomDual Fraction). e.unit) d.rooms) ∙ ap length proper.rooms_named ∙ length-map row_of (named_rooms m d)

  unit_is : (k : ℕ) (e : RoomDual Fraction) (u : ℕ) → k < length d.rooms → (get_or d.rooms k e).unit ≡ row_of (get_or (named_rooms m d) k u)
  unit_is k e u h =
      sym (get_or-map (λ (f : RoomDual Fraction). f.unit) d.rooms k e e.unit h) ∙ ap (λ (rows : List ℕ). get_or rows k e.unit) proper.rooms_named
      ∙ get_or-map row_of (named_rooms m d) k u e.unit (Prim.omega (arith, h, room_count))

  units_apart : AllPairs (λ u v. row_of u ≢ row_of v) (places (length m.units))
  units_apart i j e p q =
      let inside : j < length m.units = Prim.omega (arith, q, length-range_with_len 0 (length m.units)) in
      let below : i < length m.units = Prim.omega (arith, p, inside) in
      λ same.
      let here : i ≡ j = unit_of_row m market i j below inside (ap row_of (sym (place_at (length m.units) i e below)) ∙ same ∙ ap row_of (place_at (length m.units) j e inside)) in
      Prim.omega (arith, p, here)

  pub names_rooms : NamesRooms m d.rooms
  names_rooms = record {
    offered = λ k e lt.
        let inside : k < length (named_rooms m d) = Prim.omega (arith, lt, room_count) in
        let u = get_or (named_rooms m d) k 0 in
        (u, (Contains-from_filter (λ v. names_room d.rooms (row_of v)) (reserve_units m) u (k, inside, same_default (named_rooms m d) k u 0 inside)).0, sym (unit_is k e 0 lt));
    once = λ i j e p q. λ same.
        let inside : j < length (named_rooms m d) = Prim.omega (arith, q, room_count) in
        AllPairs-filter (λ u v. row_of u ≢ row_of v) (λ v. names_room d.rooms (row_of v)) (reserve_units m)
        (AllPairs-filter (λ u v. row_of u ≢ row_of v) (offers_reserve m) (places (length m.units)) units_apart) i j 0 p inside
        (sym (unit_is i e 0 (Prim.omega (arith, p, q))) ∙ same ∙ unit_is j e 0 q);
  }
