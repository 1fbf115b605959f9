-- Rooms that duals name, and what reserve adds to the bound of duals.
use Rattle.std.specs.Prelude.{◌≡◌, ◌≢◌, ◌⊎◌, ◌==◌, ◌||◌, ℕ, ◌+◌, ◌<◌, ◌≤◌, Bool, true, false, List, [], ◌∷◌, ◌++◌, map, filter, length, take, Option, Some, None, Contains, MatchOption, if◌then◌else◌, refl}
use Rattle.std.proofs.Common.{arith, inl, inr, ap, ap₂, sym, subst, ◌∙◌, append_assoc, drop, get_or}
use Rattle.std.proofs.lemmas.List.{append-nil, map-append, get_or-map, length-map, take_all}
use Rattle.std.proofs.lemmas.Bool.Decides.{eqb_tells}
use Rattle.fraction_theory.specs.Fraction.{Fraction, neg_ℚ, ◌+ℚ◌, ◌-ℚ◌, ◌*ℚ◌}
use Rattle.fraction_theory.specs.Sums.{sum_by, Term, Product, total}
use Rattle.fraction_theory.proofs.FieldLaws.{ring_ℚ, +ℚ_nil, +ℚ_assoc}
use Rattle.fraction_theory.proofs.ListSums.{Contains-cases, Contains-cons, Contains-filter, Contains-from_filter, Contains-head, kept, sum_by-filter}
use Rattle.fraction_theory.proofs.Ring.{by_ring, at, pneg, pnil, ◌⊕◌, ◌⊗◌}
use Rattle.fraction_theory.proofs.SumLaws.{sum_by-same, total-append, total-map}
use Rattle.exact_fraction.specs.declared.Op.TheVariants.{Minus}
use Rattle.exact_fraction.specs.declared.Passed.{Passed}
use Rattle.market_model.specs.declared.answered.Duals.{Duals}
use Rattle.market_model.specs.declared.answered.RoomDual.{RoomDual}
use Rattle.market_model.specs.declared.participants.Parts.{Parts}
use Rattle.market_model.specs.Dispatch.{zero, places, reserve_quantity, unit_at}
use Rattle.fraction_theory.specs.Signs.{part_above}
use Rattle.market_model.specs.Infeasibility.{energy_left_terms, farkas_bound, farkas_terms, need_terms, nothing_terms, block_most, offer_most, offer_weight}
use Rattle.market_model.specs.NamedSums.{IsRefusal, IsRefusedIn, IsShareRefusal}
use Rattle.market_model.specs.Optimality.{named_rooms, names_room, reserve_worth_terms, room_price, room_price_in, unit_price, worth_terms}
use Rattle.market_model.specs.Reserves.{offer_places, offers_reserve, reserve_need, reserve_units, room}
use Rattle.market_model.specs.SumTables.{IsRefusedAmong, WorthSum, energy_of_unit, reserve_of_unit}
use Rattle.market_model.proofs.FarkasParts.{farkas_terms-parts}
use Rattle.market_model.proofs.MorePlaces.{sum_by_more, total-places_more}
use Rattle.market_model.proofs.RoomLemmas.{listed-inside, offers-listed}
use Rattle.market_model.proofs.SumSteps.{behind, in_front, share_at, terms_at, difference_refused}
use Rattle.cert_sums.specs.declared.worths.NamedRoom.{NamedRoom}
use Rattle.cert_sums.specs.Named.{AreNamedRooms, PricedRoom, room_in, room_priced_at, room_priced_by}
use Rattle.limit_rows.proofs.DualLemmas.{filter_at}

-- ---- a room that is not named is free
room_unnamed : (ds : List (RoomDual Fraction)) (row : ℕ) → names_room ds row ≡ false → room_price_in ds row ≡ zero
room_unnamed [] row h = refl
room_unnamed (d ∷ ds) row h = by (d.unit == row) (room_unnamed ds row) h
  where
    by : (b : Bool) → (names_room ds row ≡ false → room_price_in ds row ≡ zero) → (b || names_room ds row) ≡ false → (if b then d.price else room_price_in ds row) ≡ zero
    by true more e = absurd Prim.cc
    by false more e = more e

free_room : (m : Parts) (d : Duals Fraction) (u : ℕ) → names_room d.rooms (unit_at m u).row ≡ false → room_price m d u ≡ zero
free_room m d u h = by (offers_reserve m u)
  where
    by : (b : Bool) → (if b then room_price_in d.rooms (unit_at m u).row else zero) ≡ zero
    by true = room_unnamed d.rooms (unit_at m u).row h
    by false = refl

-- where it is not among those that duals name
pub free_where_unnamed : (m : Parts) (d : Duals Fraction) (u : ℕ) → u < length m.units → ¬ (Contains (named_rooms m d) u) → room_price m d u ≡ zero
free_where_unnamed m d u lt none = by (offers_reserve m u) refl (names_room d.rooms (unit_at m u).row) refl
  where
    by : (b : Bool) → offers_reserve m u ≡ b → (n : Bool) → names_room d.rooms (unit_at m u).row ≡ n → room_price m d u ≡ zero
    by true e true f = absurd (none (Contains-filter (λ v. names_room d.rooms (unit_at m v).row) (reserve_units m) u (offers-listed m u lt e) f))
    by b e false f = free_room m d u f
    by false e true f = ap (λ (b : Bool). if b then room_price_in d.rooms (unit_at m u).row else zero) e

-- ---- rooms that are named, by unit
module _ {N : Type 0} (value : N → Fraction) (m : Parts) (d : Duals Fraction) where
  -- of these units, with the prices that duals give their rooms
  abbrev Answers : List ℕ → ℕ → Option N → Type 0
  Answers us u found = MatchOption found (¬ (Contains us u)) (λ p. Contains us u × (value p ≡ room_price m d u))

  found_among : (rooms : List (NamedRoom N)) (us : List ℕ) (u : ℕ) → map (room_priced_at value) rooms ≡ map (room_priced_by m d) us → Answers us u (room_in rooms u)
  found_among [] [] u e = λ c. Prim.omega (arith, c.1)
  found_among [] (v ∷ vs) u e = absurd Prim.cc
  found_among (r ∷ rs) [] u e = absurd Prim.cc
  found_among (r ∷ rs) (v ∷ vs) u e = by (eqb_tells r.unit u) (found_among rs vs u (ap (λ (es : List PricedRoom). drop 1 es) e))
    where
      first : r.unit ≡ v
      first = ap (λ (es : List PricedRoom). (get_or es 0 (room_priced_at value r)).unit) e

      price : value r.price ≡ room_price m d v
      price = ap (λ (es : List PricedRoom). (get_or es 0 (room_priced_at value r)).price) e

      further : (found : Option N) → r.unit ≢ u → Answers vs u found → Answers (v ∷ vs) u found
      further None other none = λ c. elim (Contains-cases v vs u c) [ inl s ↦ other (first ∙ s) | inr k ↦ none k ]
      further (Some p) other (c, is) = (Contains-cons v vs u c, is)

      by : ((r.unit == u ≡ true) × (r.unit ≡ u)) ⊎ ((r.unit == u ≡ false) × (r.unit ≢ u)) → Answers vs u (room_in rs u) → Answers (v ∷ vs) u (if r.unit == u then Some r.price else room_in rs u)
      by (inl t) more =
          subst (λ (b : Bool). Answers (v ∷ vs) u (if b then Some r.price else room_in rs u)) (sym t.0)
          (subst (λ (w : ℕ). Contains (v ∷ vs) w) (sym first ∙ t.1) (Contains-head v vs), price ∙ ap (room_price m d) (sym first ∙ t.1))
      by (inr t) more = subst (λ (b : Bool). Answers (v ∷ vs) u (if b then Some r.price else room_in rs u)) (sym t.0) (further (room_in rs u) t.1 more)

  pub room_found : (rooms : List (NamedRoom N)) (u : ℕ) → u < length m.units → AreNamedRooms value m d rooms
      → MatchOption (room_in rooms u) (room_price m d u ≡ zero) (λ p. Contains (reserve_units m) u × (value p ≡ room_price m d u))
  room_found rooms u lt are = by (room_in rooms u) (found_among rooms (named_rooms m d) u are)
    where
      by : (found : Option N) → Answers (named_rooms m d) u found → MatchOption found (room_price m d u ≡ zero) (λ p. Contains (reserve_units m) u × (value p ≡ room_price m d u))
      by None none = free_where_unnamed m d u lt none
      by (Some p) (c, is) = ((Contains-from_filter (λ v. names_room d.rooms (unit_at m v).row) (reserve_units m) u c).0, is)

  module _ (rooms : List (NamedRoom N)) (u : ℕ) (found : Option N) (is : found ≡ room_in rooms u) (lt : u < length m.units) (are : AreNamedRooms value m d rooms) where
    pub room_named : (p : N) → found ≡ Some p → Contains (reserve_units m) u × (value p ≡ room_price m d u)
    room_named p e =
        subst (λ (o : Option N). MatchOption o (room_price m d u ≡ zero) (λ q. Contains (reserve_units m) u × (value q ≡ room_price m d u))) (sym is ∙ e) (room_found rooms u lt are)

    pub room_not_named : found ≡ None → room_price m d u ≡ zero
    room_not_named e =
        subst (λ (o : Option N). MatchOption o (room_price m d u ≡ zero) (λ q. Contains (reserve_units m) u × (value q ≡ room_price m d u))) (sym is ∙ e) (room_found rooms u lt are)

-- nothing taken
pub less_nothing : (x y : Fraction) → y ≡ zero → x ≡ x -ℚ y
less_nothing x y e = by_ring ring_ℚ (x ∷ []) (at 0) (at 0 ⊕ pneg pnil) refl ∙ ap (λ t. x -ℚ t) (sym e)

-- a price that is taken from another
module _ (m : Parts) (d : Duals Fraction) (u : ℕ) (listed : Contains (reserve_units m) u) (bound : ℕ) (p : Passed Fraction) where
  pub energy_worth_refused : IsRefusal Minus (unit_price m d u) (room_price m d u) bound p → IsRefusedAmong (WorthSum m d) bound p
  energy_worth_refused h = (
    worth_terms m d u,
    energy_of_unit u listed,
    difference_refused (unit_price m d u) (room_price m d u) (unit_price m d u) (room_price m d u) bound p refl refl h,
  )

  pub reserve_worth_refused : IsRefusal Minus d.reserve (room_price m d u) bound p → IsRefusedAmong (WorthSum m d) bound p
  reserve_worth_refused h = (
    reserve_worth_terms m d u,
    reserve_of_unit u listed,
    difference_refused d.reserve (room_price m d u) d.reserve (room_price m d u) bound p refl refl h,
  )

-- ---- named rooms, one by one
pub record IsNamedRoomAt (m : Parts) (d : Duals Fraction) (k : ℕ) (e : PricedRoom) : Type 0 where
  pub inside : k < length (named_rooms m d)
  pub at : e.unit ≡ get_or (named_rooms m d) k e.unit
  pub price : e.price ≡ room_price m d e.unit

module _ {N : Type 0} (value : N → Fraction) (m : Parts) (d : Duals Fraction) (rooms : List (NamedRoom N)) (are : AreNamedRooms value m d rooms) where
  pub room_count : length rooms ≡ length (named_rooms m d)
  room_count = sym (length-map rooms (room_priced_at value)) ∙ ap length are ∙ length-map (named_rooms m d) (room_priced_by m d)

  pub room_named_at : (k : ℕ) (e : NamedRoom N) → k < length rooms → e ≡ get_or rooms k e → IsNamedRoomAt m d k (room_priced_at value e)
  room_named_at k e below is =
      let inside : k < length (named_rooms m d) = Prim.omega (arith, below, room_count) in
      let same : room_priced_at value e ≡ room_priced_by m d (get_or (named_rooms m d) k e.unit) =
      ap (room_priced_at value) is ∙ sym (get_or-map (room_priced_at value) rooms k e (room_priced_at value e) below) ∙ ap (λ (es : List PricedRoom). get_or es k (room_priced_at value e)) are
      ∙ get_or-map (room_priced_by m d) (named_rooms m d) k e.unit (room_priced_at value e) inside in
      let at : e.unit ≡ get_or (named_rooms m d) k e.unit = ap (λ (t : PricedRoom). t.unit) same in
      record { inside = inside; at = at; price = ap (λ (t : PricedRoom). t.price) same ∙ ap (room_price m d) (sym at) }

-- the unit is one of the market's
pub room_unit-in : (m : Parts) (d : Duals Fraction) (k : ℕ) (e : PricedRoom) → IsNamedRoomAt m d k e → e.unit < length m.units
room_unit-in m d k e h = listed-inside m e.unit (Contains-from_filter (λ v. names_room d.rooms (unit_at m v).row) (reserve_units m) e.unit (k, h.inside, sym h.at)).0

-- ---- the need and the rooms of the bound
module _ (m : Parts) (d : Duals Fraction) where
  abbrev room_term : ℕ → Term
  room_term u = Product (room_price m d u) (room m u)

  abbrev room_terms_of : List ℕ → List Term
  room_terms_of us = map room_term us

  abbrev behind_rooms : List Term
  behind_rooms = map (block_most m d) (places (length m.blocks)) ++ map (offer_most m d) (offer_places m)

  pub no_need : (sum : Fraction) → m.reserve.listed ≡ false → sum ≡ total (energy_left_terms m d) → sum ≡ total (energy_left_terms m d ++ need_terms m d)
  no_need sum none e =
      e ∙ ap total (sym (append-nil (energy_left_terms m d)) ∙ ap (λ (b : Bool). energy_left_terms m d ++ (if b then Product d.reserve (neg_ℚ (reserve_need m)) ∷ [] else [])) (sym none))

  -- what a room makes at its price
  abbrev room_made : ℕ → Fraction
  room_made u = room_price m d u *ℚ room m u

  abbrev named : ℕ → Bool
  named u = names_room d.rooms (unit_at m u).row

  sum_of_named : (us : List ℕ) → sum_by room_made (filter named us) ≡ sum_by room_made us
  sum_of_named us = sum_by-filter room_made named us ∙ sum_by-same (λ u. kept (named u) (room_made u)) room_made us (λ u. by u (named u) refl)
    where
      by : (u : ℕ) (b : Bool) → named u ≡ b → kept b (room_made u) ≡ room_made u
      by u true e = refl
      by u false e = by_ring ring_ℚ (room m u ∷ []) pnil (pnil ⊗ at 0) refl ∙ ap (λ t. t *ℚ room m u) (sym (free_room m d u e))

  abbrev in_front_of_rooms : List Term
  in_front_of_rooms = energy_left_terms m d ++ need_terms m d

  -- with the first rooms that duals name
  abbrev pub rooms_to : ℕ → Fraction
  rooms_to k = total in_front_of_rooms +ℚ sum_by room_made (take k (named_rooms m d))

  pub rooms_none : (s : Fraction) → s ≡ total in_front_of_rooms → s ≡ rooms_to 0
  rooms_none s e = e ∙ sym (+ℚ_nil (total in_front_of_rooms))

  pub rooms_all : (k : ℕ) → length (named_rooms m d) ≤ k → rooms_to k ≡ total (nothing_terms m d)
  rooms_all k h =
      ap (λ t. total in_front_of_rooms +ℚ t)
      (ap (sum_by room_made) (take_all k (named_rooms m d) h) ∙ sum_of_named (reserve_units m) ∙ sym (total-map room_term (reserve_units m)))
      ∙ sym (total-append in_front_of_rooms (room_terms_of (reserve_units m)))
      ∙ ap total (append_assoc (energy_left_terms m d) (need_terms m d) (room_terms_of (reserve_units m)))

  module _ (k : ℕ) (e : PricedRoom) (h : IsNamedRoomAt m d k e) where
    pub room_step : (mw old new : Fraction) → mw ≡ room m e.unit → old ≡ rooms_to k → new ≡ old +ℚ e.price *ℚ mw → new ≡ rooms_to (k + 1)
    room_step mw old new is before eq =
        eq ∙ ap₂ (λ s t. old +ℚ s *ℚ t) h.price is
        ∙ ap (λ t. t +ℚ room_made e.unit) before
        ∙ +ℚ_assoc (total in_front_of_rooms) (sum_by room_made (take k (named_rooms m d))) (room_made e.unit)
        ∙ ap (λ t. total in_front_of_rooms +ℚ t)
        (ap (λ (u : ℕ). sum_by room_made (take k (named_rooms m d)) +ℚ room_made u) h.at ∙ sym (sum_by_more room_made (named_rooms m d) k e.unit h.inside))

    pub room_refused : (mw sum : Fraction) (bound : ℕ) (p : Passed Fraction) → mw ≡ room m e.unit → sum ≡ rooms_to k → IsShareRefusal sum e.price mw bound p → IsRefusedIn (farkas_terms m d) bound p
    room_refused mw sum bound p is before why =
        let s = filter_at named (reserve_units m) k e.unit h.inside in
        let units : reserve_units m ≡ s.0 ++ e.unit ∷ s.1 = s.2 ∙ ap (λ (u : ℕ). s.0 ++ u ∷ s.1) (sym h.at) in
        let rooms : room_terms_of (reserve_units m) ≡ room_terms_of s.0 ++ room_term e.unit ∷ room_terms_of s.1 = ap room_terms_of units ∙ map-append room_term s.0 (e.unit ∷ s.1) in
        share_at (farkas_terms m d) (in_front_of_rooms ++ room_terms_of s.0) (room_terms_of s.1 ++ behind_rooms) (room_term e.unit)
        (farkas_terms-parts m d ∙ sym (append_assoc (energy_left_terms m d) (need_terms m d ++ room_terms_of (reserve_units m)) behind_rooms)
        ∙ ap (λ ts. ts ++ behind_rooms) (sym (append_assoc (energy_left_terms m d) (need_terms m d) (room_terms_of (reserve_units m))))
        ∙ in_front (in_front_of_rooms ++ room_terms_of (reserve_units m)) (in_front_of_rooms ++ room_terms_of s.0) (room_terms_of s.1) behind_rooms (room_term e.unit)
        (behind in_front_of_rooms (room_terms_of (reserve_units m)) (room_terms_of s.0) (room_terms_of s.1) (room_term e.unit) rooms))
        bound p sum e.price mw (ap₂ Product (sym h.price) (sym is))
        (before
        ∙ ap (λ t. total in_front_of_rooms +ℚ t) (ap (sum_by room_made) (sym s.3) ∙ sum_of_named s.0 ∙ sym (total-map room_term s.0))
        ∙ sym (total-append in_front_of_rooms (room_terms_of s.0)))
        why

  -- ---- the offers of the bound
  abbrev in_front_of_offers : List Term
  in_front_of_offers = nothing_terms m d ++ map (block_most m d) (places (length m.blocks))

  abbrev pub offers_to : ℕ → Fraction
  offers_to k = total in_front_of_offers +ℚ total (map (offer_most m d) (places k))

  pub offers_none : (s : Fraction) → s ≡ total in_front_of_offers → s ≡ offers_to 0
  offers_none s e = e ∙ sym (+ℚ_nil (total in_front_of_offers))

  pub offers_all : offers_to (length m.reserve.offers) ≡ farkas_bound m d
  unfolding farkas_bound
  offers_all = sym (total-append in_front_of_offers (map (offer_most m d) (offer_places m)))

  pub offer_step : (k : ℕ) (weight mw old new : Fraction) → weight ≡ offer_weight m d k → mw ≡ reserve_quantity m k → old ≡ offers_to k → new ≡ old +ℚ part_above weight *ℚ mw → new ≡ offers_to (k + 1)
  offer_step k weight mw old new weighs is before eq =
      eq ∙ ap₂ (λ w q. old +ℚ part_above w *ℚ q) weighs is
      ∙ ap (λ t. t +ℚ part_above (offer_weight m d k) *ℚ reserve_quantity m k) before
      ∙ +ℚ_assoc (total in_front_of_offers) (total (map (offer_most m d) (places k))) (part_above (offer_weight m d k) *ℚ reserve_quantity m k)
      ∙ ap (λ t. total in_front_of_offers +ℚ t) (sym (total-places_more (offer_most m d) k))

  pub offer_refused : (k : ℕ) (weight mw sum : Fraction) (bound : ℕ) (p : Passed Fraction) → k < length m.reserve.offers → weight ≡ offer_weight m d k → mw ≡ reserve_quantity m k → sum ≡ offers_to k
      → IsShareRefusal sum (part_above weight) mw bound p → IsRefusedIn (farkas_terms m d) bound p
  offer_refused k weight mw sum bound p inside weighs is before why =
      let r = terms_at (offer_most m d) (length m.reserve.offers) k inside in
      share_at (farkas_terms m d) (in_front_of_offers ++ map (offer_most m d) (places k)) r.0 (offer_most m d k)
      (behind in_front_of_offers (map (offer_most m d) (offer_places m)) (map (offer_most m d) (places k)) r.0 (offer_most m d k) r.1)
      bound p sum (part_above weight) mw (ap₂ (λ w q. Product (part_above w) q) (sym weighs) (sym is))
      (before ∙ sym (total-append in_front_of_offers (map (offer_most m d) (places k)))) why
