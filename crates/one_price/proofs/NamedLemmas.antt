-- Proper duals are told by their prices.
use Rattle.std.specs.Prelude.{◌≡◌, ◌≢◌, ◌⊎◌, ℕ, ◌+◌, ◌<◌, ◌==◌, ◌||◌, Bool, true, false, List, [], ◌∷◌, ◌++◌, length, map, reverse, if◌then◌else◌, All, Contains, refl}
use Rattle.std.proofs.Common.{suc, arith, ap, ap₂, sym, ◌∙◌, subst, inl, inr, get_or}
use Rattle.std.proofs.lemmas.Bool.Decides.{eqb_tells}
use Rattle.std.proofs.lemmas.List.{ext_get_or, get_or-map, length-append}
use Rattle.std.proofs.lemmas.List.FromFn.{length-range_with_len}
use Rattle.fraction_theory.specs.Fraction.{Fraction}
use Rattle.fraction_theory.specs.Order.{◌<ℚ◌}
use Rattle.fraction_theory.proofs.ListSums.{Contains-cons, Contains-head, Contains-from_filter, Distinct, Distinct-filter, Distinct-head, Distinct-tail, filter-members}
use Rattle.fraction_theory.proofs.OrderLaws.{<ℚ_irrefl}
use Rattle.market_model.specs.declared.answered.Dual.{Dual}
use Rattle.market_model.specs.declared.answered.Duals.{Duals}
use Rattle.market_model.specs.declared.answered.RoomDual.{RoomDual}
use Rattle.market_model.specs.declared.answered.RowId.{RowId}
use Rattle.market_model.specs.declared.limits.Row.{Row}
use Rattle.market_model.specs.declared.participants.Parts.{Parts}
use Rattle.market_model.specs.Dispatch.{zero as nil, places, unit_at}
use Rattle.market_model.specs.LimitRows.{rows, row_id}
use Rattle.market_model.specs.Market.{IsMarket}
use Rattle.market_model.specs.Optimality.{IsOneSided, ProperDuals, down_in, down_of, named_rooms, named_rows, names_room, names_row, room_price, room_price_in, same_id, up_in, up_of}
use Rattle.market_model.specs.Reserves.{offers_reserve, reserve_units}
use Rattle.market_model.proofs.ChangeLemmas.{same_default}
use Rattle.market_model.proofs.LostLemmas.{place_at}
use Rattle.market_model.proofs.RoomLemmas.{listed-inside, listed-offers}
use Rattle.market_model.proofs.RowMembers.{Contains-from_map}
use Rattle.limit_rows.proofs.ApartLemmas.{unit_of_row}
use Rattle.limit_rows.proofs.DualLemmas.{down_unnamed, named_count, row_of_dual, up_unnamed}
use Rattle.limit_rows.proofs.GroupLemmas.{length-map}
use Rattle.one_price.specs.FirstPrices.{limit_prices, other_prices, room_prices, with_energy}
use Rattle.one_price.specs.Laws.{LawOfOtherPrices}
use Rattle.one_price.proofs.ListLemmas.{Contains-reverse, length-pairs, same_head, same_of_maps, same_of_pairs, same_parts, same_tail}

abbrev no_limit : Dual Fraction
no_limit = record { row = record { branch = 0; outage = 0; unit = 0 }; up = nil; down = nil }

-- ---- what is named has a price
-- a limit that duals name has a price above 0 on one of its sides
limit_priced : (ds : List (Dual Fraction)) (id : RowId) → All IsOneSided ds → names_row ds id ≡ true → (nil <ℚ up_in ds id) ⊎ (nil <ℚ down_in ds id)
limit_priced [] id sides h = absurd Prim.cc
limit_priced (d ∷ ds) id sides h = by (same_id d.row id) h (limit_priced ds id (λ i e lt. sides (suc i) e (Prim.omega (arith, lt))))
  where
    own : IsOneSided d
    own = sides 0 d (Prim.omega arith)

    one : ((nil <ℚ d.up) × (d.down ≡ nil)) ⊎ ((d.up ≡ nil) × (nil <ℚ d.down)) → (nil <ℚ d.up) ⊎ (nil <ℚ d.down)
    one (inl p) = inl p.0
    one (inr p) = inr p.1

    by : (b : Bool) → (b || names_row ds id) ≡ true → (names_row ds id ≡ true → (nil <ℚ up_in ds id) ⊎ (nil <ℚ down_in ds id))
        → (nil <ℚ (if b then d.up else up_in ds id)) ⊎ (nil <ℚ (if b then d.down else down_in ds id))
    by true k more = one own.one
    by false k more = more k

-- so a room
room_priced : (ds : List (RoomDual Fraction)) (row : ℕ) → All (λ (e : RoomDual Fraction). nil <ℚ e.price) ds → names_room ds row ≡ true → nil <ℚ room_price_in ds row
room_priced [] row above h = absurd Prim.cc
room_priced (d ∷ ds) row above h = by (d.unit == row) h (room_priced ds row (λ i e lt. above (suc i) e (Prim.omega (arith, lt))))
  where
    by : (b : Bool) → (b || names_room ds row) ≡ true → (names_room ds row ≡ true → nil <ℚ room_price_in ds row) → nil <ℚ (if b then d.price else room_price_in ds row)
    by true k more = above 0 d (Prim.omega arith)
    by false k more = more k

-- and one that they do not name has none
room_unnamed : (ds : List (RoomDual Fraction)) (row : ℕ) → names_room ds row ≡ false → room_price_in ds row ≡ nil
room_unnamed [] row h = refl
room_unnamed (d ∷ ds) row h = by (d.unit == row) h (room_unnamed ds row)
  where
    by : (b : Bool) → (b || names_room ds row) ≡ false → (names_room ds row ≡ false → room_price_in ds row ≡ nil) → (if b then d.price else room_price_in ds row) ≡ nil
    by true k more = absurd Prim.cc
    by false k more = more k

not_nil : (x : Fraction) → x ≡ nil → ¬ (nil <ℚ x)
not_nil x e l = <ℚ_irrefl nil (subst (λ t. nil <ℚ t) e l)

-- tests of which neither holds without the other
same_tests : (a b : Bool) → (a ≡ true → b ≡ false → ⊥) → (b ≡ true → a ≡ false → ⊥) → a ≡ b
same_tests true true h k = refl
same_tests true false h k = absurd (h refl refl)
same_tests false true h k = absurd (k refl refl)
same_tests false false h k = refl

-- so lists of the same prices name the same
same_named_limit : (ds es : List (Dual Fraction)) (id : RowId) → All IsOneSided ds → All IsOneSided es → up_in ds id ≡ up_in es id → down_in ds id ≡ down_in es id
    → names_row ds id ≡ names_row es id
same_named_limit ds es id p q up down = same_tests (names_row ds id) (names_row es id) (one_not ds es p up down) (one_not es ds q (sym up) (sym down))
  where
    one_not : (us vs : List (Dual Fraction)) → All IsOneSided us → up_in us id ≡ up_in vs id → down_in us id ≡ down_in vs id → names_row us id ≡ true → names_row vs id ≡ false → ⊥
    one_not us vs sides u d h k = elim (limit_priced us id sides h) [
      | inl l ↦ not_nil (up_in us id) (u ∙ up_unnamed vs id k) l
      | inr l ↦ not_nil (down_in us id) (d ∙ down_unnamed vs id k) l
    ]

same_named_room : (ds es : List (RoomDual Fraction)) (row : ℕ) → All (λ (e : RoomDual Fraction). nil <ℚ e.price) ds → All (λ (e : RoomDual Fraction). nil <ℚ e.price) es
    → room_price_in ds row ≡ room_price_in es row → names_room ds row ≡ names_room es row
same_named_room ds es row p q same = same_tests (names_room ds row) (names_room es row)
    (λ h k. not_nil (room_price_in ds row) (same ∙ room_unnamed es row k) (room_priced ds row p h))
    (λ h k. not_nil (room_price_in es row) (sym same ∙ room_unnamed ds row k) (room_priced es row q h))

-- ---- lists of rooms by names of which no two are one
other_room : (a b : ℕ) → a ≢ b → (a == b) ≡ false
other_room a b n = elim (eqb_tells a b) [ inl t ↦ absurd (n t.1) | inr t ↦ t.0 ]

own_room : (a : ℕ) → (a == a) ≡ true
own_room a = elim (eqb_tells a a) [ inl t ↦ t.0 | inr t ↦ absurd (t.1 refl) ]

abbrev names : List (RoomDual Fraction) → List ℕ
names rs = map (λ (e : RoomDual Fraction). e.unit) rs

-- with the same names and the same prices of these they are the same
one_list_of_rooms : (ds es : List (RoomDual Fraction)) → Distinct (names ds) → names ds ≡ names es
    → ((n : ℕ) → Contains (names ds) n → room_price_in ds n ≡ room_price_in es n) → ds ≡ es
one_list_of_rooms [] [] apart units prices = refl
one_list_of_rooms [] (e ∷ es) apart units prices = let wrong : 0 ≡ suc (length (names es)) = ap length units in absurd (Prim.omega (arith, wrong))
one_list_of_rooms (d ∷ ds) [] apart units prices = let wrong : suc (length (names ds)) ≡ 0 = ap length units in absurd (Prim.omega (arith, wrong))
one_list_of_rooms (d ∷ ds) (e ∷ es) apart units prices = ap₂ ◌∷◌ (λ i. record { unit = unit i; price = price i })
    (one_list_of_rooms ds es (Distinct-tail d.unit (names ds) apart) rest
    (λ n c. sym (behind d ds n (λ s. Distinct-head d.unit (names ds) apart (subst (λ (k : ℕ). Contains (names ds) k) (sym s) c)))
    ∙ prices n (Contains-cons d.unit (names ds) n c)
    ∙ behind e es n (λ s. Distinct-head d.unit (names ds) apart (subst (λ (k : ℕ). Contains (names ds) k) (sym (unit ∙ s)) c))))
  where
    unit : d.unit ≡ e.unit
    unit = same_head d.unit e.unit (names ds) (names es) units

    rest : names ds ≡ names es
    rest = same_tail d.unit e.unit (names ds) (names es) units

    own : (r : RoomDual Fraction) (rs : List (RoomDual Fraction)) (n : ℕ) → r.unit ≡ n → room_price_in (r ∷ rs) n ≡ r.price
    own r rs n s = ap (λ (k : ℕ). room_price_in (r ∷ rs) k) (sym s) ∙ ap (λ (b : Bool). if b then r.price else room_price_in rs r.unit) (own_room r.unit)

    behind : (r : RoomDual Fraction) (rs : List (RoomDual Fraction)) (n : ℕ) → r.unit ≢ n → room_price_in (r ∷ rs) n ≡ room_price_in rs n
    behind r rs n s = ap (λ (b : Bool). if b then r.price else room_price_in rs n) (other_room r.unit n s)

    price : d.price ≡ e.price
    price = sym (own d ds d.unit refl) ∙ prices d.unit (Contains-head d.unit (names ds)) ∙ own e es d.unit (sym unit)

-- names of numbers of which no two are one, where what they name is apart
Distinct-map : (f : ℕ → ℕ) (xs : List ℕ) → Distinct xs → ((u v : ℕ) → Contains xs u → Contains xs v → f u ≡ f v → u ≡ v) → Distinct (map f xs)
Distinct-map f xs apart one i j d below h same =
    let last : j < length xs = Prim.omega (arith, h, length-map f xs) in
    let first : i < length xs = Prim.omega (arith, below, last) in
    apart i j 0 below last (one (get_or xs i 0) (get_or xs j 0) (i, first, same_default xs i (get_or xs i 0) 0 first) (j, last, same_default xs j (get_or xs j 0) 0 last)
    (sym (get_or-map f xs i 0 d first) ∙ same ∙ get_or-map f xs j 0 d last))

places_apart : (n : ℕ) → Distinct (places n)
places_apart n i j d below h same =
    let last : j < n = Prim.omega (arith, h, length-range_with_len 0 n) in
    let first : i < n = Prim.omega (arith, below, last) in
    Prim.omega (arith, below, sym (place_at n i d first) ∙ same ∙ place_at n j d last)

-- ---- the lists of prices
module _ (m : Parts) (d e : Duals Fraction) where
  rooms_long : length (room_prices m d) ≡ length (room_prices m e)
  rooms_long = length-map (room_price m d) (reverse (reserve_units m)) ∙ sym (length-map (room_price m e) (reverse (reserve_units m)))

  limits_long : length (limit_prices m d) ≡ length (limit_prices m e)
  limits_long = length-pairs (down_of m d) (up_of m d) (down_of m e) (up_of m e) (reverse (rows m))

  front_long : length (room_prices m d ++ limit_prices m d) ≡ length (room_prices m e ++ limit_prices m e)
  front_long = length-append (room_prices m d) (limit_prices m d) ∙ ap₂ ◌+◌ rooms_long limits_long ∙ sym (length-append (room_prices m e) (limit_prices m e))

  -- those of any two duals are of one length
  pub others_long : length (other_prices m d) ≡ length (other_prices m e)
  others_long =
      length-append (room_prices m d ++ limit_prices m d) (d.reserve ∷ []) ∙ ap (λ (n : ℕ). n + 1) front_long
      ∙ sym (length-append (room_prices m e ++ limit_prices m e) (e.reserve ∷ []))

-- where they are the same
module _ (m : Parts) (d e : Duals Fraction) (same : other_prices m d ≡ other_prices m e) where
  parts : (room_prices m d ++ limit_prices m d ≡ room_prices m e ++ limit_prices m e) × (d.reserve ∷ [] ≡ e.reserve ∷ [])
  parts = same_parts (room_prices m d ++ limit_prices m d) (d.reserve ∷ []) (room_prices m e ++ limit_prices m e) (e.reserve ∷ []) (front_long m d e) same

  front : (room_prices m d ≡ room_prices m e) × (limit_prices m d ≡ limit_prices m e)
  front = same_parts (room_prices m d) (limit_prices m d) (room_prices m e) (limit_prices m e) (rooms_long m d e) parts.0

  same_reserve : d.reserve ≡ e.reserve
  same_reserve = same_head d.reserve e.reserve [] [] parts.1

  same_room : (u : ℕ) → Contains (reserve_units m) u → room_price m d u ≡ room_price m e u
  same_room u c = same_of_maps (room_price m d) (room_price m e) (reverse (reserve_units m)) front.0 u (Contains-reverse (reserve_units m) u c)

  same_limit : (r : Row) → Contains (rows m) r → (down_of m d r ≡ down_of m e r) × (up_of m d r ≡ up_of m e r)
  same_limit r c = same_of_pairs (down_of m d) (up_of m d) (down_of m e) (up_of m e) (reverse (rows m)) front.1 r (Contains-reverse (rows m) r c)

  listed_room : (u : ℕ) → Contains (reserve_units m) u → room_price_in d.rooms (unit_at m u).row ≡ room_price_in e.rooms (unit_at m u).row
  listed_room u c =
      let offers : offers_reserve m u ≡ true = listed-offers m u c in
      sym (ap (λ (b : Bool). if b then room_price_in d.rooms (unit_at m u).row else nil) offers) ∙ same_room u c
      ∙ ap (λ (b : Bool). if b then room_price_in e.rooms (unit_at m u).row else nil) offers

  -- of proper duals
  module _ (market : IsMarket m) (p : ProperDuals m d) (q : ProperDuals m e) where
    -- they name the same limits
    limits_named : named_rows m d ≡ named_rows m e
    limits_named = filter-members (λ r. names_row d.limits (row_id m r)) (λ r. names_row e.limits (row_id m r)) (rows m)
        (λ r c. same_named_limit d.limits e.limits (row_id m r) p.one_sided q.one_sided (same_limit r c).1 (same_limit r c).0)

    ids : map (λ f. f.row) d.limits ≡ map (λ f. f.row) e.limits
    ids = p.named ∙ ap (map (row_id m)) limits_named ∙ sym q.named

    as_many : length d.limits ≡ length e.limits
    as_many = named_count m market d p.named ∙ ap length limits_named ∙ sym (named_count m market e q.named)

    -- at each place the same one, with the same prices
    limit_at : (k : ℕ) → k < length d.limits → get_or d.limits k no_limit ≡ get_or e.limits k no_limit
    limit_at k h =
        let f : Dual Fraction = get_or d.limits k no_limit in
        let g : Dual Fraction = get_or e.limits k no_limit in
        let inside : k < length e.limits = Prim.omega (arith, h, as_many) in
        let (r, a) = row_of_dual m market d p.named k f h (same_default d.limits k no_limit f h) in
        let (s, b) = row_of_dual m market e q.named k g inside (same_default e.limits k no_limit g inside) in
        let row : f.row ≡ g.row =
        sym (get_or-map (λ (t : Dual Fraction). t.row) d.limits k no_limit no_limit.row h) ∙ ap (λ (ns : List RowId). get_or ns k no_limit.row) ids
        ∙ get_or-map (λ (t : Dual Fraction). t.row) e.limits k no_limit no_limit.row inside in
        let name : row_id m r ≡ row_id m s = a.name ∙ row ∙ sym b.name in
        let up : f.up ≡ g.up = sym a.up ∙ (same_limit r a.row).1 ∙ ap (up_in e.limits) name ∙ b.up in
        let down : f.down ≡ g.down = sym a.down ∙ (same_limit r a.row).0 ∙ ap (down_in e.limits) name ∙ b.down in
        λ i. record { row = row i; up = up i; down = down i }

    same_limits : d.limits ≡ e.limits
    same_limits = ext_get_or no_limit d.limits e.limits as_many limit_at

    -- and the same rooms, with the same prices
    rooms_named : named_rooms m d ≡ named_rooms m e
    rooms_named = filter-members (λ u. names_room d.rooms (unit_at m u).row) (λ u. names_room e.rooms (unit_at m u).row) (reserve_units m)
        (λ u c. same_named_room d.rooms e.rooms (unit_at m u).row p.rooms_priced q.rooms_priced (listed_room u c))

    in_named : (u : ℕ) → Contains (named_rooms m d) u → Contains (reserve_units m) u
    in_named u c = (Contains-from_filter (λ v. names_room d.rooms (unit_at m v).row) (reserve_units m) u c).0

    rooms_apart : Distinct (map (λ f. f.unit) d.rooms)
    rooms_apart = subst Distinct (sym p.rooms_named)
        (Distinct-map (λ u. (unit_at m u).row) (named_rooms m d)
        (Distinct-filter (λ u. names_room d.rooms (unit_at m u).row) (reserve_units m) (Distinct-filter (offers_reserve m) (places (length m.units)) (places_apart (length m.units))))
        (λ u v c k. unit_of_row m market u v (listed-inside m u (in_named u c)) (listed-inside m v (in_named v k))))

    same_rooms : d.rooms ≡ e.rooms
    same_rooms = one_list_of_rooms d.rooms e.rooms rooms_apart (p.rooms_named ∙ ap (map (λ u. (unit_at m u).row)) rooms_named ∙ sym q.rooms_named)
        (λ n c.
        let (u, k, is) = Contains-from_map (λ v. (unit_at m v).row) (named_rooms m d) n (subst (λ (ns : List ℕ). Contains ns n) p.rooms_named c) in
        subst (λ (t : ℕ). room_price_in d.rooms t ≡ room_price_in e.rooms t) is (listed_room u (in_named u k)))

    -- so but for the price of energy they are the same
    told : e ≡ with_energy d e.energy
    told =
        let limits : e.limits ≡ d.limits = sym same_limits in
        let reserve : e.reserve ≡ d.reserve = sym same_reserve in
        let rooms : e.rooms ≡ d.rooms = sym same_rooms in
        λ i. record { energy = e.energy; limits = limits i; reserve = reserve i; rooms = rooms i }

pub law_of_other_prices : LawOfOtherPrices
law_of_other_prices m d e market p q same = told m d e same market p q
