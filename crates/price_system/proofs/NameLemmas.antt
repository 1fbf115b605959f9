-- The variables of the system of prices: each is the one at the place that its name is.
use Rattle.std.specs.Prelude.{◌≡◌, ◌≢◌, ℕ, ◌+◌, ◌*◌, ◌<◌, ◌==◌, true, false, List, [], ◌∷◌, ◌++◌, length, map, Contains, refl}
use Rattle.std.specs.List.{flat_map}
use Rattle.std.proofs.Common.{zero, suc, arith, ap, sym, ◌∙◌, subst, inl, inr, get_or}
use Rattle.std.proofs.lemmas.Bool.Decides.{eqb_tells}
use Rattle.std.proofs.lemmas.List.{get_or-append-add, get_or-map, get_or_append_left, length-append}
use Rattle.std.proofs.lemmas.List.Elements.{Contains-append_cases, Contains-append_left, Contains-append_right}
use Rattle.std.proofs.lemmas.List.FromFn.{get_or-map-range_with_len, length-range_with_len}
use Rattle.std.proofs.lemmas.List.Sums.{position_or_len_is}
use Rattle.fraction_theory.proofs.ListSums.{Contains-cases, Contains-cons, Contains-head}
use Rattle.limit_rows.proofs.GroupLemmas.{length-map}
use Rattle.market_model.specs.declared.limits.Row.{Row}
use Rattle.market_model.specs.declared.participants.Parts.{Parts}
use Rattle.market_model.specs.Dispatch.{places}
use Rattle.market_model.specs.LimitRows.{rows}
use Rattle.market_model.specs.Reserves.{offer_places, reserve_units}
use Rattle.market_model.proofs.RowMembers.{Contains-flat, Contains-from_flat, Contains-from_map, Contains-from_places, Contains-map, Contains-places}
use Rattle.market_system.specs.MarketSystem.{row_place}
use Rattle.market_system.proofs.RowOrder.{RowsApart, row_name-at}
use Rattle.market_system.proofs.VariableLaws.{units_ascend}
use Rattle.price_system.specs.PriceSystem.{name, prices, room_place, sum_name, two_sides, variable_of, variables, worths}
use Rattle.price_system.specs.declared.variables.Variable.{Variable}
use Rattle.price_system.specs.declared.variables.Variable.TheVariants.{Energy, Reserve, Up, Down, Room, Sum, Block, Offer}

-- what makes a variable one of the system
abbrev pub IsVariable : Parts → Variable → Type 0
IsVariable m Energy = Unit {0}
IsVariable m Reserve = Unit {0}
IsVariable m (Up r) = Contains (rows m) r
IsVariable m (Down r) = Contains (rows m) r
IsVariable m (Room u) = Contains (reserve_units m) u
IsVariable m Sum = Unit {0}
IsVariable m (Block j) = j < length m.blocks
IsVariable m (Offer n) = n < length m.reserve.offers

-- ---- the two sides of each row
abbrev pub sides : List Row → List Variable
sides rs = flat_map two_sides rs

pub length-sides : (rs : List Row) → length (sides rs) ≡ 2 * length rs
length-sides [] = refl
length-sides (r ∷ rs) = Prim.omega (arith, length-sides rs)

pub sides_at : (rs : List Row) (k n : ℕ) (d : Variable) (e : Row) → k < length rs → n ≡ 2 * k → (get_or (sides rs) n d ≡ Up (get_or rs k e)) × (get_or (sides rs) (suc n) d ≡ Down (get_or rs k e))
sides_at [] k n d e h s = absurd (Prim.omega (arith, h))
sides_at (r ∷ rs) zero zero d e h s = (refl, refl)
sides_at (r ∷ rs) zero (suc n) d e h s = absurd (Prim.omega (arith, s))
sides_at (r ∷ rs) (suc k) zero d e h s = absurd (Prim.omega (arith, s))
sides_at (r ∷ rs) (suc k) (suc zero) d e h s = absurd (Prim.omega (arith, s))
sides_at (r ∷ rs) (suc k) (suc (suc n)) d e h s = sides_at rs k n d e (Prim.omega (arith, h)) (Prim.omega (arith, s))

same_itself : (n : ℕ) → (n == n) ≡ true
same_itself n = elim (eqb_tells n n) [ inl t ↦ t.0 | inr t ↦ absurd (t.1 refl) ]

not_same : (a b : ℕ) → a ≢ b → (a == b) ≡ false
not_same a b n = elim (eqb_tells a b) [ inl t ↦ absurd (n t.1) | inr t ↦ t.0 ]

module _ (m : Parts) (apart : RowsApart m) where
  -- ---- places of rows and of units
  pub row_at : (k : ℕ) (d : Row) → k < length (rows m) → row_place m (get_or (rows m) k d) ≡ k
  row_at k d h = let named = row_name-at m apart k d h in Prim.omega (arith, named)

  pub unit_at_place : (k d : ℕ) → k < length (reserve_units m) → room_place m (get_or (reserve_units m) k d) ≡ k
  unit_at_place k d h = position_or_len_is (λ w. get_or (reserve_units m) k d == w) (reserve_units m) k d (Prim.omega (arith, h))
      (λ j lt. not_same (get_or (reserve_units m) k d) (get_or (reserve_units m) j d) (λ e. Prim.omega (arith, units_ascend m j k d lt h, e)))
      (λ _. same_itself (get_or (reserve_units m) k d))

  -- the place of a row, and of a unit
  row_here : (r : Row) → Contains (rows m) r → (row_place m r < length (rows m)) × (get_or (rows m) (row_place m r) r ≡ r)
  row_here r (k, h, e) =
      let here : row_place m r ≡ k = subst (λ (s : Row). row_place m s ≡ k) e (row_at k r h) in
      (Prim.omega (arith, here, h), ap (λ (i : ℕ). get_or (rows m) i r) here ∙ e)

  unit_here : (u : ℕ) → Contains (reserve_units m) u → (room_place m u < length (reserve_units m)) × (get_or (reserve_units m) (room_place m u) u ≡ u)
  unit_here u (k, h, e) =
      let here : room_place m u ≡ k = subst (λ (w : ℕ). room_place m w ≡ k) e (unit_at_place k u h) in
      (Prim.omega (arith, here, h), ap (λ (i : ℕ). get_or (reserve_units m) i u) here ∙ e)

  -- ---- places of variables
  abbrev front : List Variable
  front = Energy ∷ Reserve ∷ []

  abbrev rooms : List Variable
  rooms = map Room (reserve_units m)

  abbrev behind : List Variable
  behind = sides (rows m) ++ rooms

  length-behind : length behind ≡ 2 * length (rows m) + length (reserve_units m)
  length-behind = length-append (sides (rows m)) rooms ∙ Prim.omega (arith, length-sides (rows m), length-map Room (reserve_units m))

  pub length-prices : length (prices m) ≡ 2 + 2 * length (rows m) + length (reserve_units m)
  length-prices = Prim.omega (arith, length-behind)

  abbrev blocks : List Variable
  blocks = map Block (places (length m.blocks))

  length-blocks : length blocks ≡ length m.blocks
  length-blocks = length-map Block (places (length m.blocks)) ∙ length-range_with_len 0 (length m.blocks)

  abbrev offers : List Variable
  offers = map Offer (offer_places m)

  length-offers : length offers ≡ length m.reserve.offers
  length-offers = length-map Offer (offer_places m) ∙ length-range_with_len 0 (length m.reserve.offers)

  pub length-worths : length (worths m) ≡ 1 + length m.blocks + length m.reserve.offers
  length-worths = Prim.omega (arith, length-append blocks offers, length-blocks, length-offers)

  -- a variable of a part, by its place there
  pub price_place : (k : ℕ) → k < length (prices m) → variable_of m k ≡ get_or (prices m) k Energy
  price_place k h = get_or_append_left (prices m) (worths m) Energy k h

  pub worth_place : (k : ℕ) → variable_of m (sum_name m + k) ≡ get_or (worths m) k Energy
  worth_place k = ap (λ (n : ℕ). variable_of m (n + k)) (sym length-prices) ∙ get_or-append-add (prices m) (worths m) k Energy

  behind_sum : (k : ℕ) → variable_of m (sum_name m + 1 + k) ≡ get_or (blocks ++ offers) k Energy
  behind_sum k =
      ap (variable_of m) (let more : sum_name m + 1 + k ≡ sum_name m + (1 + k) = Prim.omega arith in more) ∙ worth_place (1 + k)
      ∙ get_or-append-add (Sum ∷ []) (blocks ++ offers) k Energy

  side_place : (k : ℕ) → k < 2 * length (rows m) → variable_of m (2 + k) ≡ get_or (sides (rows m)) k Energy
  side_place k h =
      price_place (2 + k) (Prim.omega (arith, h, length-prices))
      ∙ get_or-append-add front behind k Energy
      ∙ get_or_append_left (sides (rows m)) rooms Energy k (Prim.omega (arith, h, length-sides (rows m)))

  pub room_at : (k : ℕ) → k < length (reserve_units m) → variable_of m (2 + 2 * length (rows m) + k) ≡ get_or rooms k Energy
  room_at k h =
      price_place (2 + 2 * length (rows m) + k) (Prim.omega (arith, h, length-prices))
      ∙ ap (λ (n : ℕ). get_or (prices m) n Energy) (let more : 2 + 2 * length (rows m) + k ≡ 2 + (length (sides (rows m)) + k) = Prim.omega (arith, length-sides (rows m)) in more)
      ∙ get_or-append-add front behind (length (sides (rows m)) + k) Energy
      ∙ get_or-append-add (sides (rows m)) rooms k Energy

  pub up_at : (k : ℕ) (e : Row) → k < length (rows m) → (variable_of m (2 + 2 * k) ≡ Up (get_or (rows m) k e)) × (variable_of m (2 + 2 * k + 1) ≡ Down (get_or (rows m) k e))
  up_at k e h =
      let both = sides_at (rows m) k (2 * k) Energy e h refl in (
        side_place (2 * k) (Prim.omega (arith, h)) ∙ both.0,
        ap (variable_of m) (let more : 2 + 2 * k + 1 ≡ 2 + suc (2 * k) = Prim.omega arith in more) ∙ side_place (suc (2 * k)) (Prim.omega (arith, h)) ∙ both.1,
      )

  pub sum_at_place : variable_of m (sum_name m) ≡ Sum
  sum_at_place = ap (variable_of m) (let same : sum_name m ≡ sum_name m + 0 = Prim.omega arith in same) ∙ worth_place 0

  pub block_at_place : (j : ℕ) → j < length m.blocks → variable_of m (name m (Block j)) ≡ Block j
  block_at_place j h =
      behind_sum j ∙ get_or_append_left blocks offers Energy j (Prim.omega (arith, h, length-blocks))
      ∙ get_or-map-range_with_len Block 0 (length m.blocks) j j Energy h (Prim.omega arith)

  pub offer_at_place : (n : ℕ) → n < length m.reserve.offers → variable_of m (name m (Offer n)) ≡ Offer n
  offer_at_place n h =
      ap (variable_of m)
      (let more : name m (Offer n) ≡ sum_name m + 1 + (length blocks + n) = Prim.omega (arith, length-blocks) in more)
      ∙ behind_sum (length blocks + n) ∙ get_or-append-add blocks offers n Energy
      ∙ get_or-map-range_with_len Offer 0 (length m.reserve.offers) n n Energy h (Prim.omega arith)

  -- each is the variable of its name
  pub variable_at : (v : Variable) → IsVariable m v → variable_of m (name m v) ≡ v
  variable_at Energy is = refl
  variable_at Reserve is = refl
  variable_at (Up r) is = let here = row_here r is in (up_at (row_place m r) r here.0).0 ∙ ap Up here.1
  variable_at (Down r) is = let here = row_here r is in (up_at (row_place m r) r here.0).1 ∙ ap Down here.1
  variable_at (Room u) is = let here = unit_here u is in room_at (room_place m u) here.0 ∙ get_or-map Room (reserve_units m) (room_place m u) u Energy here.0 ∙ ap Room here.1
  variable_at Sum is = sum_at_place
  variable_at (Block j) is = block_at_place j is
  variable_at (Offer n) is = offer_at_place n is

-- ---- members of the lists
module _ (m : Parts) where
  pub price_listed : (v : Variable) → Contains (sides (rows m) ++ map Room (reserve_units m)) v → Contains (prices m) v
  price_listed v c = Contains-append_right (Energy ∷ Reserve ∷ []) (sides (rows m) ++ map Room (reserve_units m)) v c

  side_listed : (v : Variable) → Contains (sides (rows m)) v → Contains (prices m) v
  side_listed v c = price_listed v (Contains-append_left (sides (rows m)) (map Room (reserve_units m)) v c)

  among_prices : (v : Variable) → Contains (prices m) v → Contains (variables m) v
  among_prices v c = Contains-append_left (prices m) (worths m) v c

  among_worths : (v : Variable) → Contains (worths m) v → Contains (variables m) v
  among_worths v c = Contains-append_right (prices m) (worths m) v c

  pub sum_listed : Contains (worths m) Sum
  sum_listed = Contains-head Sum (map Block (places (length m.blocks)) ++ map Offer (offer_places m))

  behind_listed : (v : Variable) → Contains (map Block (places (length m.blocks)) ++ map Offer (offer_places m)) v → Contains (worths m) v
  behind_listed v c = Contains-cons Sum (map Block (places (length m.blocks)) ++ map Offer (offer_places m)) v c

  pub block_listed : (j : ℕ) → j < length m.blocks → Contains (worths m) (Block j)
  block_listed j h = behind_listed (Block j)
      (Contains-append_left (map Block (places (length m.blocks))) (map Offer (offer_places m)) (Block j)
      (Contains-map Block (places (length m.blocks)) j (Contains-places (length m.blocks) j h)))

  pub offer_listed : (n : ℕ) → n < length m.reserve.offers → Contains (worths m) (Offer n)
  offer_listed n h = behind_listed (Offer n)
      (Contains-append_right (map Block (places (length m.blocks))) (map Offer (offer_places m)) (Offer n)
      (Contains-map Offer (offer_places m) n (Contains-places (length m.reserve.offers) n h)))

  -- each variable is in the list
  pub listed : (v : Variable) → IsVariable m v → Contains (variables m) v
  listed Energy is = among_prices Energy (Contains-head Energy (Reserve ∷ (sides (rows m) ++ map Room (reserve_units m))))
  listed Reserve is =
      among_prices Reserve
      (Contains-cons Energy (Reserve ∷ (sides (rows m) ++ map Room (reserve_units m))) Reserve (Contains-head Reserve (sides (rows m) ++ map Room (reserve_units m))))
  listed (Up r) is = among_prices (Up r) (side_listed (Up r) (Contains-flat two_sides (rows m) r (Up r) is (Contains-head (Up r) (Down r ∷ []))))
  listed (Down r) is = among_prices (Down r) (side_listed (Down r) (Contains-flat two_sides (rows m) r (Down r) is (Contains-cons (Up r) (Down r ∷ []) (Down r) (Contains-head (Down r) []))))
  listed (Room u) is = among_prices (Room u) (price_listed (Room u) (Contains-append_right (sides (rows m)) (map Room (reserve_units m)) (Room u) (Contains-map Room (reserve_units m) u is)))
  listed Sum is = among_worths Sum sum_listed
  listed (Block j) is = among_worths (Block j) (block_listed j is)
  listed (Offer n) is = among_worths (Offer n) (offer_listed n is)

  -- what holds of the sum, of each block and of each offer holds of the rows, and what holds of each variable of the list
  pub by_worth : (P : Variable → Type 0) → P Sum → ((j : ℕ) → j < length m.blocks → P (Block j)) → ((n : ℕ) → n < length m.reserve.offers → P (Offer n))
      → (v : Variable) → Contains (worths m) v → P v
  by_worth P sum block offer v c = elim (Contains-cases Sum (map Block (places (length m.blocks)) ++ map Offer (offer_places m)) v c) [
    | inl e ↦ subst P e sum
    | inr b ↦ elim (Contains-append_cases (map Block (places (length m.blocks))) (map Offer (offer_places m)) v b) [
      | inl k ↦ let l = Contains-from_map Block (places (length m.blocks)) v k in subst P l.2 (block l.0 (Contains-from_places (length m.blocks) l.0 l.1))
      | inr k ↦ let l = Contains-from_map Offer (offer_places m) v k in subst P l.2 (offer l.0 (Contains-from_places (length m.reserve.offers) l.0 l.1))
    ]
  ]

  by_side : (P : Variable → Type 0) (r : Row) → P (Up r) → P (Down r) → (v : Variable) → Contains (two_sides r) v → P v
  by_side P r up down v c = elim (Contains-cases (Up r) (Down r ∷ []) v c) [
    | inl e ↦ subst P e up
    | inr k ↦ elim (Contains-cases (Down r) [] v k) [ inl e ↦ subst P e down | inr n ↦ absurd (Prim.omega (arith, n.1)) ]
  ]

  pub by_price : (P : Variable → Type 0) → P Energy → P Reserve → ((r : Row) → Contains (rows m) r → P (Up r) × P (Down r)) → ((u : ℕ) → Contains (reserve_units m) u → P (Room u))
      → (v : Variable) → Contains (prices m) v → P v
  by_price P energy reserve side room v c = elim (Contains-cases Energy (Reserve ∷ (sides (rows m) ++ map Room (reserve_units m))) v c) [
    | inl e ↦ subst P e energy
    | inr k ↦ elim (Contains-cases Reserve (sides (rows m) ++ map Room (reserve_units m)) v k) [
      | inl e ↦ subst P e reserve
      | inr l ↦ elim (Contains-append_cases (sides (rows m)) (map Room (reserve_units m)) v l) [
        | inl n ↦ let o = Contains-from_flat two_sides (rows m) v n in let both = side o.0 o.1 in by_side P o.0 both.0 both.1 v o.2
        | inr n ↦ let o = Contains-from_map Room (reserve_units m) v n in subst P o.2 (room o.0 o.1)
      ]
    ]
  ]

  pub variable_is : (v : Variable) → Contains (variables m) v → IsVariable m v
  variable_is v c = elim (Contains-append_cases (prices m) (worths m) v c) [
    | inl k ↦ by_price (IsVariable m) tt tt (λ r l. (l, l)) (λ u l. l) v k
    | inr k ↦ by_worth (IsVariable m) tt (λ j h. h) (λ n h. h) v k
  ]
