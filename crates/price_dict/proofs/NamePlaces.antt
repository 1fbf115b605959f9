-- The places of rows, of units that offer reserve and of the system's rows, which are their names.
use Rattle.std.specs.Prelude.{◌≡◌, ℕ, ◌+◌, ◌-◌, ◌<◌, ◌≤◌, pos, Bool, true, false, cond, List, [], ◌∷◌, ◌++◌, length, map, filter, Contains, Some, refl}
use Rattle.std.specs.List.{slice_get}
use Rattle.std.proofs.Common.{zero, suc, arith, ap, ap₂, sym, ◌∙◌, subst, inl, inr, get_or}
use Rattle.std.proofs.lemmas.Bool.{cases_lt}
use Rattle.std.proofs.lemmas.List.{get_or-append-add, get_or_append_left, length-append, length-map}
use Rattle.std.proofs.lemmas.List.Elements.{filter-append}
use Rattle.std.proofs.lemmas.List.FromFn.{get_or-map-range_with_len, length-range_with_len}
use Rattle.std.proofs.lemmas.Option.{slice_get_within, get_or_from_slice_get}
use Rattle.fraction_theory.proofs.ListSums.{Contains-from_filter}
use Rattle.limit_rows.proofs.ApartLemmas.{names_apart}
use Rattle.limit_rows.proofs.WalkLemmas.{rows_few}
use Rattle.market_model.specs.declared.limits.Row.{Row}
use Rattle.market_model.specs.declared.participants.Block.{Block}
use Rattle.market_model.specs.declared.participants.Parts.{Parts}
use Rattle.market_model.specs.declared.participants.Reserve.{Reserve}
use Rattle.market_model.specs.declared.participants.ReserveOffer.{ReserveOffer}
use Rattle.market_model.specs.declared.participants.Side.TheVariants.{Sell}
use Rattle.market_model.specs.Dispatch.{block_at, offer_at, places}
use Rattle.market_model.specs.LimitRows.{rows}
use Rattle.market_model.specs.Market.{IsMarket}
use Rattle.market_model.specs.Reserves.{offer_places, offers_reserve, reserve_units}
use Rattle.market_model.proofs.MorePlaces.{places_more}
use Rattle.market_model.proofs.RowMembers.{Contains-from_places}
use Rattle.market_system.specs.MarketSystem.{row_name, row_place}
use Rattle.market_system.proofs.DualLists.{rows_apart}
use Rattle.market_system.proofs.RowOrder.{RowsApart, row_name-at}
use Rattle.price_system.specs.declared.variables.Variable.{Variable}
use Rattle.price_system.specs.declared.variables.Variable.TheVariants.{Energy, Block as BlockOf, Offer as OfferOf}
use Rattle.price_system.specs.PriceSystem.{name, room_place, sum_name, variables, worths}
use Rattle.price_system.proofs.NameLemmas.{IsVariable, unit_at_place, variable_is}

-- ---- rows
-- no two of a market are one
pub apart_rows : (m : Parts) → IsMarket m → RowsApart m
apart_rows m market = rows_apart m (names_apart m market)

pub row_by_place : (m : Parts) → IsMarket m → (r : Row) (place : ℕ) → slice_get (rows m) place ≡ Some r → (place < length (rows m)) × (row_place m r ≡ place)
row_by_place m market r place e =
    let inside = slice_get_within (rows m) place r e in
    let named = ap (row_name m) (sym (get_or_from_slice_get (rows m) place r r e)) ∙ row_name-at m (apart_rows m market) place r inside in
    (inside, Prim.omega (arith, named))

-- ---- units that offer reserve
abbrev pub before : Parts → ℕ → ℕ
before m n = length (filter (offers_reserve m) (places n))

kept_more : (m : Parts) (n : ℕ) (b : Bool) → offers_reserve m n ≡ b → filter (offers_reserve m) (places (n + 1)) ≡ filter (offers_reserve m) (places n) ++ cond b (n ∷ []) []
kept_more m n b e =
    ap (filter (offers_reserve m)) (places_more n) ∙ filter-append (offers_reserve m) (places n) (n ∷ []) ∙ ap (λ (c : Bool). filter (offers_reserve m) (places n) ++ cond c (n ∷ []) []) e

pub one_before : (m : Parts) (n : ℕ) → offers_reserve m n ≡ true → before m (n + 1) ≡ before m n + 1
one_before m n e = ap length (kept_more m n true e) ∙ length-append (filter (offers_reserve m) (places n)) (n ∷ [])

pub none_before : (m : Parts) (n : ℕ) → offers_reserve m n ≡ false → before m (n + 1) ≡ before m n
none_before m n e = let more = ap length (kept_more m n false e) ∙ length-append (filter (offers_reserve m) (places n)) [] in Prim.omega (arith, more)

few_more : (m : Parts) (n : ℕ) (b : Bool) → offers_reserve m n ≡ b → before m n ≤ n → before m (n + 1) ≤ n + 1
few_more m n true e few = let more = one_before m n e in Prim.omega (arith, more, few)
few_more m n false e few = let more = none_before m n e in Prim.omega (arith, more, few)

pub before_few : (m : Parts) (n : ℕ) → before m n ≤ n
before_few m zero = Prim.omega arith
before_few m (suc n) = subst (λ (k : ℕ). before m k ≤ k) (let same : n + 1 ≡ suc n = Prim.omega arith in same) (few_more m n (offers_reserve m n) refl (before_few m n))

-- a unit that offers reserve stands behind those before it
module _ (m : Parts) (u : ℕ) (offers : offers_reserve m u ≡ true) where
  abbrev pub Stands : ℕ → Type 0
  Stands n = (before m u < before m n) × (get_or (filter (offers_reserve m) (places n)) (before m u) u ≡ u)

  stands_more : (n : ℕ) (b : Bool) → offers_reserve m n ≡ b → Stands n → Stands (n + 1)
  stands_more n b e s =
      let more = kept_more m n b e in (
        let long = ap length more ∙ length-append (filter (offers_reserve m) (places n)) (cond b (n ∷ []) []) in Prim.omega (arith, long, s.0),
        ap (λ (us : List ℕ). get_or us (before m u) u) more ∙ get_or_append_left (filter (offers_reserve m) (places n)) (cond b (n ∷ []) []) u (before m u) s.0 ∙ s.1,
      )

  stands_first : Stands (u + 1)
  stands_first = (
    let one = one_before m u offers in Prim.omega (arith, one),
    ap₂ (λ (us : List ℕ) (k : ℕ). get_or us k u) (kept_more m u true offers) (let same : before m u ≡ before m u + 0 = Prim.omega arith in same) ∙ get_or-append-add (filter (offers_reserve m) (places u)) (u ∷ []) 0 u,
  )

  stands : (k : ℕ) → Stands (u + 1 + k)
  stands zero = subst Stands (let same : u + 1 ≡ u + 1 + 0 = Prim.omega arith in same) stands_first
  stands (suc k) = subst Stands (let same : u + 1 + k + 1 ≡ u + 1 + suc k = Prim.omega arith in same) (stands_more (u + 1 + k) (offers_reserve m (u + 1 + k)) refl (stands k))

  pub stands_in : (n : ℕ) → u < n → Stands n
  stands_in n lt = subst Stands (let same : u + 1 + (n - (u + 1)) ≡ n = Prim.omega (arith, lt) in same) (stands (n - (u + 1)))

pub room_inside : (m : Parts) (u : ℕ) → Contains (reserve_units m) u → u < length m.units
room_inside m u c = Contains-from_places (length m.units) u (Contains-from_filter (offers_reserve m) (places (length m.units)) u c).0

pub room_by_count : (m : Parts) → IsMarket m → (u : ℕ) → Contains (reserve_units m) u → room_place m u ≡ before m u
room_by_count m market u c =
    let listed = Contains-from_filter (offers_reserve m) (places (length m.units)) u c in
    let s = stands_in m u listed.1 (length m.units) (room_inside m u c) in
    ap (room_place m) (sym s.1) ∙ unit_at_place m (apart_rows m market) (before m u) u s.0

-- ---- the system's rows
pub worths_count : (m : Parts) → length (worths m) ≡ 1 + length m.blocks + length m.reserve.offers
worths_count m =
    let blocks = map BlockOf (places (length m.blocks)) in
    let offers = map OfferOf (offer_places m) in
    let long = length-append blocks offers in
    let first = length-map (places (length m.blocks)) BlockOf ∙ length-range_with_len 0 (length m.blocks) in
    let second = length-map (offer_places m) OfferOf ∙ length-range_with_len 0 (length m.reserve.offers) in
    Prim.omega (arith, long, first, second)

-- blocks and offers by their places, behind the sum
pub block_worth : (m : Parts) (j : ℕ) → j < length m.blocks → get_or (worths m) (1 + j) Energy ≡ BlockOf j
block_worth m j h =
    let blocks = map BlockOf (places (length m.blocks)) in
    let offers = map OfferOf (offer_places m) in
    let first = length-map (places (length m.blocks)) BlockOf ∙ length-range_with_len 0 (length m.blocks) in
    ap (λ (k : ℕ). get_or (worths m) k Energy) (let same : 1 + j ≡ suc j = Prim.omega arith in same)
    ∙ get_or_append_left blocks offers Energy j (Prim.omega (arith, h, first))
    ∙ get_or-map-range_with_len BlockOf 0 (length m.blocks) j j Energy h (Prim.omega arith)

pub offer_worth : (m : Parts) (n : ℕ) → n < length m.reserve.offers → get_or (worths m) (1 + length m.blocks + n) Energy ≡ OfferOf n
offer_worth m n h =
    let blocks = map BlockOf (places (length m.blocks)) in
    let offers = map OfferOf (offer_places m) in
    let first = length-map (places (length m.blocks)) BlockOf ∙ length-range_with_len 0 (length m.blocks) in
    ap (λ (k : ℕ). get_or (worths m) k Energy) (let same : 1 + length m.blocks + n ≡ suc (length blocks + n) = Prim.omega (arith, first) in same)
    ∙ get_or-append-add blocks offers n Energy
    ∙ get_or-map-range_with_len OfferOf 0 (length m.reserve.offers) n n Energy h (Prim.omega arith)

-- their names are their places behind that of the sum
pub worth_name : (m : Parts) (k : ℕ) → k < length (worths m) → name m (get_or (worths m) k Energy) ≡ sum_name m + k
worth_name m zero h = Prim.omega arith
worth_name m (suc k) h = elim (cases_lt k (length m.blocks)) [
  | inl lt ↦
      ap (λ (i : ℕ). name m (get_or (worths m) i Energy)) (let same : suc k ≡ 1 + k = Prim.omega arith in same) ∙ ap (name m) (block_worth m k lt)
      ∙ (let same : sum_name m + 1 + k ≡ sum_name m + suc k = Prim.omega arith in same)
  | inr ge ↦
      let n : ℕ = k - length m.blocks in
      let inside : n < length m.reserve.offers = Prim.omega (arith, ge, h, worths_count m) in
      ap (λ (i : ℕ). name m (get_or (worths m) i Energy)) (let same : suc k ≡ 1 + length m.blocks + n = Prim.omega (arith, ge) in same) ∙ ap (name m) (offer_worth m n inside)
      ∙ (let same : sum_name m + 1 + length m.blocks + n ≡ sum_name m + suc k = Prim.omega (arith, ge) in same)
]

-- the unit of a block and of an offer that are read by place
abbrev no_block : Block
no_block = record { unit = 0; side = Sell; quantity = pos 0; price = pos 0 }

abbrev no_offer : ReserveOffer
no_offer = record { unit = 0; quantity = pos 0; price = pos 0 }

pub block_read : (m : Parts) (blocks : List Block) (k : ℕ) (b : Block) → blocks ≡ m.blocks → slice_get blocks k ≡ Some b → b.unit ≡ (block_at m k).unit
block_read m blocks k b is e =
    sym (ap (λ (bs : List Block). (get_or bs k no_block).unit) (sym is) ∙ ap (λ (o : Block). o.unit) (get_or_from_slice_get blocks k b no_block e))

pub offer_read : (m : Parts) (reserve : Reserve) (k : ℕ) (o : ReserveOffer) → reserve ≡ m.reserve → slice_get reserve.offers k ≡ Some o → o.unit ≡ (offer_at m k).unit
offer_read m reserve k o is e =
    sym (ap (λ (r : Reserve). (get_or r.offers k no_offer).unit) (sym is) ∙ ap (λ (x : ReserveOffer). x.unit) (get_or_from_slice_get reserve.offers k o no_offer e))

-- a variable of the list, by its kind
pub is_one : (m : Parts) (v w : Variable) → v ≡ w → Contains (variables m) v → IsVariable m w
is_one m v w e c = subst (IsVariable m) e (variable_is m v c)

-- ---- sizes
abbrev pub small : ℕ
small = 100000000

pub sum_small : (m : Parts) → IsMarket m → sum_name m + length (worths m) < small
sum_small m market = Prim.omega (arith, rows_few m market, units_few, market.unit_count, market.block_count, market.reserve.count, worths_count m)
  where
    units_few : length (reserve_units m) ≤ length m.units
    units_few = before_few m (length m.units)
