-- Rings keep what every market keeps.
use Rattle.std.proofs.Common.{◌≡◌, ◌≢◌, ◌⊎◌, ◌≤◌, ◌<◌, ◌+◌, ◌*◌, ◌∙◌, ℕ, pos, ◌≤ℤ◌, Bool, true, false, cond, ◌==◌, ◌&&◌, List, [], ◌∷◌, Some, length, map, get_or, flat_map, zero, suc, refl, sym, subst, ap, arith, inl, inr, All, AllPairs, Contains}
use Rattle.std.specs.List.{range_with_len}
use Rattle.std.proofs.lemmas.Int.{ints}
use Rattle.std.proofs.lemmas.Simd.{map-map}
use Rattle.std.proofs.lemmas.Bool.{ne_eqb}
use Rattle.std.proofs.lemmas.Bool.Decides.{eqb_tells}
use Rattle.std.proofs.lemmas.List.Elements.{All-cons, All-contains_itself, All-nil}
use Rattle.std.proofs.lemmas.List.FromFn.{length-map-range_with_len}
use Rattle.market_data.specs.Participants.{IsBus, IsUnit}
use Rattle.market_data.specs.declared.participants.Bus.{Bus}
use Rattle.market_data.specs.declared.participants.Unit as unit
use Rattle.market_data.specs.Scales.{IsRingSize}
use Rattle.market_model.proofs.PlainMarkets.{is_no_reserve, no_unit_outages}
use Rattle.market_model.specs.declared.participants.Block.{Block}
use Rattle.market_model.specs.declared.participants.Line.{Line}
use Rattle.market_model.specs.declared.participants.Side.{Side}
use Rattle.market_model.specs.declared.participants.Side.TheVariants.{Sell, Buy}
use Rattle.market_model.specs.Dispatch.{places}
use Rattle.market_model.specs.Market.{HasRoom, IsBlock, IsLine, IsMarket}
use Rattle.market_model.specs.Stairs.{offered, same_side, stair_in}
use Rattle.market_model.proofs.LinePenalties.{hard_is_line}
use Rattle.case_maker.specs.Rings.{ring_blocks, ring_bus, drawn, half_sold, ring_branch, ring_loss, mw, ring_of, ring_shift, ring_unit}
use Rattle.case_maker.proofs.DrawLemmas.{drawn-small}
use Rattle.case_maker.proofs.FactorLemmas.{are-factors, loss-small, shift-small}
use Rattle.case_maker.proofs.PlaceLists.{All-flat, All-places, at-place, length-flat, numbers-differ, numbers-rise}

-- what holds of each size
pub by-size : (P : ℕ → Type 0) → P 4 → P 8 → P 16 → P 32 → P 64 → (n : ℕ) → IsRingSize n → P n
by-size P four eight sixteen thirty_two sixty_four n h = elim h [
  | inl e ↦ subst P (sym e) four
  | inr h ↦ elim h [
    | inl e ↦ subst P (sym e) eight
    | inr h ↦ elim h [
      | inl e ↦ subst P (sym e) sixteen
      | inr h ↦ elim h [ inl e ↦ subst P (sym e) thirty_two | inr e ↦ subst P (sym e) sixty_four ]
    ]
  ]
]

pub size-few : (n : ℕ) → IsRingSize n → n ≤ 64
size-few n h = by-size (λ k. k ≤ 64) (omega arith) (omega arith) (omega arith) (omega arith) (omega arith) n h

pub size-some : (n : ℕ) → IsRingSize n → 0 < n
size-some n h = by-size (λ k. 0 < k) (omega arith) (omega arith) (omega arith) (omega arith) (omega arith) n h

-- ---- what a unit's blocks offer
module _ (seed : ℕ) where
  abbrev blocks_from : ℕ → ℕ → List Block
  blocks_from a n = flat_map (λ i. ring_blocks i (drawn seed i)) (range_with_len a n)

  -- the stair of a unit, by whether it is the first one's
  abbrev stair_by : Bool → ℕ → List Block → List Block
  stair_by b a rest = cond b (half_sold a (drawn seed a).first_price ∷ cond b (half_sold a (drawn seed a).second_price ∷ rest) rest) (cond b (half_sold a (drawn seed a).second_price ∷ rest) rest)

  stair-step : (place : ℕ) (side : Side) (a n : ℕ) (b : Bool) → ((a == place) && same_side Sell side) ≡ b
      → stair_in place side (blocks_from a (suc n)) ≡ stair_by b a (stair_in place side (blocks_from (a + 1) n))
  unfolding stair_in
  stair-step place side a n b e = ap (λ (t : Bool). stair_by t a (stair_in place side (blocks_from (a + 1) n))) e

  and-false : (b : Bool) → (b && false) ≡ false
  and-false true = refl
  and-false false = refl

  no-stair : (place : ℕ) (side : Side) (a n : ℕ) → place < a → stair_in place side (blocks_from a n) ≡ []
  unfolding stair_in
  no-stair place side a zero lt = refl
  no-stair place side a (suc n) lt =
      stair-step place side a n false (ap (λ (t : Bool). t && same_side Sell side) (ne_eqb a place (λ e. omega (arith, lt, e))))
      ∙ no-stair place side (a + 1) n (omega (arith, lt))

  no-buys : (place a n : ℕ) → stair_in place Buy (blocks_from a n) ≡ []
  unfolding stair_in
  no-buys place a zero = refl
  no-buys place a (suc n) = stair-step place Buy a n false (and-false (a == place)) ∙ no-buys place (a + 1) n

  sells-within : (place a n : ℕ) → offered (stair_in place Sell (blocks_from a n)) ≤ℤ mw 100
  unfolding stair_in
  sells-within place a zero = omega (arith, ints)
  sells-within place a (suc n) = by (eqb_tells a place) (sells-within place (a + 1) n)
    where
      by : ((a == place ≡ true) × (a ≡ place)) ⊎ ((a == place ≡ false) × (a ≢ place)) → offered (stair_in place Sell (blocks_from (a + 1) n)) ≤ℤ mw 100
          → offered (stair_in place Sell (blocks_from a (suc n))) ≤ℤ mw 100
      by (inl t) rest =
          let stair : stair_in place Sell (blocks_from a (suc n)) ≡ half_sold a (drawn seed a).first_price ∷ half_sold a (drawn seed a).second_price ∷ [] =
          stair-step place Sell a n true (ap (λ (b : Bool). b && true) t.0)
          ∙ ap (λ (more : List Block). half_sold a (drawn seed a).first_price ∷ half_sold a (drawn seed a).second_price ∷ more) (no-stair place Sell (a + 1) n (omega (arith, t.1))) in
          let all : offered (stair_in place Sell (blocks_from a (suc n))) ≡ mw 100 = ap offered stair in
          omega (arith, ints, all)
      by (inr t) rest =
          let stair : stair_in place Sell (blocks_from a (suc n)) ≡ stair_in place Sell (blocks_from (a + 1) n) = stair-step place Sell a n false (ap (λ (b : Bool). b && true) t.0) in
          subst (λ (bs : List Block). offered bs ≤ℤ mw 100) (sym stair) rest

-- ---- each part
bus-kept : (i : ℕ) (seed : ℕ) → IsBus (ring_bus i (drawn seed i))
bus-kept i seed = let s = drawn-small seed i in record { load = omega (arith, s.load); shunt = omega arith }

unit-kept : (n i : ℕ) → i < n → IsUnit n (ring_unit i)
unit-kept n i lt = record { row = omega arith; bus = lt; fixed = omega arith; up = omega (arith, ints); down = omega (arith, ints) }

half-kept : (n i price : ℕ) → i < n → price ≤ 149 → IsBlock n (half_sold i price)
half-kept n i price lt few = record { unit = lt; quantity = omega (arith, ints); price = omega (arith, few) }

line-kept : (i : ℕ) (seed : ℕ) → IsLine (ring_branch i (drawn seed i))
line-kept i seed = hard_is_line (i + 1) (Some (mw (drawn seed i).base_limit)) (Some (mw (drawn seed i).post_limit)) (pos 0) (omega arith) (omega (arith, ints)) (omega (arith, ints)) (omega arith)

-- ---- the market
pub ring-kept : (n seed : ℕ) → n ≤ 64 → IsMarket (ring_of n seed)
ring-kept n seed few =
    let buses : length (ring_of n seed).buses ≡ n = length-map-range_with_len (λ i. ring_bus i (drawn seed i)) 0 n in
    let units : length (ring_of n seed).units ≡ n = length-map-range_with_len ring_unit 0 n in
    let blocks : length (ring_of n seed).blocks ≡ n * 2 = length-flat (λ i. ring_blocks i (drawn seed i)) 0 n 2 (λ i p q. refl) in
    let lines : length (ring_of n seed).lines ≡ n = length-map-range_with_len (λ i. ring_branch i (drawn seed i)) 0 n in
    let outages : length (ring_of n seed).outages ≡ n = length-map-range_with_len (λ i. i + 1) 0 n in
    let rows : map (λ (l : Line). l.row) (ring_of n seed).lines ≡ (ring_of n seed).outages = map-map (λ (l : Line). l.row) (λ i. ring_branch i (drawn seed i)) (places n) in
    record {
      bus_count = omega (arith, buses, few);
      unit_count = omega (arith, units, few);
      block_count = omega (arith, blocks, few);
      line_count = omega (arith, lines, few);
      outage_count = omega (arith, outages, few);
      buses = All-places IsBus (λ i. ring_bus i (drawn seed i)) n (λ i lt. bus-kept i seed);
      bus_numbers = subst (AllPairs (λ a b. a ≢ b)) (sym (map-map (λ (b : Bus). b.number) (λ i. ring_bus i (drawn seed i)) (places n))) (numbers-differ n);
      units = subst (λ (k : ℕ). All (IsUnit k) (ring_of n seed).units) (sym buses) (All-places (IsUnit n) ring_unit n (unit-kept n));
      unit_rows = subst (AllPairs (λ a b. a < b)) (sym (map-map (λ (u : unit.Unit). u.row) ring_unit (places n))) (numbers-rise n);
      blocks = subst (λ (k : ℕ). All (IsBlock k) (ring_of n seed).blocks) (sym units) (All-flat (IsBlock n) (λ i. ring_blocks i (drawn seed i)) 0 n (λ i p q.
          let s = drawn-small seed i in
          let lt : i < n = omega (arith, q) in
          All-cons (IsBlock n) (half_sold i (drawn seed i).first_price) (half_sold i (drawn seed i).second_price ∷ []) (half-kept n i (drawn seed i).first_price lt (omega (arith, s.first_price)))
          (All-cons (IsBlock n) (half_sold i (drawn seed i).second_price) [] (half-kept n i (drawn seed i).second_price lt s.second_price) (All-nil (IsBlock n)))));
      room = room units;
      lines = All-places IsLine (λ i. ring_branch i (drawn seed i)) n (λ i lt. line-kept i seed);
      line_rows = subst (AllPairs (λ a b. a ≢ b)) (sym rows) (numbers-differ n);
      outages = subst (λ rs. All (Contains rs) (ring_of n seed).outages) (sym rows) (All-contains_itself (ring_of n seed).outages);
      outages_distinct = numbers-differ n;
      shift = rw (lines, buses) (are-factors (ring_shift n) n (λ l i p q. shift-small n l i few q));
      loss = rw lines (are-factors ring_loss n (λ l i p q. loss-small l i));
      unit_outages = no_unit_outages (length (ring_of n seed).units);
      reserve = is_no_reserve (length (ring_of n seed).units);
    }
  where
    unit-room : (place : ℕ) → HasRoom (ring_of n seed).blocks place (ring_unit place)
    unit-room place Sell = sells-within seed place 0 n
    unit-room place Buy = let none : offered (stair_in place Buy (ring_of n seed).blocks) ≡ pos 0 = ap offered (no-buys seed place 0 n) in omega (arith, ints, none)

    room : length (ring_of n seed).units ≡ n → (place : ℕ) (d : unit.Unit) → place < length (ring_of n seed).units → HasRoom (ring_of n seed).blocks place (get_or (ring_of n seed).units place d)
    room units place d lt = subst (HasRoom (ring_of n seed).blocks place) (sym (at-place ring_unit n place d (omega (arith, lt, units)))) (unit-room place)
