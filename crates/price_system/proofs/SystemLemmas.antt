-- The system of prices is a system: a name is the place of its variable, so names ascend.
use Rattle.std.specs.Prelude.{◌≡◌, ℕ, ◌+◌, ◌-◌, ◌*◌, ◌/◌, ◌%◌, ◌<◌, ◌≤◌, List, length, map, Contains, refl}
use Rattle.std.specs.List.Sorted.{IsStrictlyIncreasing}
use Rattle.std.proofs.Common.{zero, suc, arith, ap, sym, ◌∙◌, subst, inl, inr, get_or}
use Rattle.std.proofs.lemmas.Bool.{cases_lt}
use Rattle.std.proofs.lemmas.List.{get_or-map, length-append}
use Rattle.std.proofs.lemmas.List.Elements.{Contains-append_cases, Contains-append_left, Contains-append_right}
use Rattle.limit_rows.proofs.GroupLemmas.{length-map}
use Rattle.linear_system.specs.Systems.{IsSystem}
use Rattle.market_model.specs.declared.limits.Cause.TheVariants.{Base}
use Rattle.market_model.specs.declared.limits.Row.{Row}
use Rattle.market_model.specs.declared.participants.Parts.{Parts}
use Rattle.market_model.specs.Dispatch.{Dispatch}
use Rattle.market_model.specs.LimitRows.{rows}
use Rattle.market_model.specs.Reserves.{reserve_units}
use Rattle.market_model.proofs.ChangeLemmas.{same_default}
use Rattle.market_model.proofs.RowMembers.{Contains-from_map, Contains-map}
use Rattle.market_system.proofs.RowOrder.{RowsApart}
use Rattle.price_system.specs.Laws.{LawOfTheSystem}
use Rattle.price_system.specs.PriceSystem.{Caps, name, price_system, prices, sum_name, variable_of, variables, worths}
use Rattle.price_system.specs.declared.variables.Variable.{Variable}
use Rattle.price_system.specs.declared.variables.Variable.TheVariants.{Energy, Room}
use Rattle.price_system.proofs.NameLemmas.{block_at_place, length-prices, length-worths, offer_at_place, price_place, room_at, row_at, sum_at_place, unit_at_place, up_at, worth_place}
use Rattle.price_system.proofs.WorthLemmas.{apart}

abbrev no_row : Row
no_row = record { line = 0; cause = Base }

module _ (m : Parts) (distinct : RowsApart m) where
  -- the name of the variable at a place
  named_up : (k : ℕ) → k < length (rows m) → name m (variable_of m (2 + 2 * k)) ≡ 2 + 2 * k
  named_up k h = ap (name m) (up_at m distinct k no_row h).0 ∙ ap (λ (p : ℕ). 2 + 2 * p) (row_at m distinct k no_row h)

  named_down : (k : ℕ) → k < length (rows m) → name m (variable_of m (2 + 2 * k + 1)) ≡ 2 + 2 * k + 1
  named_down k h = ap (name m) (up_at m distinct k no_row h).1 ∙ ap (λ (p : ℕ). 2 + 2 * p + 1) (row_at m distinct k no_row h)

  named_room : (k : ℕ) → k < length (reserve_units m) → name m (variable_of m (2 + 2 * length (rows m) + k)) ≡ 2 + 2 * length (rows m) + k
  named_room k h =
      ap (name m) (room_at m distinct k h ∙ get_or-map Room (reserve_units m) k 0 Energy h)
      ∙ ap (λ (p : ℕ). 2 + 2 * length (rows m) + p) (unit_at_place m distinct k 0 h)

  abbrev Named : ℕ → Type 0
  Named k = name m (variable_of m k) ≡ k

  side_named : (k : ℕ) → k < 2 * length (rows m) → Named (2 + k)
  side_named k h =
      let q : ℕ = k / 2 in
      let inside : q < length (rows m) = Prim.omega (arith, h) in
      by (k % 2) q (Prim.omega arith) (Prim.omega arith) inside
    where
      by : (r q : ℕ) → r < 2 → 2 * q + r ≡ k → q < length (rows m) → Named (2 + k)
      by zero q lt e i = subst Named (let same : 2 + 2 * q ≡ 2 + k = Prim.omega (arith, e) in same) (named_up q i)
      by (suc zero) q lt e i = subst Named (let same : 2 + 2 * q + 1 ≡ 2 + k = Prim.omega (arith, e) in same) (named_down q i)
      by (suc (suc r)) q lt e i = absurd (Prim.omega (arith, lt))

  abbrev count : ℕ
  count = sum_name m

  price_named : (k : ℕ) → k < count → Named k
  price_named zero h = refl
  price_named (suc zero) h = refl
  price_named (suc (suc k)) h = elim (cases_lt k (2 * length (rows m))) [
    | inl lt ↦ subst Named (let same : 2 + k ≡ suc (suc k) = Prim.omega arith in same) (side_named k lt)
    | inr ge ↦ subst Named (let same : 2 + 2 * length (rows m) + (k - 2 * length (rows m)) ≡ suc (suc k) = Prim.omega (arith, ge) in same)
        (named_room (k - 2 * length (rows m)) (Prim.omega (arith, ge, h)))
  ]

  worth_named : (k : ℕ) → k < 1 + length m.blocks + length m.reserve.offers → Named (count + k)
  worth_named zero h = subst Named (let same : count ≡ count + 0 = Prim.omega arith in same) (ap (name m) (sum_at_place m distinct))
  worth_named (suc k) h = elim (cases_lt k (length m.blocks)) [
    | inl lt ↦ subst Named (let same : count + 1 + k ≡ count + suc k = Prim.omega arith in same) (ap (name m) (block_at_place m distinct k lt))
    | inr ge ↦ subst Named (let same : count + 1 + length m.blocks + (k - length m.blocks) ≡ count + suc k = Prim.omega (arith, ge) in same)
        (ap (name m) (offer_at_place m distinct (k - length m.blocks) (Prim.omega (arith, ge, h))))
  ]

  -- ---- the lists of names
  price_names : (k : ℕ) → k < length (map (name m) (prices m)) → get_or (map (name m) (prices m)) k 0 ≡ k
  price_names k h =
      let inside : k < length (prices m) = Prim.omega (arith, h, length-map (name m) (prices m)) in
      get_or-map (name m) (prices m) k Energy 0 inside ∙ ap (name m) (sym (price_place m distinct k inside)) ∙ price_named k (Prim.omega (arith, inside, length-prices m distinct))

  worth_names : (k : ℕ) → k < length (map (name m) (worths m)) → get_or (map (name m) (worths m)) k 0 ≡ count + k
  worth_names k h =
      let inside : k < length (worths m) = Prim.omega (arith, h, length-map (name m) (worths m)) in
      get_or-map (name m) (worths m) k Energy 0 inside ∙ ap (name m) (sym (worth_place m distinct k)) ∙ worth_named k (Prim.omega (arith, inside, length-worths m distinct))

  all_names : (k : ℕ) → k < length (map (name m) (variables m)) → get_or (map (name m) (variables m)) k 0 ≡ k
  all_names k h =
      let inside : k < length (variables m) = Prim.omega (arith, h, length-map (name m) (variables m)) in
      let all : k < count + (1 + length m.blocks + length m.reserve.offers) = Prim.omega (arith, inside, length-append (prices m) (worths m), length-prices m distinct, length-worths m distinct) in
      get_or-map (name m) (variables m) k Energy 0 inside ∙ elim (cases_lt k count) [
        | inl lt ↦ price_named k lt
        | inr ge ↦ subst Named (let same : count + (k - count) ≡ k = Prim.omega (arith, ge) in same) (worth_named (k - count) (Prim.omega (arith, ge, all)))
      ]

  -- ascending lists, which are those that begin at a number
  ascends : (xs : List ℕ) (a : ℕ) → ((k : ℕ) → k < length xs → get_or xs k 0 ≡ a + k) → IsStrictlyIncreasing xs
  ascends xs a each k h =
      let one = each k (Prim.omega (arith, h)) in
      let next = each (k + 1) h in
      Prim.omega (arith, one, next)

  from_start : (xs : List ℕ) → ((k : ℕ) → k < length xs → get_or xs k 0 ≡ k) → (k : ℕ) → k < length xs → get_or xs k 0 ≡ 0 + k
  from_start xs each k h = let own = each k h in Prim.omega (arith, own)

  columns_below : (w : ℕ) → Contains (map (name m) (prices m)) w → w < count
  columns_below w (i, h, e) =
      let own = price_names i h in
      let same = same_default (map (name m) (prices m)) i 0 w h in
      Prim.omega (arith, h, length-map (name m) (prices m), length-prices m distinct, own, same, e)

  rows_behind : (w : ℕ) → Contains (map (name m) (worths m)) w → count ≤ w
  rows_behind w (i, h, e) =
      let own = worth_names i h in
      let same = same_default (map (name m) (worths m)) i 0 w h in
      Prim.omega (arith, own, same, e)

  in_more : (xs ys : List Variable) → ((v : Variable) → Contains xs v → Contains ys v) → (w : ℕ) → Contains (map (name m) xs) w → Contains (map (name m) ys) w
  in_more xs ys more w c = let k = Contains-from_map (name m) xs w c in subst (Contains (map (name m) ys)) k.2 (Contains-map (name m) ys k.0 (more k.0 k.1))

  pub is_system : (x : Dispatch) (c : Caps) → IsSystem (price_system m x c)
  unfolding price_system
  is_system x c = record {
    ascending = ascends (map (name m) (variables m)) 0 (from_start (map (name m) (variables m)) all_names);
    columns_ascend = ascends (map (name m) (prices m)) 0 (from_start (map (name m) (prices m)) price_names);
    rows_ascend = ascends (map (name m) (worths m)) count worth_names;
    column = in_more (prices m) (variables m) (λ v k. Contains-append_left (prices m) (worths m) v k);
    row = in_more (worths m) (variables m) (λ v k. Contains-append_right (prices m) (worths m) v k);
    either = λ w k. let l = Contains-from_map (name m) (variables m) w k in elim (Contains-append_cases (prices m) (worths m) l.0 l.1) [
      | inl n ↦ inl (subst (Contains (map (name m) (prices m))) l.2 (Contains-map (name m) (prices m) l.0 n))
      | inr n ↦ inr (subst (Contains (map (name m) (worths m))) l.2 (Contains-map (name m) (worths m) l.0 n))
    ];
    apart = λ w k l. Prim.omega (arith, columns_below w k, rows_behind w l);
  }

pub law_of_the_system : LawOfTheSystem
law_of_the_system m x c market = is_system m (apart m x c market) x c
