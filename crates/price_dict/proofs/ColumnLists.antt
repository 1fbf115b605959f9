-- The prices that are columns of a dictionary: some of all, in their order.
use Rattle.std.specs.Prelude.{◌≡◌, ℕ, ◌<◌, pos, Bool, true, false, cond, List, [], ◌∷◌, ◌++◌, length, map, filter, AllPairs, Contains, refl}
use Rattle.std.specs.List.{flat_map}
use Rattle.std.proofs.Common.{arith, ap, ap₂, sym, ◌∙◌, subst, subst₂, inl, inr}
use Rattle.std.proofs.lemmas.List.{get_or-map, length-map}
use Rattle.std.proofs.lemmas.List.Elements.{Contains-append_cases, Contains-append_left, filter-append}
use Rattle.std.proofs.lemmas.List.Kept.{AllPairs-filter, AllPairs-from_increasing}
use Rattle.fraction_theory.specs.Fraction.{whole}
use Rattle.fraction_theory.proofs.ListSums.{Contains-cases, Contains-from_filter}
use Rattle.exact_fraction.specs.declared.Passed.{Passed}
use Rattle.fraction_theory.specs.Fraction.{Fraction}
use Rattle.market_model.specs.declared.limits.Row.{Row}
use Rattle.market_model.specs.declared.participants.Parts.{Parts}
use Rattle.market_model.specs.Dispatch.{Dispatch, empty}
use Rattle.market_model.specs.LimitRows.{rows}
use Rattle.market_model.specs.Market.{IsMarket}
use Rattle.market_model.specs.Reserves.{reserve_units}
use Rattle.market_model.proofs.PlainMarkets.{distinct_by_rise}
use Rattle.market_model.proofs.RowMembers.{Contains-from_flat, Contains-from_map}
use Rattle.market_system.proofs.RowOrder.{pairs-map}
use Rattle.price_system.specs.declared.variables.Variable.{Variable}
use Rattle.price_system.specs.declared.variables.Variable.TheVariants.{Energy, Reserve, Up, Down, Room, Sum, Block, Offer}
use Rattle.price_system.specs.PriceSystem.{Caps, name, price_system, prices, two_sides, worths}
use Rattle.price_system.proofs.NameLemmas.{IsVariable}
use Rattle.price_system.proofs.SystemLemmas.{law_of_the_system}
use Rattle.limit_screen.specs.Reaching.{used_up_units, uses_up}
use Rattle.price_dict.specs.Reached.{AreColumns, AreReached, columns_of, columns_put, is_reached, reached_rows}
use Rattle.price_dict.specs.Refusals.{IsColumnRefusal, IsColumnsRefusal, IsEntriesRefusal}
use Rattle.price_dict.specs.declared.reached.Reached.{Reached}
use Rattle.price_dict.proofs.NamePlaces.{is_one}

-- a column is a variable of the market
pub column_is_one : (m : Parts) (v w : Variable) → v ≡ w → Contains (prices m) v → IsVariable m w
column_is_one m v w e c = is_one m v w e (Contains-append_left (prices m) (worths m) v c)

-- the columns of what a dispatch reaches
pub columns_reached : (m : Parts) (x : Dispatch) (reached : Reached) → AreReached m x reached → columns_of reached ≡ columns_put m x
columns_reached m x reached are =
    ap₂ (λ (rs : List Row) (us : List ℕ). (Energy ∷ Reserve ∷ []) ++ (flat_map two_sides rs ++ map Room us)) are.rows are.units

-- ---- they are those prices that pass a test
abbrev passes : Parts → Dispatch → Variable → Bool
passes m x Energy = true
passes m x Reserve = true
passes m x (Up r) = is_reached m x r
passes m x (Down r) = is_reached m x r
passes m x (Room u) = uses_up m x u
passes m x Sum = true
passes m x (Block j) = true
passes m x (Offer n) = true

module _ (m : Parts) (x : Dispatch) where
  sides_pass : (rs : List Row) → flat_map two_sides (filter (is_reached m x) rs) ≡ filter (passes m x) (flat_map two_sides rs)
  sides_pass [] = refl
  sides_pass (r ∷ rs) =
      ap (λ (b : Bool). flat_map two_sides (cond b (r ∷ filter (is_reached m x) rs) (filter (is_reached m x) rs))) refl ∙ by_test (is_reached m x r) (sides_pass rs)
    where
      by_test : (b : Bool) → flat_map two_sides (filter (is_reached m x) rs) ≡ filter (passes m x) (flat_map two_sides rs)
          → flat_map two_sides (cond b (r ∷ filter (is_reached m x) rs) (filter (is_reached m x) rs))
          ≡ cond b (Up r ∷ cond b (Down r ∷ filter (passes m x) (flat_map two_sides rs)) (filter (passes m x) (flat_map two_sides rs))) (cond b (Down r ∷ filter (passes m x) (flat_map two_sides rs)) (filter (passes m x) (flat_map two_sides rs)))
      by_test true rest = ap (λ (vs : List Variable). Up r ∷ Down r ∷ vs) rest
      by_test false rest = rest

  rooms_pass : (us : List ℕ) → map Room (filter (uses_up m x) us) ≡ filter (passes m x) (map Room us)
  rooms_pass [] = refl
  rooms_pass (u ∷ us) = by_test (uses_up m x u) (rooms_pass us)
    where
      by_test : (b : Bool) → map Room (filter (uses_up m x) us) ≡ filter (passes m x) (map Room us)
          → map Room (cond b (u ∷ filter (uses_up m x) us) (filter (uses_up m x) us)) ≡ cond b (Room u ∷ filter (passes m x) (map Room us)) (filter (passes m x) (map Room us))
      by_test true rest = ap (λ (vs : List Variable). Room u ∷ vs) rest
      by_test false rest = rest

  columns_pass : columns_put m x ≡ filter (passes m x) (prices m)
  columns_pass =
      ap (λ (vs : List Variable). Energy ∷ Reserve ∷ vs)
      (ap₂ (λ (vs ws : List Variable). vs ++ ws) (sides_pass (rows m)) (rooms_pass (reserve_units m))
      ∙ sym (filter-append (passes m x) (flat_map two_sides (rows m)) (map Room (reserve_units m))))

  pub among_prices : (v : Variable) → Contains (columns_put m x) v → Contains (prices m) v
  among_prices v c = (Contains-from_filter (passes m x) (prices m) v (subst (λ (vs : List Variable). Contains vs v) columns_pass c)).0

-- ---- their names
pairs-from_map : {X Y : Type 0} (R : Y → Y → Type 0) (f : X → Y) (xs : List X) → AllPairs R (map f xs) → AllPairs (λ (a b : X). R (f a) (f b)) xs
pairs-from_map R f xs pairs i j d lt h =
    let inside : j < length (map f xs) = Prim.omega (arith, h, length-map xs f) in
    subst₂ R (get_or-map f xs i d (f d) (Prim.omega (arith, lt, h))) (get_or-map f xs j d (f d) h) (pairs i j (f d) lt inside)

abbrev no_caps : Caps
no_caps = record { most = whole (pos 0); factor = whole (pos 0); range = whole (pos 0) }

price_names_rise : (m : Parts) → IsMarket m → AllPairs (λ (a b : ℕ). a < b) (map (name m) (prices m))
unfolding price_system
price_names_rise m market = AllPairs-from_increasing (map (name m) (prices m)) (law_of_the_system m (empty m) no_caps market).columns_ascend

pub put_names_rise : (m : Parts) (x : Dispatch) → IsMarket m → AllPairs (λ (a b : ℕ). a < b) (map (name m) (columns_put m x))
put_names_rise m x market =
    subst (λ (vs : List Variable). AllPairs (λ (a b : ℕ). a < b) (map (name m) vs)) (sym (columns_pass m x))
    (pairs-map (λ (a b : ℕ). a < b) (name m) (filter (passes m x) (prices m))
    (AllPairs-filter (λ (v w : Variable). name m v < name m w) (passes m x) (prices m) (pairs-from_map (λ (a b : ℕ). a < b) (name m) (prices m) (price_names_rise m market))))

pub are_columns : (m : Parts) (x : Dispatch) (reached : Reached) → IsMarket m → AreReached m x reached → AreColumns m (columns_of reached)
are_columns m x reached market are =
    subst (AreColumns m) (sym (columns_reached m x reached are))
    (record { prices = among_prices m x; distinct = distinct_by_rise (map (name m) (columns_put m x)) (put_names_rise m x market) })

-- a name behind all prices is that of none
pub worth_apart : (m : Parts) → IsMarket m → (w : ℕ) → Contains (map (name m) (prices m)) w → ¬ (Contains (map (name m) (worths m)) w)
unfolding price_system
worth_apart m market w c k = (law_of_the_system m (empty m) no_caps market).apart w c k

-- ---- what is refused for a column
module _ (m : Parts) (x : Dispatch) (bound : ℕ) (p : Passed Fraction) where
  side_refused : (r : Row) → Contains (reached_rows m x) r → (v : Variable) → Contains (two_sides r) v → IsColumnRefusal m v bound p → IsEntriesRefusal m x bound p
  side_refused r c v k why = elim (Contains-cases (Up r) (Down r ∷ []) v k) [
    | inl e ↦ (r, c, subst (λ (w : Variable). IsColumnRefusal m w bound p) (sym e) why)
    | inr l ↦ elim (Contains-cases (Down r) [] v l) [
      | inl e ↦ (r, c, subst (λ (w : Variable). IsColumnRefusal m w bound p) (sym e) why)
      | inr n ↦ absurd (Prim.omega (arith, n.1))
    ]
  ]

  pub column_refused : IsColumnsRefusal m (columns_put m x) bound p → IsEntriesRefusal m x bound p
  column_refused (v, c, why) =
      let behind = flat_map two_sides (reached_rows m x) ++ map Room (used_up_units m x) in
      let none : (w : Variable) → w ≡ v → IsColumnRefusal m w bound p = λ w e. subst (λ (u : Variable). IsColumnRefusal m u bound p) (sym e) why in
      elim (Contains-cases Energy (Reserve ∷ behind) v c) [
        | inl e ↦ absurd (none Energy e)
        | inr k ↦ elim (Contains-cases Reserve behind v k) [
          | inl e ↦ absurd (none Reserve e)
          | inr l ↦ elim (Contains-append_cases (flat_map two_sides (reached_rows m x)) (map Room (used_up_units m x)) v l) [
            | inl n ↦ let o = Contains-from_flat two_sides (reached_rows m x) v n in side_refused o.0 o.1 v o.2 why
            | inr n ↦ let o = Contains-from_map Room (used_up_units m x) v n in absurd (none (Room o.0) o.2)
          ]
        ]
      ]
