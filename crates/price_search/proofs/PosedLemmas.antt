-- A dictionary that holds prices, posed at their bounds: it has the system of prices without those that have to be 0, and a point of it.
use Rattle.std.specs.Prelude.{◌≡◌, ℕ, ◌+◌, ◌<◌, ◌++◌, pos, false, List, [], ◌∷◌, filter, length, map, slice_index, slice_index_or, All, Contains, refl}
use Rattle.std.proofs.Common.{arith, ap, ap₂, sym, ◌∙◌, subst, subst₂, inl, inr}
use Rattle.std.proofs.lemmas.Grind.{get_or_default_zero}
use Rattle.std.proofs.lemmas.List.{get_or-append-add, get_or-map, get_or_append_left, length-append, length-map, map-append}
use Rattle.std.proofs.lemmas.List.Elements.{Contains-append_cases, Contains-append_left, Contains-append_right}
use Rattle.fraction_theory.specs.Fraction.{Fraction, whole}
use Rattle.fraction_theory.specs.Order.{◌≤ℚ◌}
use Rattle.fraction_theory.proofs.ListSums.{Contains-cons, Contains-from_filter, Contains-head}
use Rattle.fraction_theory.proofs.OrderLaws.{≤ℚ_trans}
use Rattle.exact_fraction.specs.declared.Passed.{Passed}
use Rattle.linear_dict.specs.Causes.{IsPairOf}
use Rattle.linear_dict.specs.Dictionaries.{Dictionary, IsDictionary, system_in}
use Rattle.linear_dict.specs.Places.{is_among, place_in}
use Rattle.linear_dict.specs.Tables.{cell}
use Rattle.linear_dict.proofs.NameLemmas.{among-from, place_in-within}
use Rattle.linear_system.specs.SameSystems.{SameRows, SameSystem}
use Rattle.linear_system.specs.Systems.{System}
use Rattle.linear_system.proofs.SameSystems.{same_pair, same_rows_met, turned_round}
use Rattle.simplex_core.specs.Outcomes.{Keeps}
use Rattle.simplex_core.specs.Posings.{IsPairPosed, IsPosing}
use Rattle.simplex_core.specs.declared.bounds.Bounds.{Bounds}
use Rattle.simplex_theory.specs.States.{HasNoPoint}
use Rattle.simplex_theory.proofs.SameStates.{same_within}
use Rattle.market_model.specs.declared.participants.Parts.{Parts}
use Rattle.market_model.specs.Dispatch.{Dispatch}
use Rattle.market_model.proofs.RowMembers.{Contains-from_map, Contains-map}
use Rattle.market_system.proofs.FrameLaws.{rows_in_turn}
use Rattle.fewer_columns.specs.Fewer.{fewer}
use Rattle.fewer_columns.specs.Laws.{IsPoint, LawOfFewerPoints}
use Rattle.price_system.specs.Laws.{IsPointOf}
use Rattle.price_system.specs.PriceSystem.{Caps, column_price, high, low, name, point_of, price_system, prices, variables, worths}
use Rattle.price_system.specs.declared.variables.Variable.{Variable}
use Rattle.price_system.proofs.BackLemmas.{law_of_duals}
use Rattle.price_system.proofs.SystemLemmas.{law_of_the_system}
use Rattle.price_system.proofs.WorthLemmas.{high-at, low-at, price-at}
use Rattle.price_dict.specs.Holding.{HoldsPrices, HoldsPriceSystem}
use Rattle.price_dict.specs.Reached.{columns_put, is_kept, reached_system}
use Rattle.price_search.specs.Searching.{AsksFirst}
use Rattle.price_search.proofs.KeptLemmas.{may_leave, put_is, put_price}

-- ---- what stands at the place of a name in a list that a function makes of names, of which the first are these, or those behind them
module _ (f : ℕ → Fraction) (z : Fraction) where
  at_name : (xs : List ℕ) (w : ℕ) → Contains xs w → slice_index_or (map f xs) (place_in xs w) z ≡ f w
  at_name xs w c = let at = place_in-within xs w c in get_or-map f xs (place_in xs w) 0 z at.0 ∙ ap f at.1

  at_first : (xs ys : List ℕ) (w : ℕ) → Contains xs w → slice_index_or (map f (xs ++ ys)) (place_in xs w) z ≡ f w
  at_first xs ys w c =
      let at = place_in-within xs w c in
      get_or-map f (xs ++ ys) (place_in xs w) 0 z (Prim.omega (arith, at.0, length-append xs ys))
      ∙ ap f (get_or_append_left xs ys 0 (place_in xs w) at.0 ∙ at.1)

  at_second : (xs ys : List ℕ) (w : ℕ) → Contains ys w → slice_index_or (map f (xs ++ ys)) (length xs + place_in ys w) z ≡ f w
  at_second xs ys w c =
      let at = place_in-within ys w c in
      get_or-map f (xs ++ ys) (length xs + place_in ys w) 0 z (Prim.omega (arith, at.0, length-append xs ys))
      ∙ ap f (get_or-append-add xs ys (place_in ys w) 0 ∙ at.1)

-- a list that a function makes of variables is made of their names by one that agrees with it there
map_named : {X : Type 0} (n : X → ℕ) (f : X → Fraction) (g : ℕ → Fraction) (vs : List X) → ((v : X) → Contains vs v → g (n v) ≡ f v) → map f vs ≡ map g (map n vs)
map_named n f g [] same = refl
map_named n f g (v ∷ vs) same = ap₂ ◌∷◌ (sym (same v (Contains-head v vs))) (map_named n f g vs (λ w c. same w (Contains-cons v vs w c)))

-- a dictionary with the same columns and rows
same_put : (d e : Dictionary) → e.names ≡ d.names → e.columns ≡ d.columns → e.rows ≡ d.rows → e.coefficients ≡ d.coefficients → SameRows (system_in e) (system_in d)
unfolding system_in
same_put d e names columns rows coefficients = record {
  variables = names;
  columns = ap₂ (λ (cs ns : List ℕ). filter (is_among cs) ns) columns names;
  rows = ap₂ (λ (rs ns : List ℕ). filter (is_among rs) ns) rows names;
  coefficient = λ r j c k.
      ap (λ (cs : List ℕ). cell (length cs) e.coefficients (place_in e.rows r) (place_in cs j)) columns
      ∙ ap₂ (λ (rs : List ℕ) (ks : List Fraction). cell (length d.columns) ks (place_in rs r) (place_in d.columns j)) rows coefficients;
}

-- it still holds the prices
pub holds_same : (m : Parts) (x : Dispatch) (d e : Dictionary) → HoldsPrices m x d → e.spent ≡ false → IsDictionary e → e.columns ≡ d.columns → e.rows ≡ d.rows
    → e.coefficients ≡ d.coefficients → e.names ≡ d.names → HoldsPrices m x e
holds_same m x d e holds live sound columns rows coefficients names = record {
  live = live;
  sound = sound;
  same = λ c. rows_in_turn (system_in e) (system_in d) (reached_system m x c) (same_put d e names columns rows coefficients) (holds.same c);
  columns = columns ∙ holds.columns;
  rows = rows ∙ holds.rows;
}

-- and its system where it is kept
pub holds_kept : (m : Parts) (x : Dispatch) (c : Caps) (d e : Dictionary) → HoldsPriceSystem m x c d → Keeps d e → HoldsPriceSystem m x c e
holds_kept m x c d e holds keeps = record {
  holds = holds_same m x d e holds.holds keeps.ready.live keeps.ready.sound keeps.columns keeps.rows keeps.coefficients keeps.names;
  same = subst (λ (s : System). SameSystem s (reached_system m x c)) (sym keeps.system) holds.same;
}

-- ---- posed at the prices and bounds of a system
module _ {N : Type 0} (value : N → Fraction) (d e : Dictionary) (s : System) (h : IsDictionary d) (ps : List N) (bs : List (Bounds N)) (posing : IsPosing value d ps bs e)
    (rows : SameRows (system_in e) s) (priced : map value ps ≡ map s.price d.columns) (lows : map (λ (b : Bounds N). value b.low) bs ≡ map s.low (d.columns ++ d.rows))
    (highs : map (λ (b : Bounds N). value b.high) bs ≡ map s.high (d.columns ++ d.rows)) where
  price_is : (w : ℕ) → Contains d.columns w → (system_in e).price w ≡ s.price w
  price_is w c =
      let at = place_in-within d.columns w c in
      ap (system_in e).price (sym at.1) ∙ posing.price (place_in d.columns w) at.0
      ∙ ap (λ (xs : List Fraction). slice_index_or xs (place_in d.columns w) (whole (pos 0))) priced ∙ at_name s.price (whole (pos 0)) d.columns w c

  -- a bound of a column and of a row
  bound_is : (has bound : ℕ → Fraction) (numbers : List Fraction) → numbers ≡ map bound (d.columns ++ d.rows)
      → ((k : ℕ) → k < length d.columns → has (slice_index d.columns k) ≡ slice_index_or numbers k (whole (pos 0)))
      → ((k : ℕ) → k < length d.rows → has (slice_index d.rows k) ≡ slice_index_or numbers (length d.columns + k) (whole (pos 0)))
      → (w : ℕ) → Contains d.names w → has w ≡ bound w
  bound_is has bound numbers list column row w c = elim (h.put_in.either w c) [
    | inl k ↦
        let at = place_in-within d.rows w k in
        ap has (sym at.1) ∙ row (place_in d.rows w) at.0 ∙ ap (λ (xs : List Fraction). slice_index_or xs (length d.columns + place_in d.rows w) (whole (pos 0))) list
        ∙ at_second bound (whole (pos 0)) d.columns d.rows w k
    | inr k ↦
        let at = place_in-within d.columns w k in
        ap has (sym at.1) ∙ column (place_in d.columns w) at.0 ∙ ap (λ (xs : List Fraction). slice_index_or xs (place_in d.columns w) (whole (pos 0))) list
        ∙ at_first bound (whole (pos 0)) d.columns d.rows w k
  ]

  in_columns : (w : ℕ) → Contains (system_in e).columns w → Contains d.columns w
  unfolding system_in
  in_columns w c = subst (λ (ws : List ℕ). Contains ws w) posing.columns (among-from e.columns w (Contains-from_filter (is_among e.columns) e.names w c).1)

  in_names : (w : ℕ) → Contains (system_in e).variables w → Contains d.names w
  unfolding system_in
  in_names w c = subst (λ (ws : List ℕ). Contains ws w) posing.names c

  posed_as : SameSystem (system_in e) s
  posed_as = record {
    same_rows = rows;
    price = λ w c. price_is w (in_columns w c);
    low = λ w c. bound_is (system_in e).low s.low (map (λ (b : Bounds N). value b.low) bs) lows posing.column_low posing.row_low w (in_names w c);
    high = λ w c. bound_is (system_in e).high s.high (map (λ (b : Bounds N). value b.high) bs) highs posing.column_high posing.row_high w (in_names w c);
  }

-- the low bounds are at most the high ones, where they are so in the system
bounds_in_order : {N : Type 0} (value : N → Fraction) (s : System) (names : List ℕ) (bounds : List (Bounds N)) → ((w : ℕ) → Contains names w → s.low w ≤ℚ s.high w)
    → map (λ (b : Bounds N). value b.low) bounds ≡ map s.low names → map (λ (b : Bounds N). value b.high) bounds ≡ map s.high names → All (λ b. value b.low ≤ℚ value b.high) bounds
bounds_in_order {N} value s names bounds order lows highs k b lt =
    let size : length bounds ≡ length names = sym (length-map bounds (λ (b : Bounds N). value b.low)) ∙ ap length lows ∙ length-map names s.low in
    let inside : k < length names = Prim.omega (arith, lt, size) in
    subst₂ ◌≤ℚ◌
    (sym (get_or-map s.low names k 0 (whole (pos 0)) inside) ∙ ap (λ (xs : List Fraction). slice_index_or xs k (whole (pos 0))) (sym lows) ∙ get_or-map (λ (b : Bounds N). value b.low) bounds k b (whole (pos 0)) lt)
    (sym (get_or-map s.high names k 0 (whole (pos 0)) inside) ∙ ap (λ (xs : List Fraction). slice_index_or xs k (whole (pos 0))) (sym highs) ∙ get_or-map (λ (b : Bounds N). value b.high) bounds k b (whole (pos 0)) lt)
    (order (slice_index names k) (k, inside, get_or_default_zero names k (slice_index names k) inside))

-- ---- the search as it is asked
module _ {N : Type 0} (value : N → Fraction) (m : Parts) (x : Dispatch) (c : Caps) (d : Dictionary) (ps : List N) (bs : List (Bounds N)) (asks : AsksFirst value m x c d ps bs) where
  abbrev all : System
  all = price_system m x c

  abbrev put : List Variable
  put = columns_put m x ++ worths m

  names_are : map (name m) put ≡ d.columns ++ d.rows
  names_are = map-append (name m) (columns_put m x) (worths m) ∙ sym (ap₂ (λ (xs ys : List ℕ). xs ++ ys) asks.holds.columns asks.holds.rows)

  priced_as : map value ps ≡ map all.price d.columns
  priced_as =
      asks.prices
      ∙ map_named (name m) column_price all.price (columns_put m x)
      (λ v k. price-at m x c asks.market v (put_is m x asks.market v (Contains-append_left (columns_put m x) (worths m) v k)))
      ∙ ap (map all.price) (sym asks.holds.columns)

  low_as : map (λ (b : Bounds N). value b.low) bs ≡ map all.low (d.columns ++ d.rows)
  low_as = asks.lows ∙ map_named (name m) (low m x c) all.low put (λ v k. low-at m x c asks.market v (put_is m x asks.market v k)) ∙ ap (map all.low) names_are

  high_as : map (λ (b : Bounds N). value b.high) bs ≡ map all.high (d.columns ++ d.rows)
  high_as = asks.highs ∙ map_named (name m) (high m x c) all.high put (λ v k. high-at m x c asks.market v (put_is m x asks.market v k)) ∙ ap (map all.high) names_are

  pub price_count : length ps ≡ length d.columns
  price_count = sym (length-map ps value) ∙ ap length priced_as ∙ length-map d.columns all.price

  pub bound_count : length bs ≡ length d.columns + length d.rows
  bound_count =
      sym (length-map bs (λ (b : Bounds N). value b.low)) ∙ ap length low_as ∙ length-map (d.columns ++ d.rows) all.low ∙ length-append d.columns d.rows

  -- the duals that are known are a point
  point : IsPointOf m x c asks.duals (point_of m asks.duals)
  point = law_of_duals m x c asks.duals asks.market asks.proper asks.supported asks.within

  known : (v : Variable) → Contains put v → Contains (variables m) v
  known v k = elim (Contains-append_cases (columns_put m x) (worths m) v k) [
    | inl p ↦ Contains-append_left (prices m) (worths m) v (put_price m x v p).0
    | inr w ↦ Contains-append_right (prices m) (worths m) v w
  ]

  in_all : (w : ℕ) → Contains (d.columns ++ d.rows) w → Contains all.variables w
  unfolding price_system
  in_all w k =
      let v = Contains-from_map (name m) put w (subst (λ (ws : List ℕ). Contains ws w) (sym names_are) k) in
      subst (Contains (map (name m) (variables m))) v.2 (Contains-map (name m) (variables m) v.0 (known v.0 v.1))

  pub ordered : All (λ b. value b.low ≤ℚ value b.high) bs
  ordered = bounds_in_order value all (d.columns ++ d.rows) bs
      (λ w k. ≤ℚ_trans (all.low w) (point_of m asks.duals w) (all.high w) (point.bounds.low w (in_all w k)) (point.bounds.high w (in_all w k))) low_as high_as

  module _ (e : Dictionary) (posing : IsPosing value d ps bs e) where
    pub holds_posed : HoldsPriceSystem m x c e
    unfolding fewer
    holds_posed =
        let holds : HoldsPrices m x e = holds_same m x d e asks.holds posing.ready.live posing.ready.sound posing.columns posing.rows posing.coefficients posing.names in
        record { holds = holds; same = posed_as value d e (reached_system m x c) asks.holds.sound ps bs posing (holds.same c) priced_as low_as high_as }

    pub has_point : LawOfFewerPoints → ¬ (HasNoPoint (system_in e))
    has_point law none =
        let here : IsPoint (reached_system m x c) (point_of m asks.duals) =
        law (price_system m x c) (is_kept m x) (point_of m asks.duals) (law_of_the_system m x c asks.market) (may_leave m x asks.market c) (record { rows = point.rows; bounds = point.bounds }) in
        let back : SameSystem (reached_system m x c) (system_in e) = turned_round (system_in e) (reached_system m x c) holds_posed.same in
        none.none (point_of m asks.duals) (same_rows_met (reached_system m x c) (system_in e) back (point_of m asks.duals) here.rows)
        (same_within (reached_system m x c) (system_in e) back (point_of m asks.duals) here.bounds)

    -- a working pair of it is one of the system of prices
    pub pair_is : (bound : ℕ) (p : Passed N) → IsPairOf value bound (system_in e) p → IsPairOf value bound (reached_system m x c) p
    pair_is bound p pair = same_pair (system_in e) (reached_system m x c) holds_posed.same bound p.op (value p.left) (value p.right) pair

  pub pair_posed : (bound : ℕ) (p : Passed N) → IsPairPosed value bound d ps bs p → IsPairOf value bound (reached_system m x c) p
  pair_posed bound p pair = pair_is pair.0 pair.1 bound p pair.2
