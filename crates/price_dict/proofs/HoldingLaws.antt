-- What a dictionary that holds the system of prices has.
use Rattle.std.specs.Prelude.{◌≡◌, ◌⊎◌, ℕ, ◌+◌, ◌<◌, pos, true, List, [], ◌∷◌, ◌++◌, length, map, filter, take, slice_index, Contains, refl}
use Rattle.std.specs.List.Sorted.{IsStrictlyIncreasing}
use Rattle.std.proofs.Common.{zero, suc, arith, ap, ap₂, sym, ◌∙◌, subst, subst₂, inl, inr, get_or}
use Rattle.std.proofs.lemmas.List.{get_or-map, get_or-take, length-map, length-take-le, map-append, take_more}
use Rattle.std.proofs.lemmas.List.Elements.{Contains-append_cases, Contains-append_left, Contains-append_right}
use Rattle.std.proofs.lemmas.List.Kept.{IsStrictlyIncreasing-filter}
use Rattle.fraction_theory.specs.Fraction.{Fraction, whole}
use Rattle.fraction_theory.proofs.ListSums.{Contains-cases, Contains-filter, Contains-from_filter}
use Rattle.linear_system.specs.SameSystems.{SameRows}
use Rattle.linear_system.specs.Systems.{System, IsSystem}
use Rattle.linear_dict.specs.Dictionaries.{AddsRow, Dictionary, IsDictionary, IsStart, system_in}
use Rattle.linear_dict.specs.Places.{is_among}
use Rattle.linear_dict.proofs.NameLemmas.{among-from, among-tells}
use Rattle.linear_dict.proofs.SplitLemmas.{system_is}
use Rattle.market_model.specs.declared.participants.Parts.{Parts}
use Rattle.market_model.specs.Dispatch.{Dispatch}
use Rattle.market_model.specs.Market.{IsMarket}
use Rattle.market_model.proofs.RowMembers.{Contains-from_map, Contains-map}
use Rattle.price_system.specs.declared.variables.Variable.{Variable}
use Rattle.price_system.specs.declared.variables.Variable.TheVariants.{Energy, Sum}
use Rattle.price_system.specs.PriceSystem.{Caps, coefficient, column_price, name, price_system, prices, sum_name, variables, worths}
use Rattle.price_system.proofs.NameLemmas.{variable_at, variable_is}
use Rattle.price_system.proofs.SystemLemmas.{law_of_the_system}
use Rattle.fewer_columns.specs.Fewer.{fewer}
use Rattle.price_dict.specs.Holding.{HasPutIn, HoldsPrices}
use Rattle.price_dict.specs.Reached.{AreColumns, columns_put, is_kept, reached_system}
use Rattle.price_dict.proofs.ColumnLists.{among_prices, worth_apart}
use Rattle.price_dict.proofs.NameLists.{ascending_same}
use Rattle.price_dict.proofs.NamePlaces.{apart_rows, worth_name}
use Rattle.price_dict.proofs.PutInLemmas.{added_coefficient, kept_coefficient, start_coefficient}

abbrev nil : Fraction
nil = whole (pos 0)

-- what a mapped list has at the place of a member
at_member : {X Y : Type 0} (f : X → Y) (xs : List X) (x : X) (c : Contains xs x) (d : Y) → get_or (map f xs) c.0 d ≡ f x
at_member f xs x c d = get_or-map f xs c.0 x d c.1 ∙ ap f c.2

pub alone : {X : Type 0} (x y : X) → Contains (x ∷ []) y → y ≡ x
alone x y h = elim (Contains-cases x [] y h) [ inl e ↦ sym e | inr n ↦ absurd (Prim.omega (arith, n.1)) ]

-- ---- the names put in
module _ (m : Parts) (cs rs : List Variable) (d : Dictionary) (put : HasPutIn m cs rs d) where
  pub row_taken : (v : Variable) → Contains rs v → Contains d.rows (name m v)
  row_taken v c = subst (λ (ws : List ℕ). Contains ws (name m v)) (sym put.rows_named) (Contains-map (name m) rs v c)

  pub column_taken : (v : Variable) → Contains cs v → Contains d.columns (name m v)
  column_taken v c = subst (λ (ws : List ℕ). Contains ws (name m v)) (sym put.columns_named) (Contains-map (name m) cs v c)

  pub taken_row : (w : ℕ) → Contains d.rows w → (v : Variable) × Contains rs v × (name m v ≡ w)
  taken_row w c = Contains-from_map (name m) rs w (subst (λ (ws : List ℕ). Contains ws w) put.rows_named c)

  pub taken_column : (w : ℕ) → Contains d.columns w → (v : Variable) × Contains cs v × (name m v ≡ w)
  taken_column w c = Contains-from_map (name m) cs w (subst (λ (ws : List ℕ). Contains ws w) put.columns_named c)

-- ---- the start
pub sum_absent : (m : Parts) (cs : List Variable) → IsMarket m → AreColumns m cs → ¬ (Contains (map (name m) cs) (sum_name m))
sum_absent m cs market are c =
    let v = Contains-from_map (name m) cs (sum_name m) c in
    worth_apart m market (sum_name m) (subst (Contains (map (name m) (prices m))) v.2 (Contains-map (name m) (prices m) v.0 (are.prices v.0 v.1)))
    (Contains-map (name m) (worths m) Sum (0, Prim.omega arith, refl))

module _ {N : Type 0} (value : N → Fraction) (m : Parts) (cs : List Variable) where
  pub start_put : (names : List ℕ) (entries : List N) (d : Dictionary) → names ≡ map (name m) cs → map value entries ≡ map column_price cs → IsStart value names (sum_name m) entries d
      → HasPutIn m cs (take 1 (worths m)) d
  start_put names entries d named factors start = record {
    live = start.live;
    sound = start.sound;
    others = start.others ∙ sym start.columns;
    columns_named = start.columns ∙ named;
    rows_named = start.rows;
    entries = λ r j c k. subst (λ (v : Variable). (system_in d).coefficient (name m v) (name m j) ≡ coefficient m v j) (sym (alone Sum r c)) (of_sum j k);
  }
    where
      of_sum : (j : Variable) → Contains cs j → (system_in d).coefficient (sum_name m) (name m j) ≡ coefficient m Sum j
      of_sum j k =
          let here : slice_index names k.0 ≡ name m j = ap (λ (ns : List ℕ). slice_index ns k.0) named ∙ at_member (name m) cs j k 0 in
          let long : length names ≡ length cs = ap length named ∙ length-map cs (name m) in
          ap ((system_in d).coefficient (sum_name m)) (sym here)
          ∙ start_coefficient value names (sum_name m) entries d start k.0 (Prim.omega (arith, long, k.1))
          ∙ ap (λ (xs : List Fraction). get_or xs k.0 nil) factors ∙ at_member column_price cs j k nil

  -- ---- a row more over these columns
  pub put_more : (rs : List Variable) (v : Variable) (entries : List N) (d new : Dictionary) → HasPutIn m cs rs d → map value entries ≡ map (coefficient m v) cs
      → AddsRow value d (name m v) entries new → HasPutIn m cs (rs ++ v ∷ []) new
  put_more rs v entries d new put factors adds = record {
    live = adds.live;
    sound = adds.sound;
    others = adds.others ∙ put.others ∙ sym adds.columns;
    columns_named = adds.columns ∙ put.columns_named;
    rows_named = adds.rows ∙ ap (λ (ws : List ℕ). ws ++ name m v ∷ []) put.rows_named ∙ sym (map-append (name m) rs (v ∷ []));
    entries = λ r j k l. elim (Contains-append_cases rs (v ∷ []) r k) [
      | inl h ↦ old r j h l
      | inr h ↦ subst (λ (x : Variable). (system_in new).coefficient (name m x) (name m j) ≡ coefficient m x j) (sym (alone v r h)) (added j l)
    ];
  }
    where
      old : (r j : Variable) → Contains rs r → Contains cs j → (system_in new).coefficient (name m r) (name m j) ≡ coefficient m r j
      old r j k l =
          kept_coefficient value d new (name m v) entries put.sound adds (name m r) (name m j) (row_taken m cs rs d put r k) (column_taken m cs rs d put j l)
          ∙ put.entries r j k l

      added : (j : Variable) → Contains cs j → (system_in new).coefficient (name m v) (name m j) ≡ coefficient m v j
      added j l =
          let here : slice_index d.columns l.0 ≡ name m j = ap (λ (ws : List ℕ). slice_index ws l.0) put.columns_named ∙ at_member (name m) cs j l 0 in
          let long : length d.columns ≡ length cs = ap length put.columns_named ∙ length-map cs (name m) in
          ap ((system_in new).coefficient (name m v)) (sym here)
          ∙ added_coefficient value d new (name m v) entries put.sound adds l.0 (Prim.omega (arith, long, l.1))
          ∙ ap (λ (xs : List Fraction). get_or xs l.0 nil) factors ∙ at_member (coefficient m v) cs j l nil

  pub entry_count : (rs : List Variable) (d : Dictionary) (f : Variable → Fraction) (entries : List N) → HasPutIn m cs rs d → map value entries ≡ map f cs → length entries ≡ length d.columns
  entry_count rs d f entries put factors =
      sym (length-map entries value) ∙ ap length factors ∙ length-map cs f ∙ sym (ap length put.columns_named ∙ length-map cs (name m))

  -- the row at a place, behind those before it
  pub put_next : (k : ℕ) (v : Variable) (f : Variable → Fraction) (row : ℕ) (entries : List N) (d new : Dictionary) → k < length (worths m) → get_or (worths m) k Energy ≡ v
      → ((j : Variable) → f j ≡ coefficient m v j) → row ≡ sum_name m + k → HasPutIn m cs (take k (worths m)) d → map value entries ≡ map f cs → AddsRow value d row entries new
      → HasPutIn m cs (take (k + 1) (worths m)) new
  put_next k v f row entries d new lt at same named put factors adds =
      subst (λ (vs : List Variable). HasPutIn m cs vs new) (ap (λ (u : Variable). take k (worths m) ++ u ∷ []) (sym at) ∙ sym (take_more (worths m) k Energy lt))
      (put_more (take k (worths m)) v entries d new put (factors ∙ alike cs)
      (subst (λ (n : ℕ). AddsRow value d n entries new) (named ∙ sym (worth_name m k lt) ∙ ap (name m) at) adds))
    where
      alike : (vs : List Variable) → map f vs ≡ map (coefficient m v) vs
      alike [] = refl
      alike (u ∷ us) = ap₂ (λ (y : Fraction) (ys : List Fraction). y ∷ ys) (same u) (alike us)

-- its name is not there
pub next_absent : (m : Parts) (cs : List Variable) (k : ℕ) (d : Dictionary) → IsMarket m → AreColumns m cs → k < length (worths m) → HasPutIn m cs (take k (worths m)) d
    → ¬ (Contains d.names (sum_name m + k))
next_absent m cs k d market are lt put named = elim (put.sound.put_in.either (sum_name m + k) named) [
  | inl c ↦
      let v = taken_row m cs (take k (worths m)) d put (sum_name m + k) c in
      let place : v.1.0 < k = Prim.omega (arith, v.1.1, length-take-le k (worths m) (Prim.omega (arith, lt))) in
      let here : get_or (worths m) v.1.0 Energy ≡ v.0 = own (worths m) v.1.0 Energy v.0 (Prim.omega (arith, place, lt)) ∙ sym (get_or-take k (worths m) v.1.0 v.0 place) ∙ v.1.2 in
      let other : sum_name m + v.1.0 ≡ sum_name m + k = sym (worth_name m v.1.0 (Prim.omega (arith, place, lt))) ∙ ap (name m) here ∙ v.2 in
      Prim.omega (arith, place, other)
  | inr c ↦
      let v = taken_column m cs (take k (worths m)) d put (sum_name m + k) c in
      worth_apart m market (sum_name m + k) (subst (Contains (map (name m) (prices m))) v.2 (Contains-map (name m) (prices m) v.0 (are.prices v.0 v.1)))
      (subst (Contains (map (name m) (worths m))) (worth_name m k lt) (Contains-map (name m) (worths m) (get_or (worths m) k Energy) (k, lt, own (worths m) k (get_or (worths m) k Energy) Energy lt)))
]
  where
    own : (vs : List Variable) (i : ℕ) (a b : Variable) → i < length vs → get_or vs i a ≡ get_or vs i b
    own [] i a b h = absurd (Prim.omega (arith, h))
    own (v ∷ vs) zero a b h = refl
    own (v ∷ vs) (suc i) a b h = own vs i a b (Prim.omega (arith, h))

-- ---- the names and the columns of its system
module _ (d : Dictionary) (sound : IsDictionary d) where
  column_in : (w : ℕ) → Contains (system_in d).columns w → Contains d.columns w
  unfolding system_in
  column_in w c = among-from d.columns w (Contains-from_filter (is_among d.columns) d.names w c).1

  pub row_in : (w : ℕ) → Contains (system_in d).rows w → Contains d.rows w
  unfolding system_in
  row_in w c = among-from d.rows w (Contains-from_filter (is_among d.rows) d.names w c).1

  column_of : (w : ℕ) → Contains d.columns w → Contains (system_in d).columns w
  unfolding system_in
  column_of w c = Contains-filter (is_among d.columns) d.names w (sound.put_in.second_named w c) (among-tells d.columns w c)

  row_of : (w : ℕ) → Contains d.rows w → Contains (system_in d).rows w
  unfolding system_in
  row_of w c = Contains-filter (is_among d.rows) d.names w (sound.put_in.first_named w c) (among-tells d.rows w c)

  names_are : (system_in d).variables ≡ d.names
  unfolding system_in
  names_are = refl

-- ---- the columns that are reached, over rows of the system of prices
module _ (m : Parts) (x : Dispatch) (c : Caps) (market : IsMarket m) (rs : List Variable) (d : Dictionary) (put : HasPutIn m (columns_put m x) rs d) where
  columns_are : (reached_system m x c).columns ≡ filter (is_kept m x) (map (name m) (prices m))
  unfolding fewer price_system
  columns_are = refl

  pub rows_are : (reached_system m x c).rows ≡ map (name m) (worths m)
  unfolding fewer price_system
  rows_are = refl

  columns_rise : IsStrictlyIncreasing (reached_system m x c).columns
  unfolding fewer
  columns_rise = IsStrictlyIncreasing-filter (is_kept m x) (price_system m x c).columns (law_of_the_system m x c market).columns_ascend

  -- what is put in is kept
  pub kept_column : (v : Variable) → Contains (columns_put m x) v → is_kept m x (name m v) ≡ true
  kept_column v k =
      among-tells (map (name m) (columns_put m x ++ worths m)) (name m v)
      (Contains-map (name m) (columns_put m x ++ worths m) v (Contains-append_left (columns_put m x) (worths m) v k))

  column_to : (w : ℕ) → Contains d.columns w → Contains (reached_system m x c).columns w
  column_to w k =
      let v = taken_column m (columns_put m x) rs d put w k in
      subst (λ (ws : List ℕ). Contains ws w) (sym columns_are)
      (subst (Contains (filter (is_kept m x) (map (name m) (prices m)))) v.2
      (Contains-filter (is_kept m x) (map (name m) (prices m)) (name m v.0) (Contains-map (name m) (prices m) v.0 (among_prices m x v.0 v.1)) (kept_column v.0 v.1)))

  -- and what is kept is put in
  column_back : (w : ℕ) → Contains (reached_system m x c).columns w → Contains d.columns w
  column_back w k =
      let l = Contains-from_filter (is_kept m x) (map (name m) (prices m)) w (subst (λ (ws : List ℕ). Contains ws w) columns_are k) in
      let v = Contains-from_map (name m) (columns_put m x ++ worths m) w (among-from (map (name m) (columns_put m x ++ worths m)) w l.1) in
      elim (Contains-append_cases (columns_put m x) (worths m) v.0 v.1) [
        | inl n ↦ subst (Contains d.columns) v.2 (column_taken m (columns_put m x) rs d put v.0 n)
        | inr n ↦ absurd (worth_apart m market w l.0 (subst (Contains (map (name m) (worths m))) v.2 (Contains-map (name m) (worths m) v.0 n)))
      ]

  pub same_columns : (system_in d).columns ≡ (reached_system m x c).columns
  same_columns =
      ascending_same (system_in d).columns (reached_system m x c).columns (system_is d put.sound).columns_ascend columns_rise
      (λ w k. column_to w (column_in d put.sound w k)) (λ w k. column_of d put.sound w (column_back w k))

  -- a coefficient at names
  coefficient_at : (r j : Variable) → Contains (worths m) r → Contains (prices m) j → (reached_system m x c).coefficient (name m r) (name m j) ≡ coefficient m r j
  unfolding fewer price_system
  coefficient_at r j k l =
      ap₂ (coefficient m) (variable_at m (apart_rows m market) r (variable_is m r (Contains-append_right (prices m) (worths m) r k)))
      (variable_at m (apart_rows m market) j (variable_is m j (Contains-append_left (prices m) (worths m) j l)))

  pub same_coefficient : ((v : Variable) → Contains rs v → Contains (worths m) v) → (r j : ℕ) → Contains (system_in d).rows r → Contains (system_in d).columns j
      → (system_in d).coefficient r j ≡ (reached_system m x c).coefficient r j
  same_coefficient inside r j k l =
      let u = taken_row m (columns_put m x) rs d put r (row_in d put.sound r k) in
      let v = taken_column m (columns_put m x) rs d put j (column_in d put.sound j l) in
      subst₂ (λ (a b : ℕ). (system_in d).coefficient a b ≡ (reached_system m x c).coefficient a b) u.2 v.2
      (put.entries u.0 v.0 u.1 v.1 ∙ sym (coefficient_at u.0 v.0 (inside u.0 u.1) (among_prices m x v.0 v.1)))

-- ---- the prices that are reached over all rows
module _ (m : Parts) (x : Dispatch) (c : Caps) (market : IsMarket m) (d : Dictionary) (put : HasPutIn m (columns_put m x) (worths m) d) where
  abbrev cs : List Variable
  cs = columns_put m x

  whole_is : IsSystem (price_system m x c)
  whole_is = law_of_the_system m x c market

  -- its lists
  variables_are : (reached_system m x c).variables ≡ filter (is_kept m x) (map (name m) (variables m))
  unfolding fewer price_system
  variables_are = refl

  variables_rise : IsStrictlyIncreasing (reached_system m x c).variables
  unfolding fewer
  variables_rise = IsStrictlyIncreasing-filter (is_kept m x) (price_system m x c).variables whole_is.ascending

  rows_rise : IsStrictlyIncreasing (reached_system m x c).rows
  unfolding fewer
  rows_rise = whole_is.rows_ascend

  kept_row : (v : Variable) → Contains (worths m) v → is_kept m x (name m v) ≡ true
  kept_row v k = among-tells (map (name m) (cs ++ worths m)) (name m v) (Contains-map (name m) (cs ++ worths m) v (Contains-append_right cs (worths m) v k))

  -- and what is kept is put in
  from_kept : (w : ℕ) → is_kept m x w ≡ true → Contains d.columns w ⊎ Contains d.rows w
  from_kept w e =
      let v = Contains-from_map (name m) (cs ++ worths m) w (among-from (map (name m) (cs ++ worths m)) w e) in
      elim (Contains-append_cases cs (worths m) v.0 v.1) [
        | inl k ↦ inl (subst (Contains d.columns) v.2 (column_taken m cs (worths m) d put v.0 k))
        | inr k ↦ inr (subst (Contains d.rows) v.2 (row_taken m cs (worths m) d put v.0 k))
      ]

  row_to : (w : ℕ) → Contains d.rows w → Contains (reached_system m x c).rows w
  row_to w k = subst (λ (ws : List ℕ). Contains ws w) (put.rows_named ∙ sym (rows_are m x c market (worths m) d put)) k

  row_back : (w : ℕ) → Contains (reached_system m x c).rows w → Contains d.rows w
  row_back w k = subst (λ (ws : List ℕ). Contains ws w) (rows_are m x c market (worths m) d put ∙ sym put.rows_named) k

  variable_to : (w : ℕ) → Contains d.names w → Contains (reached_system m x c).variables w
  variable_to w k = subst (λ (ws : List ℕ). Contains ws w) (sym variables_are) (elim (put.sound.put_in.either w k) [
    | inl l ↦
        let v = taken_row m cs (worths m) d put w l in
        subst (Contains (filter (is_kept m x) (map (name m) (variables m)))) v.2
        (Contains-filter (is_kept m x) (map (name m) (variables m)) (name m v.0) (Contains-map (name m) (variables m) v.0 (Contains-append_right (prices m) (worths m) v.0 v.1)) (kept_row v.0 v.1))
    | inr l ↦
        let v = taken_column m cs (worths m) d put w l in
        subst (Contains (filter (is_kept m x) (map (name m) (variables m)))) v.2
        (Contains-filter (is_kept m x) (map (name m) (variables m)) (name m v.0) (Contains-map (name m) (variables m) v.0 (Contains-append_left (prices m) (worths m) v.0 (among_prices m x v.0 v.1)))
        (kept_column m x c market (worths m) d put v.0 v.1))
  ])

  variable_back : (w : ℕ) → Contains (reached_system m x c).variables w → Contains d.names w
  variable_back w k =
      elim (from_kept w (Contains-from_filter (is_kept m x) (map (name m) (variables m)) w (subst (λ (ws : List ℕ). Contains ws w) variables_are k)).1) [
        | inl n ↦ put.sound.put_in.second_named w n
        | inr n ↦ put.sound.put_in.first_named w n
      ]

  same_rows : SameRows (system_in d) (reached_system m x c)
  same_rows =
      let sound : IsDictionary d = put.sound in
      let own : IsSystem (system_in d) = system_is d sound in
      let s : System = reached_system m x c in
      record {
        variables = names_are d sound ∙ ascending_same d.names s.variables sound.ascending variables_rise variable_to variable_back;
        columns = same_columns m x c market (worths m) d put;
        rows = ascending_same (system_in d).rows s.rows own.rows_ascend rows_rise (λ w k. row_to w (row_in d sound w k)) (λ w k. row_of d sound w (row_back w k));
        coefficient = same_coefficient m x c market (worths m) d put (λ v k. k);
      }

-- with all rows it holds them
pub put_in_holds : (m : Parts) (x : Dispatch) (d : Dictionary) → IsMarket m → HasPutIn m (columns_put m x) (worths m) d → HoldsPrices m x d
put_in_holds m x d market put = record {
  live = put.live;
  sound = put.sound;
  same = λ c. same_rows m x c market d put;
  columns = put.columns_named;
  rows = put.rows_named;
}
