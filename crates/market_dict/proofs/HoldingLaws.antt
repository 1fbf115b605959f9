-- What a dictionary that holds a market says of it.
use Rattle.std.specs.Prelude.{◌≡◌, ◌≢◌, ℕ, ◌+◌, ◌<◌, pos, Bool, true, false, List, [], ◌∷◌, ◌++◌, length, map, slice_index, All, AllPairs, Contains, refl}
use Rattle.std.proofs.Common.{zero, suc, arith, ap, ap₂, sym, ◌∙◌, subst, subst₂, inl, inr, get_or}
use Rattle.std.proofs.lemmas.List.{append-nil, append_assoc, length-map, get_or-map, get_or-append-add, get_or_append_left, map-append}
use Rattle.std.proofs.lemmas.List.Elements.{Contains-append_cases}
use Rattle.std.proofs.lemmas.List.Kept.{AllPairs-from_increasing}
use Rattle.fraction_theory.specs.Fraction.{Fraction, whole, neg_ℚ, ◌-ℚ◌}
use Rattle.fraction_theory.specs.Order.{◌≤ℚ◌}
use Rattle.fraction_theory.specs.Signs.{part_above}
use Rattle.fraction_theory.proofs.OrderLaws.{≤ℚ_refl, ≤ℚ_trans, by_le1, NonNeg-one, NonNeg-plus, whole-≤ℚ}
use Rattle.fraction_theory.proofs.Ring.{at, pnil, pone, pneg, ◌⊕◌}
use Rattle.fraction_theory.proofs.ListSums.{Contains-head, Contains-cons, Contains-cases, Contains-filter, Contains-from_filter}
use Rattle.fraction_theory.proofs.SignLaws.{part_least}
use Rattle.exact_fraction.specs.declared.Passed.{Passed}
use Rattle.linear_system.specs.Choices.{IsChoice, value, reduced}
use Rattle.linear_system.specs.SameSystems.{SameRows, SameSystem}
use Rattle.linear_system.specs.Systems.{System, IsSystem}
use Rattle.linear_system.proofs.SameSystems.{same_choice_of, same_pair, same_rows_choice}
use Rattle.linear_dict.specs.Causes.{IsPairOf, IsPairWith}
use Rattle.linear_dict.specs.Dictionaries.{Dictionary, IsDictionary, IsStart, AddsColumn, AddsRow, system_in, choice_of, note_of}
use Rattle.linear_dict.specs.Places.{is_among}
use Rattle.linear_dict.proofs.ColumnLaws as column
use Rattle.linear_dict.proofs.NameLemmas.{among-tells, among-from}
use Rattle.linear_dict.proofs.SplitLemmas.{system_is}
use Rattle.simplex_theory.specs.States.{IsSolved}
use Rattle.simplex_theory.proofs.SameStates.{same_value, same_reduced, same_solved, same_stuck, alike_solved}
use Rattle.simplex_core.specs.Outcomes.{Keeps, ShowsChoice, IsEmptyAt}
use Rattle.simplex_core.specs.Posings.{IsPosing, IsPairPosed}
use Rattle.simplex_core.specs.States.{state_of}
use Rattle.simplex_core.specs.declared.bounds.Bounds.{Bounds}
use Rattle.market_model.specs.declared.participants.Parts.{Parts}
use Rattle.market_model.specs.Dispatch.{places, zero as nil, block_at, offer_at, unit_at, empty}
use Rattle.market_model.specs.Frame.{SameFrame}
use Rattle.market_model.specs.declared.limits.Row.{Row}
use Rattle.market_model.specs.LimitRows.{rows, limit, flow, is_soft}
use Rattle.market_model.specs.Market.{IsMarket}
use Rattle.market_model.specs.Optimality.{all_of}
use Rattle.market_model.specs.Reserves.{reserve_need}
use Rattle.market_model.proofs.Excesses.{limit_least}
use Rattle.market_model.proofs.RoomLemmas.{listed-inside}
use Rattle.limit_rows.proofs.ApartLemmas.{names_apart}
use Rattle.market_system.specs.declared.variables.Variable.{Variable}
use Rattle.market_system.specs.declared.variables.Variable.TheVariants.{Block, Balance, Limit, Over, Under, Offer, Need, Room}
use Rattle.market_system.specs.MarketSystem.{balance_name, over_name, under_name, taken_in_order, residual_demand, reserve_offered, name, coefficient, objective_price, low, high, system_of, system_over, row_variables, columns as market_columns, variable_of, IsVariableOf, block_columns, offer_columns}
use Rattle.market_system.specs.SolvedLaws.{AnswersBy, StuckShows, state_at}
use Rattle.market_system.proofs.DualLists.{rows_apart}
use Rattle.market_system.proofs.FrameLaws.{law_of_the_frame, rows_in_turn, same_names}
use Rattle.market_system.proofs.LawsOfSolving.{law_of_the_solved, law_of_the_stuck}
use Rattle.market_system.proofs.RowOrder.{AreInOrder}
use Rattle.market_system.proofs.SoftRows.{most_excess_least}
use Rattle.market_system.proofs.VariableLaws as law
use Rattle.market_system.proofs.VariableLaws.{mapped, in_mapped}
use Rattle.market_dict.specs.declared.taking.Taking.{Taking}
use Rattle.market_dict.specs.declared.taking.Taking.TheVariants as taking
use Rattle.market_dict.specs.Holding.{HasPutIn, HoldsMarket, HoldsSystem, column_prices, lows, highs}
use Rattle.market_dict.specs.Takings.{limits_of, rooms_of, taken_of, AreTakings, columns_put, rows_put}
use Rattle.market_dict.proofs.ColumnLists.{columns_limit, columns_room, soft_columns, hard_columns, own_nil}
use Rattle.market_dict.proofs.PutInLemmas.{start_coefficient, kept_coefficient, added_coefficient, same_put_in}
use Rattle.market_dict.proofs.TakingLists.{no_takings, one_limit_more, row_put, row_is, column_is, put_is, column_or_row, no_put_column, rows_bare, all_in_order, of_all, from_order, to_order, put_to_rows, put_to_columns, put_from_rows, put_from_columns, columns_in_frame, rows_in_frame, units_in_frame}
use Rattle.market_dict.proofs.NameLists.{ascending_same}

-- ---- the lists as put in
-- what a mapped list has at the place of a member
at_member : {X Y : Type 0} (f : X → Y) (xs : List X) (x : X) (c : Contains xs x) (d : Y) → get_or (map f xs) c.0 d ≡ f x
at_member f xs x c d = get_or-map f xs c.0 x d c.1 ∙ ap f c.2

-- a list has what stands at a place of it
pub at_place : {X : Type 0} (xs : List X) (k : ℕ) (d : X) → k < length xs → Contains xs (get_or xs k d)
at_place [] k d lt = absurd (Prim.omega (arith, lt))
at_place (x ∷ xs) zero d lt = Contains-head x xs
at_place (x ∷ xs) (suc k) d lt = Contains-cons x xs (get_or xs k d) (at_place xs k d (Prim.omega (arith, lt)))

alone : {X : Type 0} (x y : X) → Contains (x ∷ []) y → y ≡ x
alone x y h = elim (Contains-cases x [] y h) [ inl e ↦ sym e | inr n ↦ absurd (Prim.omega (arith, n.1)) ]

module _ (m : Parts) (cs rs : List Variable) (d : Dictionary) (columns_named : d.columns ≡ map (name m) cs) (rows_named : d.rows ≡ map (name m) rs) where
  row_taken : (v : Variable) → Contains rs v → Contains d.rows (name m v)
  row_taken v c = subst (λ (ws : List ℕ). Contains ws (name m v)) (sym rows_named) (in_mapped (name m) rs v c)

  column_taken : (v : Variable) → Contains cs v → Contains d.columns (name m v)
  column_taken v c = subst (λ (ws : List ℕ). Contains ws (name m v)) (sym columns_named) (in_mapped (name m) cs v c)

  taken_row : (w : ℕ) → Contains d.rows w → (v : Variable) × Contains rs v × (name m v ≡ w)
  taken_row w c = mapped (name m) rs w (subst (λ (ws : List ℕ). Contains ws w) rows_named c)

  taken_column : (w : ℕ) → Contains d.columns w → (v : Variable) × Contains cs v × (name m v ≡ w)
  taken_column w c = mapped (name m) cs w (subst (λ (ws : List ℕ). Contains ws w) columns_named c)

-- each variable is there
pub variable_named : (m : Parts) (ts : List Taking) (d : Dictionary) → HoldsMarket m ts d → (v : Variable) → IsVariableOf m (taken_of ts) v → Contains d.names (name m v)
variable_named m ts d holds v is = elim (column_or_row m ts v is) [
  | inl c ↦ holds.sound.put_in.second_named (name m v) (column_taken m (columns_put m ts) (rows_put m ts) d holds.columns holds.rows v c)
  | inr c ↦ holds.sound.put_in.first_named (name m v) (row_taken m (columns_put m ts) (rows_put m ts) d holds.columns holds.rows v c)
]

-- ---- the names and the columns of its system
module _ (d : Dictionary) (sound : IsDictionary d) where
  column_in : (w : ℕ) → Contains (system_in d).columns w → Contains d.columns w
  unfolding system_in
  column_in w c = among-from d.columns w (Contains-from_filter (is_among d.columns) d.names w c).1

  row_in : (w : ℕ) → Contains (system_in d).rows w → Contains d.rows w
  unfolding system_in
  row_in w c = among-from d.rows w (Contains-from_filter (is_among d.rows) d.names w c).1

  column_of : (w : ℕ) → Contains d.columns w → Contains (system_in d).columns w
  unfolding system_in
  column_of w c = Contains-filter (is_among d.columns) d.names w (sound.put_in.second_named w c) (among-tells d.columns w c)

  row_of : (w : ℕ) → Contains d.rows w → Contains (system_in d).rows w
  unfolding system_in
  row_of w c = Contains-filter (is_among d.rows) d.names w (sound.put_in.first_named w c) (among-tells d.rows w c)

  names_are : (system_in d).variables ≡ d.names
  unfolding system_in
  names_are = refl

-- the market's system over limits and rooms
module _ (m : Parts) (market : IsMarket m) (ts : List Taking) where
  ordered : AreInOrder m (taken_in_order m (taken_of ts))
  ordered = law.taken-in_order m (rows_apart m (names_apart m market)) (taken_of ts)

  system : IsSystem (system_of m (taken_of ts))
  system = law.is_system_over m (taken_in_order m (taken_of ts)) ordered

  entry_is : AreTakings m ts → (r j : Variable) → Contains (rows_put m ts) r → Contains (columns_put m ts) j → (system_of m (taken_of ts)).coefficient (name m r) (name m j) ≡ coefficient m r j
  entry_is are r j c k = law.coefficient-at m (taken_in_order m (taken_of ts)) ordered r j (to_order m ts are r (row_is m ts r c)) (to_order m ts are j (column_is m ts j k))

-- a dictionary with these columns, rows and coefficients has the market's rows
module _ (m : Parts) (ts : List Taking) (d : Dictionary) (market : IsMarket m) (are : AreTakings m ts) (put : HasPutIn m (columns_put m ts) (rows_put m ts) d) where
  -- the names of the system's rows and columns
  rows_named : (system_of m (taken_of ts)).rows ≡ map (name m) (row_variables m (taken_in_order m (taken_of ts)))
  unfolding system_over
  rows_named = refl

  columns_named : (system_of m (taken_of ts)).columns ≡ map (name m) (market_columns m (taken_in_order m (taken_of ts)))
  unfolding system_over
  columns_named = refl

  row_to : (w : ℕ) → Contains d.rows w → Contains (system_of m (taken_of ts)).rows w
  row_to w c =
      let v = taken_row m (columns_put m ts) (rows_put m ts) d put.columns_named put.rows_named w c in
      subst (λ (ws : List ℕ). Contains ws w) (sym rows_named)
      (subst (Contains (map (name m) (row_variables m (taken_in_order m (taken_of ts))))) v.2 (in_mapped (name m) (row_variables m (taken_in_order m (taken_of ts))) v.0 (put_to_rows m ts are v.0 v.1)))

  row_back : (w : ℕ) → Contains (system_of m (taken_of ts)).rows w → Contains d.rows w
  row_back w c =
      let v = mapped (name m) (row_variables m (taken_in_order m (taken_of ts))) w (subst (λ (ws : List ℕ). Contains ws w) rows_named c) in
      subst (Contains d.rows) v.2 (row_taken m (columns_put m ts) (rows_put m ts) d put.columns_named put.rows_named v.0 (put_from_rows m ts v.0 v.1))

  column_to : (w : ℕ) → Contains d.columns w → Contains (system_of m (taken_of ts)).columns w
  column_to w c =
      let v = taken_column m (columns_put m ts) (rows_put m ts) d put.columns_named put.rows_named w c in
      subst (λ (ws : List ℕ). Contains ws w) (sym columns_named)
      (subst (Contains (map (name m) (market_columns m (taken_in_order m (taken_of ts))))) v.2 (in_mapped (name m) (market_columns m (taken_in_order m (taken_of ts))) v.0 (put_to_columns m ts are v.0 v.1)))

  column_back : (w : ℕ) → Contains (system_of m (taken_of ts)).columns w → Contains d.columns w
  column_back w c =
      let v = mapped (name m) (market_columns m (taken_in_order m (taken_of ts))) w (subst (λ (ws : List ℕ). Contains ws w) columns_named c) in
      subst (Contains d.columns) v.2 (column_taken m (columns_put m ts) (rows_put m ts) d put.columns_named put.rows_named v.0 (put_from_columns m ts v.0 v.1))

  -- the names ascend in the market's order, whatever the order in which they were put in
  put_in_rows : SameRows (system_in d) (system_of m (taken_of ts))
  put_in_rows =
      let sound : IsDictionary d = put.sound in
      let own : IsSystem (system_in d) = system_is d sound in
      let s : System = system_of m (taken_of ts) in
      let its : IsSystem s = system m market ts in
      record {
        variables = names_are d sound
            ∙ ascending_same d.names s.variables sound.ascending its.ascending
            (λ w c. elim (sound.put_in.either w c) [ inl k ↦ its.row w (row_to w k) | inr k ↦ its.column w (column_to w k) ])
            (λ w c. elim (its.either w c) [ inl k ↦ sound.put_in.second_named w (column_back w k) | inr k ↦ sound.put_in.first_named w (row_back w k) ]);
        columns = ascending_same (system_in d).columns s.columns own.columns_ascend its.columns_ascend (λ w c. column_to w (column_in d sound w c)) (λ w c. column_of d sound w (column_back w c));
        rows = ascending_same (system_in d).rows s.rows own.rows_ascend its.rows_ascend (λ w c. row_to w (row_in d sound w c)) (λ w c. row_of d sound w (row_back w c));
        coefficient = λ r j c k.
            let u = taken_row m (columns_put m ts) (rows_put m ts) d put.columns_named put.rows_named r (row_in d sound r c) in
            let v = taken_column m (columns_put m ts) (rows_put m ts) d put.columns_named put.rows_named j (column_in d sound j k) in
            subst₂ (λ (x y : ℕ). (system_in d).coefficient x y ≡ s.coefficient x y) u.2 v.2 (put.entries u.0 v.0 u.1 v.1 ∙ sym (entry_is m market ts are u.0 v.0 u.1 v.1));
      }

  pub put_in_holds : HoldsMarket m ts d
  put_in_holds = record { live = put.live; sound = put.sound; same = put_in_rows; columns = put.columns_named; rows = put.rows_named; takings = are }

-- as it was put in
has_put_in : (m : Parts) (ts : List Taking) (d : Dictionary) → IsMarket m → HoldsMarket m ts d → HasPutIn m (columns_put m ts) (rows_put m ts) d
has_put_in m ts d market holds = record {
  live = holds.live;
  sound = holds.sound;
  columns_named = holds.columns;
  rows_named = holds.rows;
  entries = λ r j c k.
      holds.same.coefficient (name m r) (name m j) (row_of d holds.sound (name m r) (row_taken m (columns_put m ts) (rows_put m ts) d holds.columns holds.rows r c))
      (column_of d holds.sound (name m j) (column_taken m (columns_put m ts) (rows_put m ts) d holds.columns holds.rows j k))
      ∙ entry_is m market ts holds.takings r j c k;
}

-- its choice is one of the market's
pub holds_choice : (m : Parts) (ts : List Taking) (d : Dictionary) → HoldsMarket m ts d → IsChoice (system_of m (taken_of ts)) (choice_of d)
holds_choice m ts d holds = same_rows_choice (system_in d) (system_of m (taken_of ts)) holds.same (choice_of d) (holds.sound.solutions holds.live)

-- variables of one name are one
one_variable : (m : Parts) → IsMarket m → (u v : Variable) → IsVariableOf m (all_of m) u → IsVariableOf m (all_of m) v → name m u ≡ name m v → u ≡ v
one_variable m market u v is_u is_v e =
    let at_name = law.variable_at m (all_of m) (all_in_order m market) in
    sym (at_name u is_u) ∙ ap (variable_of m (all_of m)) e ∙ at_name v is_v

-- a variable that was not put in has a name that is not there
module _ (m : Parts) (market : IsMarket m) (cs rs : List Variable) (d : Dictionary) (put : HasPutIn m cs rs d)
    (known : (v : Variable) → Contains cs v → IsVariableOf m (all_of m) v) (known_row : (v : Variable) → Contains rs v → IsVariableOf m (all_of m) v) where
  name_is_new : (v : Variable) → IsVariableOf m (all_of m) v → ¬ (Contains cs v) → ¬ (Contains rs v) → ¬ (Contains d.names (name m v))
  name_is_new v is no_column no_row named = elim (put.sound.put_in.either (name m v) named) [
    | inl k ↦
        let u = taken_row m cs rs d put.columns_named put.rows_named (name m v) k in
        no_row (subst (Contains rs) (one_variable m market u.0 v (known_row u.0 u.1) is u.2) u.1)
    | inr k ↦
        let u = taken_column m cs rs d put.columns_named put.rows_named (name m v) k in
        no_column (subst (Contains cs) (one_variable m market u.0 v (known u.0 u.1) is u.2) u.1)
  ]

-- ---- the start, a column or a row more, an edit
-- the balance over some columns
pub start_put : {N : Type 0} (value : N → Fraction) (m : Parts) (cs : List Variable) (names : List ℕ) (entries : List N) (d : Dictionary) → names ≡ map (name m) cs
    → map value entries ≡ map (coefficient m Balance) cs → IsStart value names (balance_name m) entries d → HasPutIn m cs (Balance ∷ []) d
start_put value m cs names entries d named signs start = record {
  live = start.live;
  sound = start.sound;
  columns_named = start.columns ∙ named;
  rows_named = start.rows;
  entries = λ r j c k. subst (λ (v : Variable). (system_in d).coefficient (name m v) (name m j) ≡ coefficient m v j) (sym (alone Balance r c)) (at_balance j k);
}
  where
    at_balance : (j : Variable) → Contains cs j → (system_in d).coefficient (balance_name m) (name m j) ≡ coefficient m Balance j
    at_balance j k =
        let here : slice_index names k.0 ≡ name m j = ap (λ (ns : List ℕ). slice_index ns k.0) named ∙ at_member (name m) cs j k 0 in
        let long : length names ≡ length cs = ap length named ∙ length-map cs (name m) in
        ap ((system_in d).coefficient (balance_name m)) (sym here)
        ∙ start_coefficient value names (balance_name m) entries d start k.0 (Prim.omega (arith, long, k.1))
        ∙ ap (λ (xs : List Fraction). get_or xs k.0 nil) signs ∙ at_member (coefficient m Balance) cs j k nil

-- the names of the columns at the start are distinct, and the balance has another
module _ (m : Parts) (market : IsMarket m) where
  columns_first : columns_put m [] ≡ market_columns m (taken_of [])
  columns_first = append-nil (block_columns m ++ offer_columns m) ∙ sym (ap (λ (vs : List Variable). vs ++ offer_columns m) (append-nil (block_columns m)))

  names_first : map (name m) (columns_put m []) ≡ (system_of m (taken_of [])).columns
  unfolding system_over
  names_first = ap (map (name m)) columns_first

  pub first_distinct : AllPairs (λ (a b : ℕ). a ≢ b) (map (name m) (columns_put m []))
  first_distinct = subst (AllPairs (λ (a b : ℕ). a ≢ b)) (sym names_first)
      (λ i j d lt h e. let less = AllPairs-from_increasing (system_of m (taken_of [])).columns (system m market []).columns_ascend i j d lt h in absurd (Prim.omega (arith, less, e)))

  pub balance_absent : ¬ (Contains (map (name m) (columns_put m [])) (balance_name m))
  balance_absent c = (system m market []).apart (balance_name m) (subst (λ (ws : List ℕ). Contains ws (balance_name m)) names_first c) (law.row_listed m (taken_of []) Balance (law.balance_in m (taken_of [])))

-- that is all, where no reserve is cleared
pub holds_start : (m : Parts) (d : Dictionary) → IsMarket m → m.reserve.listed ≡ false → HasPutIn m (columns_put m []) (Balance ∷ []) d → HoldsMarket m [] d
holds_start m d market unlisted put = put_in_holds m [] d market (no_takings m) (subst (λ (rs : List Variable). HasPutIn m (columns_put m []) rs d) (sym (rows_bare m unlisted)) put)

-- a column that counts nothing in the rows so far
put_column : (m : Parts) (cs rs : List Variable) (d new : Dictionary) (v : Variable) → HasPutIn m cs rs d → ((r : Variable) → Contains rs r → coefficient m r v ≡ nil)
    → AddsColumn d (name m v) new → HasPutIn m (cs ++ v ∷ []) rs new
put_column m cs rs d new v put nothing adds = record {
  live = adds.live;
  sound = adds.sound;
  columns_named = adds.columns ∙ ap (λ (ws : List ℕ). ws ++ name m v ∷ []) put.columns_named ∙ sym (map-append (name m) cs (v ∷ []));
  rows_named = adds.rows ∙ put.rows_named;
  entries = λ r j c k. elim (Contains-append_cases cs (v ∷ []) j k) [
    | inl l ↦
        column.kept_coefficient d new (name m v) put.sound adds (name m r) (name m j) (row_taken m cs rs d put.columns_named put.rows_named r c) (column_taken m cs rs d put.columns_named put.rows_named j l)
        ∙ put.entries r j c l
    | inr l ↦ subst (λ (x : Variable). (system_in new).coefficient (name m r) (name m x) ≡ coefficient m r x) (sym (alone v j l))
        (column.nil_coefficient d new (name m v) put.sound adds (name m r) (row_taken m cs rs d put.columns_named put.rows_named r c) ∙ sym (nothing r c))
  ];
}

-- a row over these columns
put_row : {N : Type 0} (value : N → Fraction) (m : Parts) (cs rs : List Variable) (v : Variable) (entries : List N) (d new : Dictionary) → HasPutIn m cs rs d
    → map value entries ≡ map (coefficient m v) cs → AddsRow value d (name m v) entries new → HasPutIn m cs (rs ++ v ∷ []) new
put_row value m cs rs v entries d new put factors adds = record {
  live = adds.live;
  sound = adds.sound;
  columns_named = adds.columns ∙ put.columns_named;
  rows_named = adds.rows ∙ ap (λ (ws : List ℕ). ws ++ name m v ∷ []) put.rows_named ∙ sym (map-append (name m) rs (v ∷ []));
  entries = λ r j k l. elim (Contains-append_cases rs (v ∷ []) r k) [
    | inl h ↦ old r j h l
    | inr h ↦ subst (λ (x : Variable). (system_in new).coefficient (name m x) (name m j) ≡ coefficient m x j) (sym (alone v r h)) (added j l)
  ];
}
  where
    old : (r j : Variable) → Contains rs r → Contains cs j → (system_in new).coefficient (name m r) (name m j) ≡ coefficient m r j
    old r j k l =
        kept_coefficient value d new (name m v) entries put.sound adds (name m r) (name m j) (row_taken m cs rs d put.columns_named put.rows_named r k) (column_taken m cs rs d put.columns_named put.rows_named j l)
        ∙ put.entries r j k l

    added : (j : Variable) → Contains cs j → (system_in new).coefficient (name m v) (name m j) ≡ coefficient m v j
    added j l =
        let here : slice_index d.columns l.0 ≡ name m j = ap (λ (ws : List ℕ). slice_index ws l.0) put.columns_named ∙ at_member (name m) cs j l 0 in
        let long : length d.columns ≡ length cs = ap length put.columns_named ∙ length-map cs (name m) in
        ap ((system_in new).coefficient (name m v)) (sym here)
        ∙ added_coefficient value d new (name m v) entries put.sound adds l.0 (Prim.omega (arith, long, l.1))
        ∙ ap (λ (xs : List Fraction). get_or xs l.0 nil) factors ∙ at_member (coefficient m v) cs j l nil

-- the last row of takings, over their columns
module _ (m : Parts) (market : IsMarket m) (ts : List Taking) (are : AreTakings m ts) (rs : List Variable) (v : Variable) (split : rows_put m ts ≡ rs ++ v ∷ []) (d : Dictionary)
    (put : HasPutIn m (columns_put m ts) rs d) where
  listed : Contains (rows_put m ts) v
  listed = subst (λ (us : List Variable). Contains us v) (sym split) (in_last rs)
    where
      in_last : (us : List Variable) → Contains (us ++ v ∷ []) v
      in_last [] = Contains-head v []
      in_last (u ∷ us) = Contains-cons u (us ++ v ∷ []) v (in_last us)

  of_rows : (u : Variable) → Contains rs u → Contains (rows_put m ts) u
  of_rows u c = subst (λ (us : List Variable). Contains us u) (sym split) (before rs c)
    where
      before : (us : List Variable) → Contains us u → Contains (us ++ v ∷ []) u
      before [] k = absurd (Prim.omega (arith, k.1))
      before (x ∷ us) k = elim (Contains-cases x us u k) [ inl e ↦ subst (λ (y : Variable). Contains ((x ∷ us) ++ v ∷ []) y) e (Contains-head x (us ++ v ∷ [])) | inr l ↦ Contains-cons x (us ++ v ∷ []) u (before us l) ]

  pub row_is_new : ¬ (Contains rs v) → ¬ (Contains d.names (name m v))
  row_is_new absent = name_is_new m market (columns_put m ts) rs d put (λ u c. of_all m ts are u (column_is m ts u c)) (λ u c. of_all m ts are u (row_is m ts u (of_rows u c)))
      v (of_all m ts are v (row_is m ts v listed)) (no_put_column m ts v listed) absent

  module _ {N : Type 0} (value : N → Fraction) (entries : List N) (factors : map value entries ≡ map (coefficient m v) (columns_put m ts)) where
    pub entry_count : length entries ≡ length d.columns
    entry_count = sym (length-map entries value) ∙ ap length factors ∙ length-map (columns_put m ts) (coefficient m v) ∙ sym (ap length put.columns_named ∙ length-map (columns_put m ts) (name m))

    pub holds_taken : (new : Dictionary) → AddsRow value d (name m v) entries new → HoldsMarket m ts new
    holds_taken new adds =
        put_in_holds m ts new market are (subst (λ (us : List Variable). HasPutIn m (columns_put m ts) us new) (sym split) (put_row value m (columns_put m ts) rs v entries d new put factors adds))

    -- a working pair of the dictionary with it is one of the market's system
    pub pair_taken : (bound : ℕ) (p : Passed N) → IsPairWith value bound d (name m v) entries p → IsPairOf value bound (system_of m (taken_of ts)) p
    pair_taken bound p pair = pair.2 (system_of m (taken_of ts)) (holds_taken pair.0 pair.1).same

pub need_is_no_balance : ¬ (Contains (Balance ∷ []) Need)
need_is_no_balance c = let e : Need ≡ Balance = alone Balance Need c in absurd Prim.cc

-- a row is one of those of a dictionary, whatever takings this holds the market over
module _ (m : Parts) (market : IsMarket m) (ts us : List Taking) (d : Dictionary) (holds : HoldsMarket m ts d) (other : HoldsMarket m us d) where
  row_in_both : (v : Variable) → Contains (rows_put m us) v → Contains (rows_put m ts) v
  row_in_both v c =
      let u = taken_row m (columns_put m ts) (rows_put m ts) d holds.columns holds.rows (name m v) (row_taken m (columns_put m us) (rows_put m us) d other.columns other.rows v c) in
      subst (Contains (rows_put m ts)) (one_variable m market u.0 v (of_all m ts holds.takings u.0 (row_is m ts u.0 u.1)) (of_all m us other.takings v (row_is m us v c)) u.2) u.1

  pub limit_absent_from : (r : Row) → ¬ (Contains (limits_of ts) r) → ¬ (Contains (limits_of us) r)
  limit_absent_from r absent c = absent (row_is m ts (Limit r) (row_in_both (Limit r) (row_put m us (Limit r) (law.limit_in m (taken_of us) r c))))

  pub room_absent_from : (u : ℕ) → ¬ (Contains (rooms_of ts) u) → ¬ (Contains (rooms_of us) u)
  room_absent_from u absent c = absent (row_is m ts (Room u) (row_in_both (Room u) (row_put m us (Room u) (law.room_in m (taken_of us) u c))))

-- so many columns it has
pub put_count : (m : Parts) (ts : List Taking) (d : Dictionary) → HoldsMarket m ts d → (n : ℕ) → n ≡ length d.others → n ≡ length (columns_put m ts)
put_count m ts d holds n is = is ∙ sym holds.sound.column_count ∙ ap length holds.columns ∙ length-map (columns_put m ts) (name m)

-- a limit that was not taken
module _ (m : Parts) (market : IsMarket m) (ts : List Taking) (d : Dictionary) (r : Row) (holds : HoldsMarket m ts d) (c : Contains (rows m) r) (absent : ¬ (Contains (limits_of ts) r)) where
  known_column : (v : Variable) → Contains (columns_put m ts) v → IsVariableOf m (all_of m) v
  known_column v k = of_all m ts holds.takings v (column_is m ts v k)

  known_row : (v : Variable) → Contains (rows_put m ts) v → IsVariableOf m (all_of m) v
  known_row v k = of_all m ts holds.takings v (row_is m ts v k)

  -- its first column
  pub over_is_new : is_soft m r ≡ true → ¬ (Contains d.names (over_name m r))
  over_is_new soft = name_is_new m market (columns_put m ts) (rows_put m ts) d (has_put_in m ts d market holds) known_column known_row (Over r) (c, soft)
      (λ k. absent (column_is m ts (Over r) k).0) (λ k. absent (row_is m ts (Over r) k).0)

  first_put : (one : Dictionary) → AddsColumn d (over_name m r) one → HasPutIn m (columns_put m ts ++ Over r ∷ []) (rows_put m ts) one
  first_put one adds = put_column m (columns_put m ts) (rows_put m ts) d one (Over r) (has_put_in m ts d market holds) (λ v k. (own_nil m ts r absent v k).0) adds

  -- its second one
  pub under_is_new : (one : Dictionary) → is_soft m r ≡ true → AddsColumn d (over_name m r) one → ¬ (Contains one.names (under_name m r))
  under_is_new one soft adds = name_is_new m market (columns_put m ts ++ Over r ∷ []) (rows_put m ts) one (first_put one adds) known_first known_row (Under r) (c, soft)
      (λ k. elim (Contains-append_cases (columns_put m ts) (Over r ∷ []) (Under r) k) [ inl l ↦ absent (column_is m ts (Under r) l).0 | inr l ↦ let e : Under r ≡ Over r = alone (Over r) (Under r) l in absurd Prim.cc ])
      (λ k. absent (row_is m ts (Under r) k).0)
    where
      known_first : (v : Variable) → Contains (columns_put m ts ++ Over r ∷ []) v → IsVariableOf m (all_of m) v
      known_first v k = elim (Contains-append_cases (columns_put m ts) (Over r ∷ []) v k) [ inl l ↦ known_column v l | inr l ↦ subst (IsVariableOf m (all_of m)) (sym (alone (Over r) v l)) (c, soft) ]

  pub soft_put : (one two : Dictionary) → is_soft m r ≡ true → AddsColumn d (over_name m r) one → AddsColumn one (under_name m r) two → HasPutIn m (columns_put m (ts ++ taking.Limit r ∷ [])) (rows_put m ts) two
  soft_put one two soft first second =
      let both : HasPutIn m ((columns_put m ts ++ Over r ∷ []) ++ Under r ∷ []) (rows_put m ts) two =
      put_column m (columns_put m ts ++ Over r ∷ []) (rows_put m ts) one two (Under r) (first_put one first) (λ v k. (own_nil m ts r absent v k).1) second in
      subst (λ (vs : List Variable). HasPutIn m vs (rows_put m ts) two)
      (append_assoc (columns_put m ts) (Over r ∷ []) (Under r ∷ []) ∙ sym (columns_limit m ts r ∙ ap (λ (vs : List Variable). columns_put m ts ++ vs) (soft_columns m r soft))) both

  pub hard_put : is_soft m r ≡ false → HasPutIn m (columns_put m (ts ++ taking.Limit r ∷ [])) (rows_put m ts) d
  hard_put hard =
      subst (λ (vs : List Variable). HasPutIn m vs (rows_put m ts) d)
      (sym (columns_limit m ts r ∙ ap (λ (vs : List Variable). columns_put m ts ++ vs) (hard_columns m r hard) ∙ append-nil (columns_put m ts))) (has_put_in m ts d market holds)

  -- and its row
  pub limit_more : AreTakings m (ts ++ taking.Limit r ∷ [])
  limit_more = one_limit_more m ts r holds.takings c absent

  pub limit_no_row : ¬ (Contains (rows_put m ts) (Limit r))
  limit_no_row k = absent (row_is m ts (Limit r) k)

-- a room that was not taken
module _ (m : Parts) (market : IsMarket m) (ts : List Taking) (d : Dictionary) (u : ℕ) (holds : HoldsMarket m ts d) where
  pub room_put_in : HasPutIn m (columns_put m (ts ++ taking.Room u ∷ [])) (rows_put m ts) d
  room_put_in = subst (λ (vs : List Variable). HasPutIn m vs (rows_put m ts) d) (sym (columns_room m ts u)) (has_put_in m ts d market holds)

  pub room_no_row : ¬ (Contains (rooms_of ts) u) → ¬ (Contains (rows_put m ts) (Room u))
  room_no_row absent k = absent (row_is m ts (Room u) k)

pub holds_in_frame : (m n : Parts) (ts : List Taking) (d : Dictionary) → SameFrame m n → HoldsMarket m ts d → HoldsMarket n ts d
holds_in_frame m n ts d same holds =
    let frame = law_of_the_frame m n (taken_of ts) same in
    record {
      live = holds.live;
      sound = holds.sound;
      same = rows_in_turn (system_in d) (system_of m (taken_of ts)) (system_of n (taken_of ts)) holds.same frame.1;
      columns = holds.columns ∙ ap₂ map (same_names m n same) (columns_in_frame m n same ts);
      rows = holds.rows ∙ ap₂ map (same_names m n same) (rows_in_frame m n same ts);
      takings = record {
        taken = record {
          limits = record { rows = λ r c. subst (λ (rs : List Row). Contains rs r) frame.0.rows (holds.takings.taken.limits.rows r c); distinct = holds.takings.taken.limits.distinct };
          rooms = λ u c. subst (λ (us : List ℕ). Contains us u) (units_in_frame m n same) (holds.takings.taken.rooms u c);
        };
        rooms_distinct = holds.takings.rooms_distinct;
      };
    }

-- a dictionary with the same lists holds it too
pub holds_same : (m : Parts) (ts : List Taking) (d e : Dictionary) → HoldsMarket m ts d → e.spent ≡ false → IsDictionary e → e.columns ≡ d.columns → e.rows ≡ d.rows → e.coefficients ≡ d.coefficients → e.names ≡ d.names → HoldsMarket m ts e
holds_same m ts d e holds live sound columns rows coefficients names = record {
  live = live;
  sound = sound;
  same = rows_in_turn (system_in e) (system_in d) (system_of m (taken_of ts)) (same_put_in d e columns rows coefficients names) holds.same;
  columns = columns ∙ holds.columns;
  rows = rows ∙ holds.rows;
  takings = holds.takings;
}

-- ---- posed at the market's prices and bounds
module _ {N : Type 0} (value_of : N → Fraction) (m : Parts) (ts : List Taking) (d : Dictionary) (ps : List N) (bounds : List (Bounds N)) (e : Dictionary) (market : IsMarket m)
    (holds : HoldsMarket m ts d) (priced : map value_of ps ≡ column_prices m ts) (low_list : map (λ b. value_of b.low) bounds ≡ lows m ts) (high_list : map (λ b. value_of b.high) bounds ≡ highs m ts)
    (posing : IsPosing value_of d ps bounds e) where
  posed : HoldsMarket m ts e
  posed = holds_same m ts d e holds posing.ready.live posing.ready.sound posing.columns posing.rows posing.coefficients posing.names

  count : length d.columns ≡ length (columns_put m ts)
  count = ap length holds.columns ∙ length-map (columns_put m ts) (name m)

  row_count : length d.rows ≡ length (rows_put m ts)
  row_count = ap length holds.rows ∙ length-map (rows_put m ts) (name m)

  column_at : (v : Variable) (c : Contains (columns_put m ts) v) → slice_index d.columns c.0 ≡ name m v
  column_at v c = ap (λ (ws : List ℕ). slice_index ws c.0) holds.columns ∙ at_member (name m) (columns_put m ts) v c 0

  row_at : (v : Variable) (c : Contains (rows_put m ts) v) → slice_index d.rows c.0 ≡ name m v
  row_at v c = ap (λ (ws : List ℕ). slice_index ws c.0) holds.rows ∙ at_member (name m) (rows_put m ts) v c 0

  price_is : (v : Variable) → Contains (columns_put m ts) v → (system_in e).price (name m v) ≡ objective_price m v
  price_is v c =
      ap (system_in e).price (sym (column_at v c)) ∙ posing.price c.0 (Prim.omega (arith, count, c.1)) ∙ ap (λ (xs : List Fraction). get_or xs c.0 nil) priced
      ∙ at_member (objective_price m) (columns_put m ts) v c nil

  -- a bound of each, by the list of those handed in
  module _ (bound : ℕ → Fraction) (of : Variable → Fraction) (list : List Fraction) (is : list ≡ map of (columns_put m ts ++ rows_put m ts))
      (of_column : (k : ℕ) → k < length d.columns → bound (slice_index d.columns k) ≡ get_or list k nil) (of_row : (k : ℕ) → k < length d.rows → bound (slice_index d.rows k) ≡ get_or list (length d.columns + k) nil) where
    in_parts : list ≡ map of (columns_put m ts) ++ map of (rows_put m ts)
    in_parts = is ∙ map-append of (columns_put m ts) (rows_put m ts)

    column_count : length (map of (columns_put m ts)) ≡ length d.columns
    column_count = length-map (columns_put m ts) of ∙ sym count

    bound_is : (v : Variable) → IsVariableOf m (taken_of ts) v → bound (name m v) ≡ of v
    bound_is v among = elim (column_or_row m ts v among) [
      | inl c ↦
          ap bound (sym (column_at v c)) ∙ of_column c.0 (Prim.omega (arith, count, c.1)) ∙ ap (λ (xs : List Fraction). get_or xs c.0 nil) in_parts
          ∙ get_or_append_left (map of (columns_put m ts)) (map of (rows_put m ts)) nil c.0 (Prim.omega (arith, column_count, count, c.1))
          ∙ at_member of (columns_put m ts) v c nil
      | inr c ↦
          ap bound (sym (row_at v c)) ∙ of_row c.0 (Prim.omega (arith, row_count, c.1))
          ∙ ap₂ (λ (xs : List Fraction) (k : ℕ). get_or xs (k + c.0) nil) in_parts (sym column_count)
          ∙ get_or-append-add (map of (columns_put m ts)) (map of (rows_put m ts)) c.0 nil
          ∙ at_member of (rows_put m ts) v c nil
    ]

  taken_ones : (v : Variable) → IsVariableOf m (taken_in_order m (taken_of ts)) v → IsVariableOf m (taken_of ts) v
  taken_ones = from_order m ts

  low_is : (v : Variable) → IsVariableOf m (taken_in_order m (taken_of ts)) v → (system_in e).low (name m v) ≡ (system_of m (taken_of ts)).low (name m v)
  low_is v among = bound_is (system_in e).low (low m) (map (λ b. value_of b.low) bounds) low_list posing.column_low posing.row_low v (taken_ones v among) ∙ sym (law.low-at m (taken_in_order m (taken_of ts)) (ordered m market ts) v among)

  high_is : (v : Variable) → IsVariableOf m (taken_in_order m (taken_of ts)) v → (system_in e).high (name m v) ≡ (system_of m (taken_of ts)).high (name m v)
  high_is v among = bound_is (system_in e).high (high m) (map (λ b. value_of b.high) bounds) high_list posing.column_high posing.row_high v (taken_ones v among) ∙ sym (law.high-at m (taken_in_order m (taken_of ts)) (ordered m market ts) v among)

  price_same : (j : ℕ) → Contains (system_in e).columns j → (system_in e).price j ≡ (system_of m (taken_of ts)).price j
  price_same j c =
      let v = taken_column m (columns_put m ts) (rows_put m ts) e posed.columns posed.rows j (column_in e posed.sound j c) in
      let known = to_order m ts holds.takings v.0 (column_is m ts v.0 v.1) in
      subst (λ (x : ℕ). (system_in e).price x ≡ (system_of m (taken_of ts)).price x) v.2 (price_is v.0 v.1 ∙ sym (law.price-at m (taken_in_order m (taken_of ts)) (ordered m market ts) v.0 known))

  -- its system is the market's
  pub holds_posed : HoldsSystem m ts e
  holds_posed = record {
    holds = posed;
    same = record {
      same_rows = posed.same;
      price = price_same;
      low = λ w c. law.by_variable m (taken_in_order m (taken_of ts)) (λ (x : ℕ). (system_in e).low x ≡ (system_of m (taken_of ts)).low x) low_is w (subst (λ (ws : List ℕ). Contains ws w) posed.same.variables c);
      high = λ w c. law.by_variable m (taken_in_order m (taken_of ts)) (λ (x : ℕ). (system_in e).high x ≡ (system_of m (taken_of ts)).high x) high_is w (subst (λ (ws : List ℕ). Contains ws w) posed.same.variables c);
    };
  }

-- the low ones are at most the high ones
variable_order : (m : Parts) (ts : List Taking) → IsMarket m → AreTakings m ts → (v : Variable) → IsVariableOf m (taken_of ts) v → low m v ≤ℚ high m v
variable_order m ts market are (Block j) lt = whole-≤ℚ (pos 0) (block_at m j).quantity (market.blocks j _ lt).quantity
variable_order m ts market are Balance is = ≤ℚ_refl (residual_demand m)
variable_order m ts market are (Limit r) c =
    by_le1 (limit m r ∷ flow m (empty m) r ∷ []) (pneg (at 0) ⊕ pneg (at 1)) (at 0 ⊕ pneg (at 1)) (pone ⊕ pone) pnil (at 0) (NonNeg-plus (whole (pos 1)) (whole (pos 1)) NonNeg-one NonNeg-one)
    (limit_least m market r) refl
variable_order m ts market are (Over r) c = most_excess_least m market r
variable_order m ts market are (Under r) c = most_excess_least m market r
variable_order m ts market are (Offer n) lt = whole-≤ℚ (pos 0) (offer_at m n).quantity (market.reserve.each n _ lt).quantity
variable_order m ts market are Need e =
    by_le1 (reserve_need m ∷ part_above (reserve_offered m -ℚ reserve_need m) ∷ []) (at 0) (at 0 ⊕ at 1) pone pnil (at 1) NonNeg-one (part_least (reserve_offered m -ℚ reserve_need m)).0 refl
variable_order m ts market are (Room u) c =
    let inside : u < length m.units = listed-inside m u (are.taken.rooms u c) in
    let unit = market.units u _ inside in
    ≤ℚ_trans (neg_ℚ (whole (unit_at m u).down)) nil (whole (unit_at m u).up)
    (by_le1 (whole (unit_at m u).down ∷ []) (pneg (at 0)) pnil pone pnil (at 0) NonNeg-one (whole-≤ℚ (pos 0) (unit_at m u).down unit.down) refl)
    (whole-≤ℚ (pos 0) (unit_at m u).up unit.up)

pub bounds_ordered : {N : Type 0} (value : N → Fraction) (m : Parts) (ts : List Taking) (bounds : List (Bounds N)) → IsMarket m → AreTakings m ts
    → map (λ b. value b.low) bounds ≡ lows m ts → map (λ b. value b.high) bounds ≡ highs m ts → All (λ b. value b.low ≤ℚ value b.high) bounds
bounds_ordered {N} value m ts bounds market are low_list high_list k d lt =
    let vs : List Variable = columns_put m ts ++ rows_put m ts in
    let size : length bounds ≡ length vs = sym (length-map bounds (λ (b : Bounds N). value b.low)) ∙ ap length low_list ∙ length-map vs (low m) in
    let inside : k < length vs = Prim.omega (arith, lt, size) in
    subst₂ ◌≤ℚ◌
    (sym (get_or-map (low m) vs k Balance nil inside) ∙ ap (λ (xs : List Fraction). get_or xs k nil) (sym low_list) ∙ get_or-map (λ (b : Bounds N). value b.low) bounds k d nil lt)
    (sym (get_or-map (high m) vs k Balance nil inside) ∙ ap (λ (xs : List Fraction). get_or xs k nil) (sym high_list) ∙ get_or-map (λ (b : Bounds N). value b.high) bounds k d nil lt)
    (variable_order m ts market are (get_or vs k Balance) (put_is m ts (get_or vs k Balance) (at_place vs k Balance inside)))

-- a working pair of the dictionary that would be posed is one of the market's system
pub pair_posed : {N : Type 0} (value : N → Fraction) (bound : ℕ) (m : Parts) (ts : List Taking) (d : Dictionary) (ps : List N) (bounds : List (Bounds N)) (p : Passed N) → IsMarket m → HoldsMarket m ts d
    → map value ps ≡ column_prices m ts → map (λ b. value b.low) bounds ≡ lows m ts → map (λ b. value b.high) bounds ≡ highs m ts
    → IsPairPosed value bound d ps bounds p → IsPairOf value bound (system_of m (taken_of ts)) p
pair_posed value bound m ts d ps bounds p market holds priced low high pair =
    same_pair (system_in pair.0) (system_of m (taken_of ts)) (holds_posed value m ts d ps bounds pair.0 market holds priced low high pair.1).same bound p.op (value p.left) (value p.right) pair.2

-- ---- what a run keeps and shows
pub holds_kept : (m : Parts) (ts : List Taking) (d e : Dictionary) → HoldsSystem m ts d → Keeps d e → HoldsSystem m ts e
holds_kept m ts d e holds keeps = record {
  holds = holds_same m ts d e holds.holds keeps.ready.live keeps.ready.sound keeps.columns keeps.rows keeps.coefficients keeps.names;
  same = subst (λ (s : System). SameSystem s (system_of m (taken_of ts))) (sym keeps.system) holds.same;
}

module _ (m : Parts) (ts : List Taking) (e : Dictionary) (holds : HoldsSystem m ts e) (shows : ShowsChoice e) where
  known : (w : ℕ) → Contains e.names w → Contains (system_in e).variables w
  known w c = subst (λ (ws : List ℕ). Contains ws w) (sym (names_are e holds.holds.sound)) c

  pub shown_choice : IsChoice (system_of m (taken_of ts)) (choice_of e)
  shown_choice = same_choice_of (system_in e) (system_of m (taken_of ts)) holds.same (choice_of e) shows.choice

  pub shown_value : (w : ℕ) → Contains e.names w → (note_of e w).value ≡ value (system_of m (taken_of ts)) (choice_of e) w
  unfolding state_of
  shown_value w c = shows.values w c ∙ same_value (system_in e) (system_of m (taken_of ts)) holds.same (choice_of e) w (known w c)

  pub shown_reduced : (w : ℕ) → Contains e.names w → (note_of e w).reduced ≡ reduced (system_of m (taken_of ts)) (choice_of e) w
  unfolding state_of
  shown_reduced w c = shows.prices w c ∙ same_reduced (system_in e) (system_of m (taken_of ts)) holds.same (choice_of e) w

  named_here : (w : ℕ) → Contains (system_of m (taken_of ts)).variables w → Contains e.names w
  named_here w c = subst (λ (ws : List ℕ). Contains ws w) (sym holds.same.same_rows.variables ∙ names_are e holds.holds.sound) c

  module _ (market : IsMarket m) where
    pub solved_at : IsSolved (system_in e) (state_of e) → IsSolved (system_of m (taken_of ts)) (state_at (system_of m (taken_of ts)) (choice_of e))
    unfolding state_of
    solved_at solved = alike_solved (system_of m (taken_of ts)) (system m market ts) (state_of e) (state_at (system_of m (taken_of ts)) (choice_of e)) refl
        (λ w c. shown_value w (named_here w c)) (λ w c. shown_reduced w (named_here w c))
        (same_solved (system_in e) (system_of m (taken_of ts)) holds.same (state_of e) solved)

pub solved_answers : (m : Parts) (ts : List Taking) (e : Dictionary) → IsMarket m → HoldsSystem m ts e → ShowsChoice e → IsSolved (system_in e) (state_of e) → AnswersBy m (taken_of ts) (choice_of e)
solved_answers m ts e market holds shows solved =
    law_of_the_solved m (taken_of ts) (choice_of e) market holds.holds.takings.taken (shown_choice m ts e holds shows) (solved_at m ts e holds shows market solved)

pub empty_shows : (m : Parts) (ts : List Taking) (e : Dictionary) (row : ℕ) (above : Bool) → IsMarket m → HoldsSystem m ts e → ShowsChoice e → IsEmptyAt e row above → StuckShows m (taken_of ts) (choice_of e) (slice_index e.basics row) above
empty_shows m ts e row above market holds shows empty =
    law_of_the_stuck m (taken_of ts) (choice_of e) (slice_index e.basics row) above market holds.holds.takings.taken.limits.rows (shown_choice m ts e holds shows)
    (same_stuck (system_in e) (system_of m (taken_of ts)) holds.same (choice_of e) (slice_index e.basics row) above empty.stuck)
