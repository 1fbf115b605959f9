-- The limits and rooms that are taken, and the columns and rows that a dictionary has then: they are those of the market's system.
use Rattle.std.specs.Prelude.{◌≡◌, ◌≢◌, ◌⊎◌, ℕ, ◌+◌, Bool, true, false, List, [], ◌∷◌, ◌++◌, length, map, All, Contains, AllPairs, refl}
use Rattle.std.proofs.Common.{arith, ap, ap₂, sym, ◌∙◌, subst, inl, inr, append_assoc, get_or}
use Rattle.std.proofs.lemmas.List.{append-nil, length-map, length-append, map-append}
use Rattle.std.proofs.lemmas.List.Elements.{Contains-append_left, Contains-append_right, Contains-append_cases, Contains-get_or}
use Rattle.std.proofs.lemmas.List.FromFn.{length-range_with_len}
use Rattle.fraction_theory.proofs.ListSums.{Contains-head, Contains-cons, Contains-cases}
use Rattle.market_model.specs.declared.limits.Row.{Row}
use Rattle.market_model.specs.declared.participants.Parts.{Parts}
use Rattle.market_model.specs.Dispatch.{places}
use Rattle.market_model.specs.Frame.{SameFrame}
use Rattle.market_model.specs.LimitRows.{rows}
use Rattle.market_model.specs.Market.{IsMarket}
use Rattle.market_model.specs.Optimality.{Taken, all_of, rows_alone}
use Rattle.market_model.specs.Reserves.{no_reserve, reserve_units}
use Rattle.market_system.specs.declared.variables.Variable.{Variable}
use Rattle.market_system.specs.declared.variables.Variable.TheVariants as variable
use Rattle.market_system.specs.MarketSystem.{block_columns, excess_columns, offer_columns, columns, row_variables, taken_in_order, IsVariableOf}
use Rattle.market_system.specs.SolvedLaws.{AreRows}
use Rattle.market_system.proofs.FrameLaws.{same_columns}
use Rattle.market_system.proofs.RowOrder.{AreInOrder, in_order-in, in_order-from, rooms_in_order-in, rooms_in_order-from, pairs-append}
use Rattle.market_system.proofs.VariableLaws as law
use Rattle.market_dict.specs.declared.taking.Taking.{Taking}
use Rattle.market_dict.specs.declared.taking.Taking.TheVariants.{Limit, Room}
use Rattle.market_dict.specs.Takings.{limits_of, rooms_of, taken_of, IsTaking, AreTakings, columns_put, first_rows, row_of, rows_put}
use Rattle.market_dict.proofs.EntryLemmas.{all_ordered}

-- ---- takings, and more of them
pub limits-append : (ss ts : List Taking) → limits_of (ss ++ ts) ≡ limits_of ss ++ limits_of ts
limits-append [] ts = refl
limits-append (Limit r ∷ ss) ts = ap (λ (rs : List Row). r ∷ rs) (limits-append ss ts)
limits-append (Room u ∷ ss) ts = limits-append ss ts

pub rooms-append : (ss ts : List Taking) → rooms_of (ss ++ ts) ≡ rooms_of ss ++ rooms_of ts
rooms-append [] ts = refl
rooms-append (Limit r ∷ ss) ts = rooms-append ss ts
rooms-append (Room u ∷ ss) ts = ap (λ (us : List ℕ). u ∷ us) (rooms-append ss ts)

pub limits-limit : (ts : List Taking) (r : Row) → limits_of (ts ++ Limit r ∷ []) ≡ limits_of ts ++ r ∷ []
limits-limit ts r = limits-append ts (Limit r ∷ [])

pub rooms-limit : (ts : List Taking) (r : Row) → rooms_of (ts ++ Limit r ∷ []) ≡ rooms_of ts
rooms-limit ts r = rooms-append ts (Limit r ∷ []) ∙ append-nil (rooms_of ts)

pub limits-room : (ts : List Taking) (u : ℕ) → limits_of (ts ++ Room u ∷ []) ≡ limits_of ts
limits-room ts u = limits-append ts (Room u ∷ []) ∙ append-nil (limits_of ts)

pub rooms-room : (ts : List Taking) (u : ℕ) → rooms_of (ts ++ Room u ∷ []) ≡ rooms_of ts ++ u ∷ []
rooms-room ts u = rooms-append ts (Room u ∷ [])

-- what is in the lists is taken, and the other way
limit_to : (ts : List Taking) (r : Row) → Contains (limits_of ts) r → Contains ts (Limit r)
limit_to [] r c = absurd (Prim.omega (arith, c.1))
limit_to (Limit q ∷ ts) r c = elim (Contains-cases q (limits_of ts) r c) [
  | inl e ↦ subst (λ (x : Row). Contains (Limit q ∷ ts) (Limit x)) e (Contains-head (Limit q) ts)
  | inr k ↦ Contains-cons (Limit q) ts (Limit r) (limit_to ts r k)
]
limit_to (Room u ∷ ts) r c = Contains-cons (Room u) ts (Limit r) (limit_to ts r c)

room_to : (ts : List Taking) (u : ℕ) → Contains (rooms_of ts) u → Contains ts (Room u)
room_to [] u c = absurd (Prim.omega (arith, c.1))
room_to (Room w ∷ ts) u c = elim (Contains-cases w (rooms_of ts) u c) [
  | inl e ↦ subst (λ (x : ℕ). Contains (Room w ∷ ts) (Room x)) e (Contains-head (Room w) ts)
  | inr k ↦ Contains-cons (Room w) ts (Room u) (room_to ts u k)
]
room_to (Limit r ∷ ts) u c = Contains-cons (Limit r) ts (Room u) (room_to ts u c)

-- what holds of each taking, by kind
abbrev IsListed : List Taking → Taking → Type 0
IsListed ts (Limit r) = Contains (limits_of ts) r
IsListed ts (Room u) = Contains (rooms_of ts) u

listed_more : (t s : Taking) (ts : List Taking) → IsListed ts s → IsListed (t ∷ ts) s
listed_more (Limit q) (Limit r) ts h = Contains-cons q (limits_of ts) r h
listed_more (Limit q) (Room u) ts h = h
listed_more (Room w) (Limit r) ts h = h
listed_more (Room w) (Room u) ts h = Contains-cons w (rooms_of ts) u h

listed_head : (t : Taking) (ts : List Taking) → IsListed (t ∷ ts) t
listed_head (Limit r) ts = Contains-head r (limits_of ts)
listed_head (Room u) ts = Contains-head u (rooms_of ts)

pub is_listed : (ts : List Taking) (t : Taking) → Contains ts t → IsListed ts t
is_listed [] t c = absurd (Prim.omega (arith, c.1))
is_listed (s ∷ ts) t c = elim (Contains-cases s ts t c) [
  | inl e ↦ subst (IsListed (s ∷ ts)) e (listed_head s ts)
  | inr k ↦ listed_more s t ts (is_listed ts t k)
]

alone : {X : Type 0} (x y : X) → Contains (x ∷ []) y → y ≡ x
alone x y h = elim (Contains-cases x [] y h) [ inl e ↦ sym e | inr n ↦ absurd (Prim.omega (arith, n.1)) ]

-- each is one of the market
pub takings_known : (m : Parts) (ts : List Taking) → AreTakings m ts → All (IsTaking m) ts
takings_known m ts are k d lt = known (get_or ts k d) (is_listed ts (get_or ts k d) (Contains-get_or ts k d lt))
  where
    known : (t : Taking) → IsListed ts t → IsTaking m t
    known (Limit r) c = are.taken.limits.rows r c
    known (Room u) c = are.taken.rooms u c

pub limits_within : (ts : List Taking) (t : Taking) → Contains ts t → (r : Row) → Contains (limits_of (t ∷ [])) r → Contains (limits_of ts) r
limits_within ts (Limit q) c r k = subst (Contains (limits_of ts)) (sym (alone q r k)) (is_listed ts (Limit q) c)
limits_within ts (Room u) c r k = absurd (Prim.omega (arith, k.1))

-- distinct things with a new one behind them
one_behind : {X : Type 0} (xs : List X) (x : X) → AllPairs (λ (a b : X). a ≢ b) xs → ¬ (Contains xs x) → AllPairs (λ (a b : X). a ≢ b) (xs ++ x ∷ [])
one_behind {X} xs x distinct absent =
    pairs-append (λ (a b : X). a ≢ b) xs (x ∷ []) distinct (λ i j e lt h. absurd (Prim.omega (arith, lt, h)))
    (λ a b k h e. absent (subst (λ (y : X). Contains xs y) (e ∙ alone x b h) k))

pub no_takings : (m : Parts) → AreTakings m []
no_takings m = record {
  taken = record { limits = record { rows = λ r c. absurd (Prim.omega (arith, c.1)); distinct = λ i j e lt h. absurd (Prim.omega (arith, h)) }; rooms = λ u c. absurd (Prim.omega (arith, c.1)) };
  rooms_distinct = λ i j e lt h. absurd (Prim.omega (arith, h));
}

pub one_limit_more : (m : Parts) (ts : List Taking) (r : Row) → AreTakings m ts → Contains (rows m) r → ¬ (Contains (limits_of ts) r) → AreTakings m (ts ++ Limit r ∷ [])
one_limit_more m ts r are c absent = record {
  taken = record {
    limits = subst (AreRows m) (sym (limits-limit ts r))
        (record {
          rows = λ q k. elim (Contains-append_cases (limits_of ts) (r ∷ []) q k) [ inl h ↦ are.taken.limits.rows q h | inr h ↦ subst (λ (x : Row). Contains (rows m) x) (sym (alone r q h)) c ];
          distinct = one_behind (limits_of ts) r are.taken.limits.distinct absent;
        });
    rooms = λ u k. are.taken.rooms u (subst (λ (us : List ℕ). Contains us u) (rooms-limit ts r) k);
  };
  rooms_distinct = subst (AllPairs (λ (a b : ℕ). a ≢ b)) (sym (rooms-limit ts r)) are.rooms_distinct;
}

pub one_room_more : (m : Parts) (ts : List Taking) (u : ℕ) → AreTakings m ts → Contains (reserve_units m) u → ¬ (Contains (rooms_of ts) u) → AreTakings m (ts ++ Room u ∷ [])
one_room_more m ts u are c absent = record {
  taken = record {
    limits = subst (AreRows m) (sym (limits-room ts u)) are.taken.limits;
    rooms = λ w k. elim (Contains-append_cases (rooms_of ts) (u ∷ []) w (subst (λ (us : List ℕ). Contains us w) (rooms-room ts u) k)) [
      | inl h ↦ are.taken.rooms w h
      | inr h ↦ subst (λ (x : ℕ). Contains (reserve_units m) x) (sym (alone u w h)) c
    ];
  };
  rooms_distinct = subst (AllPairs (λ (a b : ℕ). a ≢ b)) (sym (rooms-room ts u)) (one_behind (rooms_of ts) u are.rooms_distinct absent);
}

-- ---- over more limits and rooms there are more variables
module _ (m : Parts) (s t : Taken) (more : (r : Row) → Contains s.limits r → Contains t.limits r) (rooms : (u : ℕ) → Contains s.rooms u → Contains t.rooms u) where
  pub rows_moved : (v : Variable) → Contains (row_variables m s) v → Contains (row_variables m t) v
  rows_moved = law.by_row m s (Contains (row_variables m t)) (law.balance_in m t) (λ r c. law.limit_in m t r (more r c)) (λ e. law.need_in m t e) (λ u c. law.room_in m t u (rooms u c))

  pub columns_moved : (v : Variable) → Contains (columns m s) v → Contains (columns m t) v
  columns_moved = law.by_column m s (Contains (columns m t)) (λ j lt. law.block_listed m t j lt) (λ r c e. law.excess_listed m t r (more r c) e) (λ n lt. law.offer_listed m t n lt)

-- no column is a row
pub no_row_column : (m : Parts) (t : Taken) (v : Variable) → Contains (row_variables m t) v → ¬ (Contains (columns m t) v)
no_row_column m t = law.by_row m t (λ (v : Variable). ¬ (Contains (columns m t) v)) (none variable.Balance (λ j e. absurd Prim.cc) (λ r e. absurd Prim.cc) (λ r e. absurd Prim.cc) (λ n e. absurd Prim.cc))
    (λ q c. none (variable.Limit q) (λ j e. absurd Prim.cc) (λ r e. absurd Prim.cc) (λ r e. absurd Prim.cc) (λ n e. absurd Prim.cc))
    (λ e. none variable.Need (λ j e. absurd Prim.cc) (λ r e. absurd Prim.cc) (λ r e. absurd Prim.cc) (λ n e. absurd Prim.cc))
    (λ u c. none (variable.Room u) (λ j e. absurd Prim.cc) (λ r e. absurd Prim.cc) (λ r e. absurd Prim.cc) (λ n e. absurd Prim.cc))
  where
    none : (v : Variable) → ((j : ℕ) → v ≢ variable.Block j) → ((r : Row) → v ≢ variable.Over r) → ((r : Row) → v ≢ variable.Under r) → ((n : ℕ) → v ≢ variable.Offer n) → ¬ (Contains (columns m t) v)
    none v block over under offer c = law.by_column m t (λ (u : Variable). v ≢ u) (λ j lt. block j) (λ r k s. (over r, under r)) (λ n lt. offer n) v c refl

-- ---- the lists of a dictionary
module _ (m : Parts) (ts : List Taking) where
  -- its columns are those of the market
  pub column_put : (v : Variable) → Contains (columns m (taken_of ts)) v → Contains (columns_put m ts) v
  column_put v c = elim (Contains-append_cases (block_columns m ++ excess_columns m (limits_of ts)) (offer_columns m) v c) [
    | inl k ↦ elim (Contains-append_cases (block_columns m) (excess_columns m (limits_of ts)) v k) [
      | inl l ↦ Contains-append_left (block_columns m ++ offer_columns m) (excess_columns m (limits_of ts)) v (Contains-append_left (block_columns m) (offer_columns m) v l)
      | inr l ↦ Contains-append_right (block_columns m ++ offer_columns m) (excess_columns m (limits_of ts)) v l
    ]
    | inr k ↦ Contains-append_left (block_columns m ++ offer_columns m) (excess_columns m (limits_of ts)) v (Contains-append_right (block_columns m) (offer_columns m) v k)
  ]

  pub column_from : (v : Variable) → Contains (columns_put m ts) v → Contains (columns m (taken_of ts)) v
  column_from v c = elim (Contains-append_cases (block_columns m ++ offer_columns m) (excess_columns m (limits_of ts)) v c) [
    | inl k ↦ elim (Contains-append_cases (block_columns m) (offer_columns m) v k) [
      | inl l ↦ Contains-append_left (block_columns m ++ excess_columns m (limits_of ts)) (offer_columns m) v (Contains-append_left (block_columns m) (excess_columns m (limits_of ts)) v l)
      | inr l ↦ Contains-append_right (block_columns m ++ excess_columns m (limits_of ts)) (offer_columns m) v l
    ]
    | inr k ↦ Contains-append_left (block_columns m ++ excess_columns m (limits_of ts)) (offer_columns m) v (Contains-append_right (block_columns m) (excess_columns m (limits_of ts)) v k)
  ]

  -- and so are its rows
  taking_row : (t : Taking) → Contains ts t → Contains (rows_put m ts) (row_of t)
  taking_row t c = Contains-append_right (first_rows m) (map row_of ts) (row_of t) (law.in_mapped row_of ts t c)

  pub balance_put : Contains (rows_put m ts) variable.Balance
  balance_put = Contains-append_left (first_rows m) (map row_of ts) variable.Balance (Contains-head variable.Balance (law.needs m.reserve.listed))

  pub limit_put : (r : Row) → Contains (limits_of ts) r → Contains (rows_put m ts) (variable.Limit r)
  limit_put r c = taking_row (Limit r) (limit_to ts r c)

  pub need_put : m.reserve.listed ≡ true → Contains (rows_put m ts) variable.Need
  need_put e = Contains-append_left (first_rows m) (map row_of ts) variable.Need
      (subst (λ (b : Bool). Contains (variable.Balance ∷ law.needs b) variable.Need) (sym e) (Contains-cons variable.Balance (variable.Need ∷ []) variable.Need (Contains-head variable.Need [])))

  pub room_put : (u : ℕ) → Contains (rooms_of ts) u → Contains (rows_put m ts) (variable.Room u)
  room_put u c = taking_row (Room u) (room_to ts u c)

  pub row_put : (v : Variable) → Contains (row_variables m (taken_of ts)) v → Contains (rows_put m ts) v
  row_put = law.by_row m (taken_of ts) (Contains (rows_put m ts)) balance_put limit_put need_put room_put

  -- what holds of the balance, of each limit, of the need and of each room holds of them
  pub by_row_put : (P : Variable → Type 0) → P variable.Balance → ((r : Row) → Contains (limits_of ts) r → P (variable.Limit r)) → (m.reserve.listed ≡ true → P variable.Need)
      → ((u : ℕ) → Contains (rooms_of ts) u → P (variable.Room u)) → (v : Variable) → Contains (rows_put m ts) v → P v
  by_row_put P balance limit need room v c = elim (Contains-append_cases (first_rows m) (map row_of ts) v c) [
    | inl k ↦ elim (Contains-cases variable.Balance (law.needs m.reserve.listed) v k) [ inl e ↦ subst P e balance | inr l ↦ of_need m.reserve.listed need v l ]
    | inr k ↦ let l = law.mapped row_of ts v k in subst P l.2 (of_taking l.0 (is_listed ts l.0 l.1))
  ]
    where
      of_need : (b : Bool) → (b ≡ true → P variable.Need) → (w : Variable) → Contains (law.needs b) w → P w
      of_need true each w d = elim (Contains-cases variable.Need [] w d) [ inl e ↦ subst P e (each refl) | inr l ↦ absurd (Prim.omega (arith, l.1)) ]
      of_need false each w d = absurd (Prim.omega (arith, d.1))

      of_taking : (t : Taking) → IsListed ts t → P (row_of t)
      of_taking (Limit r) h = limit r h
      of_taking (Room u) h = room u h

  pub row_from : (v : Variable) → Contains (rows_put m ts) v → Contains (row_variables m (taken_of ts)) v
  row_from = by_row_put (Contains (row_variables m (taken_of ts))) (law.balance_in m (taken_of ts)) (law.limit_in m (taken_of ts)) (law.need_in m (taken_of ts)) (law.room_in m (taken_of ts))

  pub row_is : (v : Variable) → Contains (rows_put m ts) v → IsVariableOf m (taken_of ts) v
  row_is v c = law.row_is m (taken_of ts) v (row_from v c)

  pub column_is : (v : Variable) → Contains (columns_put m ts) v → IsVariableOf m (taken_of ts) v
  column_is v c = law.column_is m (taken_of ts) v (column_from v c)

  pub put_is : (v : Variable) → Contains (columns_put m ts ++ rows_put m ts) v → IsVariableOf m (taken_of ts) v
  put_is v c = elim (Contains-append_cases (columns_put m ts) (rows_put m ts) v c) [ inl k ↦ column_is v k | inr k ↦ row_is v k ]

  pub column_or_row : (v : Variable) → IsVariableOf m (taken_of ts) v → Contains (columns_put m ts) v ⊎ Contains (rows_put m ts) v
  column_or_row (variable.Block j) h = inl (column_put (variable.Block j) (law.block_listed m (taken_of ts) j h))
  column_or_row variable.Balance h = inr balance_put
  column_or_row (variable.Limit r) h = inr (limit_put r h)
  column_or_row (variable.Over r) h = inl (column_put (variable.Over r) (law.excess_listed m (taken_of ts) r h.0 h.1).0)
  column_or_row (variable.Under r) h = inl (column_put (variable.Under r) (law.excess_listed m (taken_of ts) r h.0 h.1).1)
  column_or_row (variable.Offer n) h = inl (column_put (variable.Offer n) (law.offer_listed m (taken_of ts) n h))
  column_or_row variable.Need h = inr (need_put h)
  column_or_row (variable.Room u) h = inr (room_put u h)

  pub no_put_column : (v : Variable) → Contains (rows_put m ts) v → ¬ (Contains (columns_put m ts) v)
  no_put_column v c k = no_row_column m (taken_of ts) v (row_from v c) (column_from v k)

  -- with one row more
  pub rows_more : (t : Taking) → rows_put m (ts ++ t ∷ []) ≡ rows_put m ts ++ row_of t ∷ []
  rows_more t = ap (λ (vs : List Variable). first_rows m ++ vs) (map-append row_of ts (t ∷ [])) ∙ sym (append_assoc (first_rows m) (map row_of ts) (row_of t ∷ []))

  -- so many columns
  pub put_columns_count : length (columns_put m ts) ≡ length m.blocks + length m.reserve.offers + length (excess_columns m (limits_of ts))
  put_columns_count =
      let blocks : length (block_columns m) ≡ length m.blocks = length-map (places (length m.blocks)) variable.Block ∙ length-range_with_len 0 (length m.blocks) in
      let offers : length (offer_columns m) ≡ length m.reserve.offers = length-map (places (length m.reserve.offers)) variable.Offer ∙ length-range_with_len 0 (length m.reserve.offers) in
      length-append (block_columns m ++ offer_columns m) (excess_columns m (limits_of ts))
      ∙ ap (λ (n : ℕ). n + length (excess_columns m (limits_of ts))) (length-append (block_columns m) (offer_columns m) ∙ ap₂ ◌+◌ blocks offers)

-- the rows at the start
pub rows_bare : (m : Parts) → m.reserve.listed ≡ false → rows_put m [] ≡ variable.Balance ∷ []
rows_bare m e = append-nil (first_rows m) ∙ ap (λ (b : Bool). variable.Balance ∷ law.needs b) e

pub rows_need : (m : Parts) → m.reserve.listed ≡ true → rows_put m [] ≡ (variable.Balance ∷ []) ++ variable.Need ∷ []
rows_need m e = append-nil (first_rows m) ∙ ap (λ (b : Bool). variable.Balance ∷ law.needs b) e

-- ---- all of a market
pub all_in_order : (m : Parts) → IsMarket m → AreInOrder m (all_of m)
all_in_order m market = record { limits = all_ordered m market; units = λ u c. c; rooms = law.units_ascend m }

pub of_all : (m : Parts) (ts : List Taking) → AreTakings m ts → (v : Variable) → IsVariableOf m (taken_of ts) v → IsVariableOf m (all_of m) v
of_all m ts are = law.of_more m (taken_of ts) (all_of m) are.taken.limits.rows are.taken.rooms

-- ---- what is taken in the market's order
module _ (m : Parts) (ts : List Taking) where
  pub from_order : (v : Variable) → IsVariableOf m (taken_in_order m (taken_of ts)) v → IsVariableOf m (taken_of ts) v
  from_order = law.of_more m (taken_in_order m (taken_of ts)) (taken_of ts) (λ r c. (in_order-from m (limits_of ts) r c).1) (λ u c. (rooms_in_order-from m (rooms_of ts) u c).1)

  pub order_all : (v : Variable) → IsVariableOf m (taken_in_order m (taken_of ts)) v → IsVariableOf m (all_of m) v
  order_all = law.of_more m (taken_in_order m (taken_of ts)) (all_of m) (λ r c. (in_order-from m (limits_of ts) r c).0) (λ u c. (rooms_in_order-from m (rooms_of ts) u c).0)

  rows_back : (v : Variable) → Contains (row_variables m (taken_in_order m (taken_of ts))) v → Contains (row_variables m (taken_of ts)) v
  rows_back = rows_moved m (taken_in_order m (taken_of ts)) (taken_of ts) (λ r c. (in_order-from m (limits_of ts) r c).1) (λ u c. (rooms_in_order-from m (rooms_of ts) u c).1)

  columns_back : (v : Variable) → Contains (columns m (taken_in_order m (taken_of ts))) v → Contains (columns m (taken_of ts)) v
  columns_back = columns_moved m (taken_in_order m (taken_of ts)) (taken_of ts) (λ r c. (in_order-from m (limits_of ts) r c).1) (λ u c. (rooms_in_order-from m (rooms_of ts) u c).1)

  pub put_from_rows : (v : Variable) → Contains (row_variables m (taken_in_order m (taken_of ts))) v → Contains (rows_put m ts) v
  put_from_rows v c = row_put m ts v (rows_back v c)

  pub put_from_columns : (v : Variable) → Contains (columns m (taken_in_order m (taken_of ts))) v → Contains (columns_put m ts) v
  put_from_columns v c = column_put m ts v (columns_back v c)

  module _ (are : AreTakings m ts) where
    limits_to : (r : Row) → Contains (limits_of ts) r → Contains (taken_in_order m (taken_of ts)).limits r
    limits_to r c = in_order-in m (limits_of ts) r (are.taken.limits.rows r c) c

    rooms_to : (u : ℕ) → Contains (rooms_of ts) u → Contains (taken_in_order m (taken_of ts)).rooms u
    rooms_to u c = rooms_in_order-in m (rooms_of ts) u (are.taken.rooms u c) c

    pub to_order : (v : Variable) → IsVariableOf m (taken_of ts) v → IsVariableOf m (taken_in_order m (taken_of ts)) v
    to_order = law.of_more m (taken_of ts) (taken_in_order m (taken_of ts)) limits_to rooms_to

    pub put_to_rows : (v : Variable) → Contains (rows_put m ts) v → Contains (row_variables m (taken_in_order m (taken_of ts))) v
    put_to_rows v c = rows_moved m (taken_of ts) (taken_in_order m (taken_of ts)) limits_to rooms_to v (row_from m ts v c)

    pub put_to_columns : (v : Variable) → Contains (columns_put m ts) v → Contains (columns m (taken_in_order m (taken_of ts))) v
    put_to_columns v c = columns_moved m (taken_of ts) (taken_in_order m (taken_of ts)) limits_to rooms_to v (column_from m ts v c)

-- ---- in one frame
abbrev of_energy : Parts → Parts
of_energy m = record m { reserve = no_reserve }

abbrev of_lines : Parts → Parts
of_lines m = record m { blocks = []; reserve = no_reserve }

blocks_in_frame : (m n : Parts) → SameFrame m n → block_columns m ≡ block_columns n
blocks_in_frame m n same =
    sym (append-nil (block_columns m ++ []) ∙ append-nil (block_columns m))
    ∙ same_columns (of_energy m) (of_energy n) (ap of_energy same) (rows_alone [])
    ∙ (append-nil (block_columns n ++ []) ∙ append-nil (block_columns n))

excess_in_frame : (m n : Parts) → SameFrame m n → (g : List Row) → excess_columns m g ≡ excess_columns n g
excess_in_frame m n same g = sym (append-nil (excess_columns m g)) ∙ same_columns (of_lines m) (of_lines n) (ap of_lines same) (rows_alone g) ∙ append-nil (excess_columns n g)

pub columns_in_frame : (m n : Parts) → SameFrame m n → (ts : List Taking) → columns_put m ts ≡ columns_put n ts
columns_in_frame m n same ts =
    ap₂ (λ (us vs : List Variable). us ++ vs) (ap₂ (λ (us vs : List Variable). us ++ vs) (blocks_in_frame m n same) (ap (λ (p : Parts). offer_columns p) same)) (excess_in_frame m n same (limits_of ts))

pub rows_in_frame : (m n : Parts) → SameFrame m n → (ts : List Taking) → rows_put m ts ≡ rows_put n ts
rows_in_frame m n same ts = ap (λ (p : Parts). rows_put p ts) same

pub units_in_frame : (m n : Parts) → SameFrame m n → reserve_units m ≡ reserve_units n
units_in_frame m n same = ap (λ (p : Parts). reserve_units p) same
