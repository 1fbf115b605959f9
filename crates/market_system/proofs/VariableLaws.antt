-- The variables of a market's system over limit rows and rooms in its order: their names ascend, so each name is of one variable, and what the
-- system has at the name of a variable is what the variable has. A sum over columns is (that of the blocks plus that of the excess columns)
-- plus that of the offers of reserve; one over rows is (the balance plus the limit rows) plus (the need, where there is one, plus the rooms).
use Rattle.std.specs.Prelude.{◌≡◌, ◌≢◌, ℕ, ◌+◌, ◌<◌, ◌≤◌, pos, Bool, true, false, List, [], ◌∷◌, ◌++◌, length, map, filter, if◌then◌else◌, AllPairs, Contains, refl, ◌⊎◌}
use Rattle.std.specs.List.{flat_map}
use Rattle.std.specs.List.Sorted.{IsStrictlyIncreasing}
use Rattle.std.proofs.Common.{zero as none, suc, arith, ap, ap₂, sym, ◌∙◌, subst, inl, inr}
use Rattle.std.proofs.lemmas.Bool.Decides.{eqb_tells}
use Rattle.std.proofs.lemmas.List.{map-append}
use Rattle.std.proofs.lemmas.List.Elements.{Contains-append_left, Contains-append_right, Contains-append_cases, All-map}
use Rattle.std.proofs.lemmas.List.FromFn.{length-range_with_len, get_or-range_with_len}
use Rattle.std.proofs.lemmas.List.Kept.{AllPairs-from_increasing, AllPairs-cons, AllPairs-filter}
use Rattle.fraction_theory.specs.Fraction.{Fraction, whole, neg_ℚ, ◌+ℚ◌, ◌-ℚ◌, ◌*ℚ◌}
use Rattle.fraction_theory.specs.Sums.{sum_by}
use Rattle.fraction_theory.proofs.ListSums.{kept, Contains-head, Contains-cons, Contains-cases, Contains-filter, Contains-from_filter, sum_by-filter, sum_by-members}
use Rattle.fraction_theory.proofs.SumLaws.{sum_by-append, sum_by-nil, sum_by-same}
use Rattle.fraction_theory.proofs.Ring.{by_ring, at, pnil, pone, pneg, ◌⊕◌, ◌⊗◌}
use Rattle.fraction_theory.proofs.FieldLaws.{ring_ℚ}
use Rattle.linear_system.specs.Systems.{System, IsSystem, activity, objective}
use Rattle.market_model.specs.declared.limits.Row.{Row}
use Rattle.market_model.specs.declared.participants.Parts.{Parts}
use Rattle.market_model.specs.Dispatch.{zero, places, block_at, offer_at}
use Rattle.market_model.specs.LimitRows.{rows, penalty, is_soft}
use Rattle.market_model.specs.Optimality.{Taken, block_value}
use Rattle.market_model.specs.Reserves.{offer_places, offers_reserve, offer_price, reserve_units}
use Rattle.market_model.proofs.ListSteps.{map-map}
use Rattle.market_model.proofs.RowMembers.{Contains-places, Contains-from_places}
use Rattle.market_system.specs.declared.variables.Variable.{Variable}
use Rattle.market_system.specs.declared.variables.Variable.TheVariants.{Block, Balance, Limit, Over, Under, Offer, Need, Room}
use Rattle.market_system.specs.MarketSystem.{balance_name, row_name, over_name, under_name, offer_name, need_name, room_name, is_among, rooms_in_order, taken_in_order, at_row, at_unit, same_row, block_sign, block_coefficient, name, coefficient, objective_price, low, high, block_columns, excess_columns, offer_columns, columns, energy_rows, reserve_rows, row_variables, variables, named, variable_of, system_over, IsVariableOf}
use Rattle.market_system.proofs.RowOrder.{AreInOrder, RowsApart, in_order-ordered, rooms_in_order-from, ordered-distinct, increasing-from_pairs, pairs-append, pairs-map, row_place-below, same_row-itself, same_row-not}
use Rattle.market_system.proofs.RowSums.{sum_by-alone}

-- ---- members of lists
pub places_ascend : (n : ℕ) → IsStrictlyIncreasing (places n)
places_ascend n k h =
    let below : k + 1 < n = Prim.omega (arith, h, length-range_with_len 0 n) in
    let first = get_or-range_with_len 0 n k 0 (Prim.omega arith) in
    let second = get_or-range_with_len 0 n (k + 1) 0 below in
    Prim.omega (arith, first, second)

-- a member of a mapped list is that of a member
pub mapped : {X Y : Type 0} (f : X → Y) (xs : List X) (y : Y) → Contains (map f xs) y → (x : X) × Contains xs x × (f x ≡ y)
mapped f [] y c = absurd (Prim.omega (arith, c.1))
mapped {X} f (x ∷ xs) y c = elim (Contains-cases (f x) (map f xs) y c) [
  | inl e ↦ (x, Contains-head x xs, e)
  | inr k ↦ behind (mapped f xs y k)
]
  where
    behind : (z : X) × Contains xs z × (f z ≡ y) → (z : X) × Contains (x ∷ xs) z × (f z ≡ y)
    behind (z, d, e) = (z, Contains-cons x xs z d, e)

pub in_mapped : {X Y : Type 0} (f : X → Y) (xs : List X) (x : X) → Contains xs x → Contains (map f xs) (f x)
in_mapped f [] x c = absurd (Prim.omega (arith, c.1))
in_mapped {X} {Y} f (z ∷ xs) x c = elim (Contains-cases z xs x c) [
  | inl e ↦ subst (λ (y : Y). Contains (map f (z ∷ xs)) y) (ap f e) (Contains-head (f z) (map f xs))
  | inr k ↦ Contains-cons (f z) (map f xs) (f x) (in_mapped f xs x k)
]

-- ---- variables whose names ascend
module _ (name_of : Variable → ℕ) where
  abbrev pub Ascend : List Variable → Type 0
  Ascend vs = AllPairs (λ (u v : Variable). name_of u < name_of v) vs

  -- no two of them have one name, so that each is the variable of its own
  pub named-at : (vs : List Variable) → Ascend vs → (v : Variable) → Contains vs v → named name_of vs (name_of v) ≡ v
  named-at [] p v c = absurd (Prim.omega (arith, c.1))
  named-at (u ∷ us) p v c = elim (eqb_tells (name_of v) (name_of u)) [
    | inl t ↦ ap (λ (b : Bool). if b then u else named name_of us (name_of v)) t.0 ∙ elim (Contains-cases u us v c) [ inl e ↦ e | inr k ↦ absurd (Prim.omega (arith, later k, t.1)) ]
    | inr t ↦ ap (λ (b : Bool). if b then u else named name_of us (name_of v)) t.0
        ∙ named-at us (λ i j d lt h. p (suc i) (suc j) d (Prim.omega (arith, lt)) (Prim.omega (arith, h))) v (elim (Contains-cases u us v c) [ inl e ↦ absurd (t.1 (ap name_of (sym e))) | inr k ↦ k ])
  ]
    where
      later : Contains us v → name_of u < name_of v
      later k = subst (λ (x : Variable). name_of u < name_of x) k.2 (p 0 (suc k.0) v (Prim.omega arith) (Prim.omega (arith, k.1)))

  -- columns and rows of such a list make a system
  pub ascend_by_name : (vs : List Variable) → Ascend vs → IsStrictlyIncreasing (map name_of vs)
  ascend_by_name vs p = increasing-from_pairs (map name_of vs) (pairs-map (λ (a b : ℕ). a < b) name_of vs p)

  -- names of more variables
  in_more : (xs ys : List Variable) → ((v : Variable) → Contains xs v → Contains ys v) → (w : ℕ) → Contains (map name_of xs) w → Contains (map name_of ys) w
  in_more xs ys more w c = let k = mapped name_of xs w c in subst (Contains (map name_of ys)) k.2 (in_mapped name_of ys k.0 (more k.0 k.1))

-- ---- the two columns of each of some rows
abbrev pub columns_of : List Row → List Variable
columns_of qs = flat_map (λ r. Over r ∷ Under r ∷ []) qs

by_pair : (P : Variable → Type 0) (qs : List Row) → ((r : Row) → Contains qs r → P (Over r) × P (Under r)) → (v : Variable) → Contains (columns_of qs) v → P v
by_pair P [] each v c = absurd (Prim.omega (arith, c.1))
by_pair P (q ∷ qs) each v c = elim (Contains-cases (Over q) (Under q ∷ columns_of qs) v c) [
  | inl e ↦ subst P e (each q (Contains-head q qs)).0
  | inr k ↦ elim (Contains-cases (Under q) (columns_of qs) v k) [
    | inl e ↦ subst P e (each q (Contains-head q qs)).1
    | inr l ↦ by_pair P qs (λ r d. each r (Contains-cons q qs r d)) v l
  ]
]

in_pairs : (qs : List Row) (r : Row) → Contains qs r → Contains (columns_of qs) (Over r) × Contains (columns_of qs) (Under r)
in_pairs [] r c = absurd (Prim.omega (arith, c.1))
in_pairs (q ∷ qs) r c = elim (Contains-cases q qs r c) [
  | inl e ↦ subst (λ (x : Row). Contains (columns_of (q ∷ qs)) (Over x) × Contains (columns_of (q ∷ qs)) (Under x)) e
      (Contains-head (Over q) (Under q ∷ columns_of qs), Contains-cons (Over q) (Under q ∷ columns_of qs) (Under q) (Contains-head (Under q) (columns_of qs)))
  | inr k ↦ let d = in_pairs qs r k in (behind (Over r) d.0, behind (Under r) d.1)
]
  where
    behind : (v : Variable) → Contains (columns_of qs) v → Contains (columns_of (q ∷ qs)) v
    behind v d = Contains-cons (Over q) (Under q ∷ columns_of qs) v (Contains-cons (Under q) (columns_of qs) v d)

-- ---- the variables of a market
pub block_names : (m : Parts) → map (name m) (block_columns m) ≡ places (length m.blocks)
block_names m = map-map Block (name m) (places (length m.blocks)) ∙ self (places (length m.blocks))
  where
    self : (xs : List ℕ) → map (λ (j : ℕ). name m (Block j)) xs ≡ xs
    self [] = refl
    self (x ∷ xs) = ap (λ (ys : List ℕ). x ∷ ys) (self xs)

-- offers by their names
pub offer_names : (m : Parts) → map (name m) (offer_columns m) ≡ map (offer_name m) (offer_places m)
offer_names m = map-map Offer (name m) (offer_places m)

-- over more rows and rooms there are more
pub of_more : (m : Parts) (s t : Taken) → ((r : Row) → Contains s.limits r → Contains t.limits r) → ((u : ℕ) → Contains s.rooms u → Contains t.rooms u) → (v : Variable) → IsVariableOf m s v → IsVariableOf m t v
of_more m s t more rooms (Block j) h = h
of_more m s t more rooms Balance h = h
of_more m s t more rooms (Limit r) h = more r h
of_more m s t more rooms (Over r) h = (more r h.0, h.1)
of_more m s t more rooms (Under r) h = (more r h.0, h.1)
of_more m s t more rooms (Offer n) h = h
of_more m s t more rooms Need h = h
of_more m s t more rooms (Room u) h = rooms u h

-- ---- what is taken, in the market's order
pub units_ascend : (m : Parts) → AllPairs (λ (a b : ℕ). a < b) (reserve_units m)
units_ascend m = AllPairs-filter (λ (a b : ℕ). a < b) (offers_reserve m) (places (length m.units)) (AllPairs-from_increasing (places (length m.units)) (places_ascend (length m.units)))

rooms_ascend_in : (m : Parts) (us : List ℕ) → AllPairs (λ (a b : ℕ). a < b) (rooms_in_order m us)
rooms_ascend_in m [] = λ i j d lt h. absurd (Prim.omega (arith, h))
rooms_ascend_in m (u ∷ us) = AllPairs-filter (λ (a b : ℕ). a < b) (is_among (u ∷ us)) (reserve_units m) (units_ascend m)

pub taken-in_order : (m : Parts) → RowsApart m → (t : Taken) → AreInOrder m (taken_in_order m t)
taken-in_order m apart t = record { limits = in_order-ordered m apart t.limits; units = λ u c. (rooms_in_order-from m t.rooms u c).0; rooms = rooms_ascend_in m t.rooms }

-- sums over the two columns of each of some rows
sum-pairs : (m : Parts) (f : ℕ → Fraction) (qs : List Row) → sum_by f (map (name m) (columns_of qs)) ≡ sum_by (λ r. f (over_name m r) +ℚ f (under_name m r)) qs
sum-pairs m f [] = refl
sum-pairs m f (q ∷ qs) =
    ap (λ t. f (over_name m q) +ℚ (f (under_name m q) +ℚ t)) (sum-pairs m f qs)
    ∙ sym (ring_ℚ.plus_assoc (f (over_name m q)) (f (under_name m q)) (sum_by (λ r. f (over_name m r) +ℚ f (under_name m r)) qs))

-- their names ascend as those of the rows do
pairs_ascend : (m : Parts) (qs : List Row) → AllPairs (λ (a b : Row). row_name m a < row_name m b) qs → Ascend (name m) (columns_of qs)
pairs_ascend m [] p = λ i j d lt h. absurd (Prim.omega (arith, h))
pairs_ascend m (q ∷ qs) p =
    pairs-append (λ (u v : Variable). name m u < name m v) (Over q ∷ Under q ∷ []) (columns_of qs) two
    (pairs_ascend m qs (λ i j d lt h. p (suc i) (suc j) d (Prim.omega (arith, lt)) (Prim.omega (arith, h))))
    (λ u v c d. by_pair (λ (x : Variable). name m x < name m v) (q ∷ []) (λ r k. by_pair (λ (x : Variable). (name m (Over r) < name m x) × (name m (Under r) < name m x)) qs (λ t l. later r k t l) v d) u c)
  where
    two : Ascend (name m) (Over q ∷ Under q ∷ [])
    two none none d lt h = absurd (Prim.omega (arith, lt))
    two none (suc none) d lt h = Prim.omega arith
    two none (suc (suc j)) d lt h = absurd (Prim.omega (arith, h))
    two (suc i) j d lt h = absurd (Prim.omega (arith, lt, h))

    before : (t : Row) → Contains qs t → row_name m q < row_name m t
    before t (k, lt, e) = subst (λ (x : Row). row_name m q < row_name m x) e (p 0 (suc k) t (Prim.omega arith) (Prim.omega (arith, lt)))

    later : (r : Row) → Contains (q ∷ []) r → (t : Row) → Contains qs t
        → ((name m (Over r) < name m (Over t)) × (name m (Under r) < name m (Over t))) × ((name m (Over r) < name m (Under t)) × (name m (Under r) < name m (Under t)))
    later r k t l = elim (Contains-cases q [] r k) [
      | inl e ↦ subst (λ (x : Row). ((name m (Over x) < name m (Over t)) × (name m (Under x) < name m (Over t))) × ((name m (Over x) < name m (Under t)) × (name m (Under x) < name m (Under t)))) e
          (let lt = before t l in ((Prim.omega (arith, lt), Prim.omega (arith, lt)), (Prim.omega (arith, lt), Prim.omega (arith, lt))))
      | inr n ↦ absurd (Prim.omega (arith, n.1))
    ]

nothing : (b : Bool) → kept b zero ≡ zero
nothing true = refl
nothing false = refl

-- what a point has at the two columns of a row, where it is soft
abbrev pub over_in : Parts → (ℕ → Fraction) → Row → Fraction
over_in m v r = kept (is_soft m r) (v (over_name m r))

abbrev pub under_in : Parts → (ℕ → Fraction) → Row → Fraction
under_in m v r = kept (is_soft m r) (v (under_name m r))

-- sums over the row of the need, where there is one
abbrev pub needs : Bool → List Variable
needs b = if b then Need ∷ [] else []

sum-needs : (m : Parts) (f : ℕ → Fraction) (b : Bool) → sum_by f (map (name m) (needs b)) ≡ kept b (f (need_name m))
sum-needs m f true = ring_ℚ.plus_nil (f (need_name m))
sum-needs m f false = refl

need_names : (m : Parts) (b : Bool) → map (name m) (needs b) ≡ (if b then need_name m ∷ [] else [])
need_names m true = refl
need_names m false = refl

by_needs : (P : Variable → Type 0) (b : Bool) → (b ≡ true → P Need) → (v : Variable) → Contains (needs b) v → P v
by_needs P true each v c = elim (Contains-cases Need [] v c) [ inl e ↦ subst P e (each refl) | inr k ↦ absurd (Prim.omega (arith, k.1)) ]
by_needs P false each v c = absurd (Prim.omega (arith, c.1))

needs_ascend : (m : Parts) (b : Bool) → Ascend (name m) (needs b)
needs_ascend m true none none d lt h = absurd (Prim.omega (arith, lt))
needs_ascend m true none (suc j) d lt h = absurd (Prim.omega (arith, h))
needs_ascend m true (suc i) j d lt h = absurd (Prim.omega (arith, lt, h))
needs_ascend m false i j d lt h = absurd (Prim.omega (arith, h))

module _ (m : Parts) (t : Taken) where
  -- the soft ones among the rows
  abbrev pub soft : List Row
  soft = filter (is_soft m) t.limits

  -- what holds of each block, of both columns of each soft row, of each offer, or of the balance, each row, the need and each room, holds of the lists
  pub by_block : (P : Variable → Type 0) → ((j : ℕ) → j < length m.blocks → P (Block j)) → (v : Variable) → Contains (block_columns m) v → P v
  by_block P each v c = let k = mapped Block (places (length m.blocks)) v c in subst P k.2 (each k.0 (Contains-from_places (length m.blocks) k.0 k.1))

  pub by_excess : (P : Variable → Type 0) → ((r : Row) → Contains t.limits r → is_soft m r ≡ true → P (Over r) × P (Under r)) → (v : Variable) → Contains (excess_columns m t.limits) v → P v
  by_excess P each = by_pair P soft (λ r c. let k = Contains-from_filter (is_soft m) t.limits r c in each r k.0 k.1)

  pub by_offer : (P : Variable → Type 0) → ((n : ℕ) → n < length m.reserve.offers → P (Offer n)) → (v : Variable) → Contains (offer_columns m) v → P v
  by_offer P each v c = let k = mapped Offer (offer_places m) v c in subst P k.2 (each k.0 (Contains-from_places (length m.reserve.offers) k.0 k.1))

  pub by_column : (P : Variable → Type 0) → ((j : ℕ) → j < length m.blocks → P (Block j)) → ((r : Row) → Contains t.limits r → is_soft m r ≡ true → P (Over r) × P (Under r))
      → ((n : ℕ) → n < length m.reserve.offers → P (Offer n)) → (v : Variable) → Contains (columns m t) v → P v
  by_column P block excess offer v c = elim (Contains-append_cases (block_columns m ++ excess_columns m t.limits) (offer_columns m) v c) [
    | inl k ↦ elim (Contains-append_cases (block_columns m) (excess_columns m t.limits) v k) [ inl l ↦ by_block P block v l | inr l ↦ by_excess P excess v l ]
    | inr k ↦ by_offer P offer v k
  ]

  pub by_energy_row : (P : Variable → Type 0) → P Balance → ((r : Row) → Contains t.limits r → P (Limit r)) → (v : Variable) → Contains (energy_rows t) v → P v
  by_energy_row P balance each v c = elim (Contains-cases Balance (map Limit t.limits) v c) [
    | inl e ↦ subst P e balance
    | inr k ↦ let l = mapped Limit t.limits v k in subst P l.2 (each l.0 l.1)
  ]

  pub by_reserve_row : (P : Variable → Type 0) → (m.reserve.listed ≡ true → P Need) → ((u : ℕ) → Contains t.rooms u → P (Room u)) → (v : Variable) → Contains (reserve_rows m t) v → P v
  by_reserve_row P need room v c = elim (Contains-append_cases (needs m.reserve.listed) (map Room t.rooms) v c) [
    | inl k ↦ by_needs P m.reserve.listed need v k
    | inr k ↦ let l = mapped Room t.rooms v k in subst P l.2 (room l.0 l.1)
  ]

  pub by_row : (P : Variable → Type 0) → P Balance → ((r : Row) → Contains t.limits r → P (Limit r)) → (m.reserve.listed ≡ true → P Need) → ((u : ℕ) → Contains t.rooms u → P (Room u))
      → (v : Variable) → Contains (row_variables m t) v → P v
  by_row P balance each need room v c = elim (Contains-append_cases (energy_rows t) (reserve_rows m t) v c) [
    | inl k ↦ by_energy_row P balance each v k
    | inr k ↦ by_reserve_row P need room v k
  ]

  pub column_is : (v : Variable) → Contains (columns m t) v → IsVariableOf m t v
  column_is = by_column (IsVariableOf m t) (λ j lt. lt) (λ r c e. ((c, e), (c, e))) (λ n lt. lt)

  pub row_is : (v : Variable) → Contains (row_variables m t) v → IsVariableOf m t v
  row_is = by_row (IsVariableOf m t) tt (λ r c. c) (λ e. e) (λ u c. c)

  -- the variables are the columns and the rows
  abbrev to_energy : List Variable
  to_energy = block_columns m ++ energy_rows t

  abbrev to_excess : List Variable
  to_excess = to_energy ++ excess_columns m t.limits

  abbrev to_offers : List Variable
  to_offers = to_excess ++ offer_columns m

  abbrev from_blocks : List Variable
  from_blocks = block_columns m ++ excess_columns m t.limits

  in_excess : (v : Variable) → Contains to_excess v → Contains (variables m t) v
  in_excess v c = Contains-append_left to_offers (reserve_rows m t) v (Contains-append_left to_excess (offer_columns m) v c)

  in_energy : (v : Variable) → Contains to_energy v → Contains (variables m t) v
  in_energy v c = in_excess v (Contains-append_left to_energy (excess_columns m t.limits) v c)

  column_among : (v : Variable) → Contains (columns m t) v → Contains (variables m t) v
  column_among v c = elim (Contains-append_cases from_blocks (offer_columns m) v c) [
    | inl k ↦ elim (Contains-append_cases (block_columns m) (excess_columns m t.limits) v k) [
      | inl l ↦ in_energy v (Contains-append_left (block_columns m) (energy_rows t) v l)
      | inr l ↦ in_excess v (Contains-append_right to_energy (excess_columns m t.limits) v l)
    ]
    | inr k ↦ Contains-append_left to_offers (reserve_rows m t) v (Contains-append_right to_excess (offer_columns m) v k)
  ]

  row_among : (v : Variable) → Contains (row_variables m t) v → Contains (variables m t) v
  row_among v c = elim (Contains-append_cases (energy_rows t) (reserve_rows m t) v c) [
    | inl k ↦ in_energy v (Contains-append_right (block_columns m) (energy_rows t) v k)
    | inr k ↦ Contains-append_right to_offers (reserve_rows m t) v k
  ]

  column_or_row : (v : Variable) → Contains (variables m t) v → Contains (columns m t) v ⊎ Contains (row_variables m t) v
  column_or_row v c = elim (Contains-append_cases to_offers (reserve_rows m t) v c) [
    | inr k ↦ inr (Contains-append_right (energy_rows t) (reserve_rows m t) v k)
    | inl k ↦ elim (Contains-append_cases to_excess (offer_columns m) v k) [
      | inr l ↦ inl (Contains-append_right from_blocks (offer_columns m) v l)
      | inl l ↦ elim (Contains-append_cases to_energy (excess_columns m t.limits) v l) [
        | inr n ↦ inl (Contains-append_left from_blocks (offer_columns m) v (Contains-append_right (block_columns m) (excess_columns m t.limits) v n))
        | inl n ↦ elim (Contains-append_cases (block_columns m) (energy_rows t) v n) [
          | inl o ↦ inl (Contains-append_left from_blocks (offer_columns m) v (Contains-append_left (block_columns m) (excess_columns m t.limits) v o))
          | inr o ↦ inr (Contains-append_left (energy_rows t) (reserve_rows m t) v o)
        ]
      ]
    ]
  ]

  pub variable_is : (v : Variable) → Contains (variables m t) v → IsVariableOf m t v
  variable_is v c = elim (column_or_row v c) [ inl k ↦ column_is v k | inr k ↦ row_is v k ]

  pub block_listed : (j : ℕ) → j < length m.blocks → Contains (columns m t) (Block j)
  block_listed j h = Contains-append_left from_blocks (offer_columns m) (Block j)
      (Contains-append_left (block_columns m) (excess_columns m t.limits) (Block j) (in_mapped Block (places (length m.blocks)) j (Contains-places (length m.blocks) j h)))

  pub excess_listed : (r : Row) → Contains t.limits r → is_soft m r ≡ true → Contains (columns m t) (Over r) × Contains (columns m t) (Under r)
  excess_listed r c e = let both = in_pairs soft r (Contains-filter (is_soft m) t.limits r c e) in (among (Over r) both.0, among (Under r) both.1)
    where
      among : (v : Variable) → Contains (excess_columns m t.limits) v → Contains (columns m t) v
      among v d = Contains-append_left from_blocks (offer_columns m) v (Contains-append_right (block_columns m) (excess_columns m t.limits) v d)

  pub offer_listed : (n : ℕ) → n < length m.reserve.offers → Contains (columns m t) (Offer n)
  offer_listed n h = Contains-append_right from_blocks (offer_columns m) (Offer n) (in_mapped Offer (offer_places m) n (Contains-places (length m.reserve.offers) n h))

  pub balance_in : Contains (row_variables m t) Balance
  balance_in = Contains-append_left (energy_rows t) (reserve_rows m t) Balance (Contains-head Balance (map Limit t.limits))

  pub limit_in : (r : Row) → Contains t.limits r → Contains (row_variables m t) (Limit r)
  limit_in r h = Contains-append_left (energy_rows t) (reserve_rows m t) (Limit r) (Contains-cons Balance (map Limit t.limits) (Limit r) (in_mapped Limit t.limits r h))

  pub need_in : m.reserve.listed ≡ true → Contains (row_variables m t) Need
  need_in e = Contains-append_right (energy_rows t) (reserve_rows m t) Need
      (Contains-append_left (needs m.reserve.listed) (map Room t.rooms) Need (subst (λ (b : Bool). Contains (needs b) Need) (sym e) (Contains-head Need [])))

  pub room_in : (u : ℕ) → Contains t.rooms u → Contains (row_variables m t) (Room u)
  room_in u c = Contains-append_right (energy_rows t) (reserve_rows m t) (Room u) (Contains-append_right (needs m.reserve.listed) (map Room t.rooms) (Room u) (in_mapped Room t.rooms u c))

  pub is_variable : (v : Variable) → IsVariableOf m t v → Contains (variables m t) v
  is_variable (Block j) h = column_among (Block j) (block_listed j h)
  is_variable Balance h = row_among Balance balance_in
  is_variable (Limit r) h = row_among (Limit r) (limit_in r h)
  is_variable (Over r) h = column_among (Over r) (excess_listed r h.0 h.1).0
  is_variable (Under r) h = column_among (Under r) (excess_listed r h.0 h.1).1
  is_variable (Offer n) h = column_among (Offer n) (offer_listed n h)
  is_variable Need h = row_among Need (need_in h)
  is_variable (Room u) h = row_among (Room u) (room_in u h)

  abbrev s : System
  s = system_over m t

  pub variable_in : (v : Variable) → IsVariableOf m t v → Contains s.variables (name m v)
  unfolding system_over
  variable_in v is = in_mapped (name m) (variables m t) v (is_variable v is)

  pub column_listed : (v : Variable) → Contains (columns m t) v → Contains s.columns (name m v)
  unfolding system_over
  column_listed v c = in_mapped (name m) (columns m t) v c

  pub row_listed : (v : Variable) → Contains (row_variables m t) v → Contains s.rows (name m v)
  unfolding system_over
  row_listed v c = in_mapped (name m) (row_variables m t) v c

  -- a name of its system is that of a variable, so what holds of each variable holds of each name
  pub by_variable : (P : ℕ → Type 0) → ((v : Variable) → IsVariableOf m t v → P (name m v)) → (w : ℕ) → Contains s.variables w → P w
  unfolding system_over
  by_variable P each w c = let k = mapped (name m) (variables m t) w c in subst P k.2 (each k.0 (variable_is k.0 k.1))

  -- its names
  row_names : (qs : List Row) → map (name m) (map Limit qs) ≡ map (row_name m) qs
  row_names qs = map-map Limit (name m) qs

  abbrev pub reserve_names : List ℕ
  reserve_names = (if m.reserve.listed then need_name m ∷ [] else []) ++ map (room_name m) t.rooms

  reserve_names_are : map (name m) (reserve_rows m t) ≡ reserve_names
  reserve_names_are = map-append (name m) (needs m.reserve.listed) (map Room t.rooms) ∙ ap₂ ◌++◌ (need_names m m.reserve.listed) (map-map Room (name m) t.rooms)

  pub columns_are : s.columns ≡ places (length m.blocks) ++ map (name m) (excess_columns m t.limits) ++ map (offer_name m) (offer_places m)
  unfolding system_over
  columns_are =
      map-append (name m) from_blocks (offer_columns m)
      ∙ ap₂ ◌++◌ (map-append (name m) (block_columns m) (excess_columns m t.limits) ∙ ap (λ (ws : List ℕ). ws ++ map (name m) (excess_columns m t.limits)) (block_names m)) (offer_names m)

  pub rows_are : s.rows ≡ (balance_name m ∷ map (row_name m) t.limits) ++ reserve_names
  unfolding system_over
  rows_are = map-append (name m) (energy_rows t) (reserve_rows m t) ∙ ap₂ (λ (ws us : List ℕ). (balance_name m ∷ ws) ++ us) (row_names t.limits) reserve_names_are

  pub variables_are : s.variables
      ≡ places (length m.blocks) ++ (balance_name m ∷ map (row_name m) t.limits) ++ map (name m) (excess_columns m t.limits) ++ map (offer_name m) (offer_places m) ++ reserve_names
  unfolding system_over
  variables_are =
      map-append (name m) to_offers (reserve_rows m t)
      ∙ ap₂ ◌++◌
      (map-append (name m) to_excess (offer_columns m)
      ∙ ap₂ ◌++◌
      (map-append (name m) to_energy (excess_columns m t.limits)
      ∙ ap (λ (ws : List ℕ). ws ++ map (name m) (excess_columns m t.limits))
      (map-append (name m) (block_columns m) (energy_rows t) ∙ ap₂ (λ (us ws : List ℕ). us ++ (balance_name m ∷ ws)) (block_names m) (row_names t.limits)))
      (offer_names m))
      reserve_names_are

  pub column_in : (j : ℕ) → j < length m.blocks → Contains s.columns j
  column_in j h = column_listed (Block j) (block_listed j h)

  pub offer_in : (n : ℕ) → n < length m.reserve.offers → Contains s.columns (offer_name m n)
  offer_in n h = column_listed (Offer n) (offer_listed n h)

  -- sums over them
  over_names : {X : Type 0} (f : ℕ → Fraction) (g : X → ℕ) (xs : List X) → sum_by f (map g xs) ≡ sum_by (λ x. f (g x)) xs
  over_names f g [] = refl
  over_names f g (x ∷ xs) = ap (λ t. f (g x) +ℚ t) (over_names f g xs)

  pub sum-columns : (f : ℕ → Fraction) → sum_by f s.columns
      ≡ (sum_by f (places (length m.blocks)) +ℚ sum_by (λ r. f (over_name m r) +ℚ f (under_name m r)) soft) +ℚ sum_by (λ n. f (offer_name m n)) (offer_places m)
  sum-columns f =
      ap (sum_by f) columns_are
      ∙ sum_by-append f (places (length m.blocks) ++ map (name m) (excess_columns m t.limits)) (map (offer_name m) (offer_places m))
      ∙ ap₂ ◌+ℚ◌
      (sum_by-append f (places (length m.blocks)) (map (name m) (excess_columns m t.limits)) ∙ ap (λ x. sum_by f (places (length m.blocks)) +ℚ x) (sum-pairs m f soft))
      (over_names f (offer_name m) (offer_places m))

  -- of numbers that are these at the columns
  sum-columns-at : (f g : ℕ → Fraction) (k : Row → Fraction) (o : ℕ → Fraction) → ((j : ℕ) → j < length m.blocks → f j ≡ g j)
      → ((r : Row) → Contains t.limits r → is_soft m r ≡ true → f (over_name m r) +ℚ f (under_name m r) ≡ k r) → ((n : ℕ) → n < length m.reserve.offers → f (offer_name m n) ≡ o n)
      → sum_by f s.columns ≡ (sum_by g (places (length m.blocks)) +ℚ sum_by k soft) +ℚ sum_by o (offer_places m)
  sum-columns-at f g k o same pair offer = sum-columns f ∙ ap₂ ◌+ℚ◌
      (ap₂ ◌+ℚ◌
      (sum_by-members f g (places (length m.blocks)) (λ j c. same j (Contains-from_places (length m.blocks) j c)))
      (sum_by-members (λ r. f (over_name m r) +ℚ f (under_name m r)) k soft (λ r c. let d = Contains-from_filter (is_soft m) t.limits r c in pair r d.0 d.1)))
      (sum_by-members (λ n. f (offer_name m n)) o (offer_places m) (λ n c. offer n (Contains-from_places (length m.reserve.offers) n c)))

  pub sum-rows : (f : ℕ → Fraction) → sum_by f s.rows
      ≡ (f (balance_name m) +ℚ sum_by (λ r. f (row_name m r)) t.limits) +ℚ (kept m.reserve.listed (f (need_name m)) +ℚ sum_by (λ u. f (room_name m u)) t.rooms)
  unfolding system_over
  sum-rows f =
      ap (sum_by f) (map-append (name m) (energy_rows t) (reserve_rows m t)) ∙ sum_by-append f (map (name m) (energy_rows t)) (map (name m) (reserve_rows m t))
      ∙ ap₂ ◌+ℚ◌
      (ap (λ x. f (balance_name m) +ℚ x) (ap (sum_by f) (row_names t.limits) ∙ over_names f (row_name m) t.limits))
      (ap (sum_by f) (map-append (name m) (needs m.reserve.listed) (map Room t.rooms)) ∙ sum_by-append f (map (name m) (needs m.reserve.listed)) (map (name m) (map Room t.rooms))
      ∙ ap₂ ◌+ℚ◌ (sum-needs m f m.reserve.listed) (ap (sum_by f) (map-map Room (name m) t.rooms) ∙ over_names f (room_name m) t.rooms))

  pub sum-variables : (f : ℕ → Fraction) → sum_by f s.variables ≡ sum_by f s.columns +ℚ sum_by f s.rows
  unfolding system_over
  sum-variables f =
      let sum_of : List Variable → Fraction = λ vs. sum_by f (map (name m) vs) in
      both to_offers (reserve_rows m t)
      ∙ ap (λ x. x +ℚ sum_of (reserve_rows m t))
      (both to_excess (offer_columns m)
      ∙ ap (λ x. x +ℚ sum_of (offer_columns m))
      (both to_energy (excess_columns m t.limits) ∙ ap (λ x. x +ℚ sum_of (excess_columns m t.limits)) (both (block_columns m) (energy_rows t))))
      ∙ by_ring ring_ℚ (sum_of (block_columns m) ∷ sum_of (energy_rows t) ∷ sum_of (excess_columns m t.limits) ∷ sum_of (offer_columns m) ∷ sum_of (reserve_rows m t) ∷ [])
      ((((at 0 ⊕ at 1) ⊕ at 2) ⊕ at 3) ⊕ at 4) (((at 0 ⊕ at 2) ⊕ at 3) ⊕ (at 1 ⊕ at 4)) refl
      ∙ ap₂ ◌+ℚ◌
      (sym (both from_blocks (offer_columns m) ∙ ap (λ x. x +ℚ sum_of (offer_columns m)) (both (block_columns m) (excess_columns m t.limits))))
      (sym (both (energy_rows t) (reserve_rows m t)))
    where
      both : (us vs : List Variable) → sum_by f (map (name m) (us ++ vs)) ≡ sum_by f (map (name m) us) +ℚ sum_by f (map (name m) vs)
      both us vs = ap (sum_by f) (map-append (name m) us vs) ∙ sum_by-append f (map (name m) us) (map (name m) vs)

  -- where the rows are of the market and in its order, and the rooms in that of the units
  module _ (ordered : AreInOrder m t) where
    abbrev before : Variable → Variable → Type 0
    before u v = name m u < name m v

    -- names of blocks are below the balance's, those of limit rows are from there on, those of the other columns behind all of these, then those of
    -- offers, and those of the need and the rooms
    block_below : (v : Variable) → Contains (block_columns m) v → name m v < balance_name m
    block_below = by_block (λ v. name m v < balance_name m) (λ j lt. lt)

    energy_between : (v : Variable) → Contains (energy_rows t) v → (balance_name m ≤ name m v) × (name m v < length m.blocks + 1 + length (rows m))
    energy_between = by_energy_row (λ v. (balance_name m ≤ name m v) × (name m v < length m.blocks + 1 + length (rows m)))
        (Prim.omega arith, Prim.omega arith)
        (λ r c. let below = row_place-below m r (ordered.limits.rows r c) in (Prim.omega arith, Prim.omega (arith, below)))

    excess_between : (v : Variable) → Contains (excess_columns m t.limits) v → (length m.blocks + 1 + length (rows m) ≤ name m v) × (name m v < offer_name m 0)
    excess_between = by_excess (λ v. (length m.blocks + 1 + length (rows m) ≤ name m v) × (name m v < offer_name m 0))
        (λ r c e. let below = row_place-below m r (ordered.limits.rows r c) in ((Prim.omega arith, Prim.omega (arith, below)), (Prim.omega arith, Prim.omega (arith, below))))

    offer_between : (v : Variable) → Contains (offer_columns m) v → (offer_name m 0 ≤ name m v) × (name m v < need_name m)
    offer_between = by_offer (λ v. (offer_name m 0 ≤ name m v) × (name m v < need_name m)) (λ n lt. (Prim.omega arith, Prim.omega (arith, lt)))

    reserve_above : (v : Variable) → Contains (reserve_rows m t) v → need_name m ≤ name m v
    reserve_above = by_reserve_row (λ v. need_name m ≤ name m v) (λ e. Prim.omega arith) (λ u c. Prim.omega arith)

    energy_below : (v : Variable) → Contains to_energy v → name m v < length m.blocks + 1 + length (rows m)
    energy_below v c = elim (Contains-append_cases (block_columns m) (energy_rows t) v c) [ inl k ↦ Prim.omega (arith, block_below v k) | inr k ↦ (energy_between v k).1 ]

    excess_below : (v : Variable) → Contains to_excess v → name m v < offer_name m 0
    excess_below v c = elim (Contains-append_cases to_energy (excess_columns m t.limits) v c) [ inl k ↦ Prim.omega (arith, energy_below v k) | inr k ↦ (excess_between v k).1 ]

    offers_below : (v : Variable) → Contains to_offers v → name m v < need_name m
    offers_below v c = elim (Contains-append_cases to_excess (offer_columns m) v c) [ inl k ↦ Prim.omega (arith, excess_below v k) | inr k ↦ (offer_between v k).1 ]

    blocks_ascend : Ascend (name m) (block_columns m)
    blocks_ascend = pairs-map before Block (places (length m.blocks)) (AllPairs-from_increasing (places (length m.blocks)) (places_ascend (length m.blocks)))

    energy_ascend : Ascend (name m) (energy_rows t)
    energy_ascend =
        AllPairs-cons before Balance (map Limit t.limits)
        (All-map (λ (v : Variable). name m Balance < name m v) Limit t.limits (λ k d lt. Prim.omega arith))
        (pairs-map before Limit t.limits ordered.limits.ascend)

    excess_ascend : Ascend (name m) (excess_columns m t.limits)
    excess_ascend = pairs_ascend m soft (AllPairs-filter (λ (a b : Row). row_name m a < row_name m b) (is_soft m) t.limits ordered.limits.ascend)

    offers_ascend : Ascend (name m) (offer_columns m)
    offers_ascend = pairs-map before Offer (offer_places m)
        (λ i j d lt h. let less = AllPairs-from_increasing (offer_places m) (places_ascend (length m.reserve.offers)) i j d lt h in Prim.omega (arith, less))

    reserve_ascend : Ascend (name m) (reserve_rows m t)
    reserve_ascend =
        pairs-append before (needs m.reserve.listed) (map Room t.rooms) (needs_ascend m m.reserve.listed)
        (pairs-map before Room t.rooms (λ i j d lt h. let less = ordered.rooms i j d lt h in Prim.omega (arith, less)))
        (λ u v c d. by_needs (λ (x : Variable). before x v) m.reserve.listed
        (λ e. let l = mapped Room t.rooms v d in subst (λ (x : Variable). before Need x) l.2 (Prim.omega arith)) u c)

    variables_ascend : Ascend (name m) (variables m t)
    variables_ascend =
        pairs-append before to_offers (reserve_rows m t)
        (pairs-append before to_excess (offer_columns m)
        (pairs-append before to_energy (excess_columns m t.limits)
        (pairs-append before (block_columns m) (energy_rows t) blocks_ascend energy_ascend (λ u v c d. Prim.omega (arith, block_below u c, (energy_between v d).0)))
        excess_ascend (λ u v c d. Prim.omega (arith, energy_below u c, (excess_between v d).0)))
        offers_ascend (λ u v c d. Prim.omega (arith, excess_below u c, (offer_between v d).0)))
        reserve_ascend (λ u v c d. Prim.omega (arith, offers_below u c, reserve_above v d))

    columns_below : (v : Variable) → Contains from_blocks v → name m v < offer_name m 0
    columns_below v c = elim (Contains-append_cases (block_columns m) (excess_columns m t.limits) v c) [ inl k ↦ Prim.omega (arith, block_below v k) | inr k ↦ (excess_between v k).1 ]

    columns_ascend : Ascend (name m) (columns m t)
    columns_ascend =
        pairs-append before from_blocks (offer_columns m)
        (pairs-append before (block_columns m) (excess_columns m t.limits) blocks_ascend excess_ascend (λ u v c d. Prim.omega (arith, block_below u c, (excess_between v d).0)))
        offers_ascend (λ u v c d. Prim.omega (arith, columns_below u c, (offer_between v d).0))

    rows_ascend : Ascend (name m) (row_variables m t)
    rows_ascend = pairs-append before (energy_rows t) (reserve_rows m t) energy_ascend reserve_ascend (λ u v c d. Prim.omega (arith, (energy_between u c).1, reserve_above v d))

    -- the variable of its name
    pub variable_at : (v : Variable) → IsVariableOf m t v → variable_of m t (name m v) ≡ v
    variable_at v is = named-at (name m) (variables m t) variables_ascend v (is_variable v is)

    column_no_row : (u v : Variable) → Contains (columns m t) u → Contains (row_variables m t) v → name m u ≢ name m v
    column_no_row u v c d e = elim (Contains-append_cases (energy_rows t) (reserve_rows m t) v d) [
      | inr l ↦ elim (Contains-append_cases from_blocks (offer_columns m) u c) [
        | inl k ↦ Prim.omega (arith, columns_below u k, reserve_above v l, e)
        | inr k ↦ Prim.omega (arith, (offer_between u k).1, reserve_above v l, e)
      ]
      | inl l ↦ elim (Contains-append_cases from_blocks (offer_columns m) u c) [
        | inr k ↦ Prim.omega (arith, (offer_between u k).0, (energy_between v l).1, e)
        | inl k ↦ elim (Contains-append_cases (block_columns m) (excess_columns m t.limits) u k) [
          | inl n ↦ Prim.omega (arith, block_below u n, (energy_between v l).0, e)
          | inr n ↦ Prim.omega (arith, (excess_between u n).0, (energy_between v l).1, e)
        ]
      ]
    ]

    pub is_system_over : IsSystem s
    unfolding system_over
    is_system_over = record {
      ascending = ascend_by_name (name m) (variables m t) variables_ascend;
      columns_ascend = ascend_by_name (name m) (columns m t) columns_ascend;
      rows_ascend = ascend_by_name (name m) (row_variables m t) rows_ascend;
      column = in_more (name m) (columns m t) (variables m t) column_among;
      row = in_more (name m) (row_variables m t) (variables m t) row_among;
      either = λ w c. let k = mapped (name m) (variables m t) w c in elim (column_or_row k.0 k.1) [
        | inl l ↦ inl (subst (Contains (map (name m) (columns m t))) k.2 (in_mapped (name m) (columns m t) k.0 l))
        | inr l ↦ inr (subst (Contains (map (name m) (row_variables m t))) k.2 (in_mapped (name m) (row_variables m t) k.0 l))
      ];
      apart = λ w c d. let k = mapped (name m) (columns m t) w c in let l = mapped (name m) (row_variables m t) w d in column_no_row k.0 l.0 k.1 l.1 (k.2 ∙ sym l.2);
    }

    -- what the system has at the names of variables
    pub coefficient-at : (r j : Variable) → IsVariableOf m t r → IsVariableOf m t j → s.coefficient (name m r) (name m j) ≡ coefficient m r j
    unfolding system_over
    coefficient-at r j is_row is_column = ap₂ (coefficient m) (variable_at r is_row) (variable_at j is_column)

    pub price-at : (j : Variable) → IsVariableOf m t j → s.price (name m j) ≡ objective_price m j
    unfolding system_over
    price-at j is = ap (objective_price m) (variable_at j is)

    pub low-at : (v : Variable) → IsVariableOf m t v → s.low (name m v) ≡ low m v
    unfolding system_over
    low-at v is = ap (low m) (variable_at v is)

    pub high-at : (v : Variable) → IsVariableOf m t v → s.high (name m v) ≡ high m v
    unfolding system_over
    high-at v is = ap (high m) (variable_at v is)

    -- what a row makes of a point: of its blocks, of the columns of soft rows, and of offers
    pub activity-at : (v : ℕ → Fraction) (r : Variable) → IsVariableOf m t r → activity s v (name m r)
        ≡ (sum_by (λ j. coefficient m r (Block j) *ℚ v j) (places (length m.blocks)) +ℚ sum_by (λ q. coefficient m r (Over q) *ℚ v (over_name m q) +ℚ coefficient m r (Under q) *ℚ v (under_name m q)) soft)
        +ℚ sum_by (λ n. coefficient m r (Offer n) *ℚ v (offer_name m n)) (offer_places m)
    unfolding activity
    activity-at v r is =
        sum-columns-at (λ j. s.coefficient (name m r) j *ℚ v j) (λ j. coefficient m r (Block j) *ℚ v j) (λ q. coefficient m r (Over q) *ℚ v (over_name m q) +ℚ coefficient m r (Under q) *ℚ v (under_name m q))
        (λ n. coefficient m r (Offer n) *ℚ v (offer_name m n))
        (λ j h. ap (λ x. x *ℚ v j) (coefficient-at r (Block j) is h))
        (λ q c e. ap₂ (λ (a b : Fraction). a *ℚ v (over_name m q) +ℚ b *ℚ v (under_name m q)) (coefficient-at r (Over q) is (c, e)) (coefficient-at r (Under q) is (c, e)))
        (λ n h. ap (λ x. x *ℚ v (offer_name m n)) (coefficient-at r (Offer n) is h))

    -- parts of it that are 0
    no_blocks : (v : ℕ → Fraction) → sum_by (λ j. zero *ℚ v j) (places (length m.blocks)) ≡ zero
    no_blocks v = sum_by-same (λ j. zero *ℚ v j) (λ j. zero) (places (length m.blocks)) (λ j. by_ring ring_ℚ (v j ∷ []) (pnil ⊗ at 0) pnil refl) ∙ sum_by-nil (places (length m.blocks))

    no_excess : (v : ℕ → Fraction) → sum_by (λ q. zero *ℚ v (over_name m q) +ℚ zero *ℚ v (under_name m q)) soft ≡ zero
    no_excess v =
        sum_by-same (λ q. zero *ℚ v (over_name m q) +ℚ zero *ℚ v (under_name m q)) (λ q. zero) soft
        (λ q. by_ring ring_ℚ (v (over_name m q) ∷ v (under_name m q) ∷ []) (pnil ⊗ at 0 ⊕ pnil ⊗ at 1) pnil refl) ∙ sum_by-nil soft

    no_offer : (v : ℕ → Fraction) → sum_by (λ n. zero *ℚ v (offer_name m n)) (offer_places m) ≡ zero
    no_offer v = sum_by-same (λ n. zero *ℚ v (offer_name m n)) (λ n. zero) (offer_places m) (λ n. by_ring ring_ℚ (v (offer_name m n) ∷ []) (pnil ⊗ at 0) pnil refl) ∙ sum_by-nil (offer_places m)

    pub activity-balance : (v : ℕ → Fraction) → activity s v (balance_name m) ≡ sum_by (λ j. block_sign m j *ℚ v j) (places (length m.blocks))
    activity-balance v =
        activity-at v Balance tt
        ∙ ap₂ (λ (a b : Fraction). (sum_by (λ j. block_sign m j *ℚ v j) (places (length m.blocks)) +ℚ a) +ℚ b) (no_excess v) (no_offer v)
        ∙ by_ring ring_ℚ (sum_by (λ j. block_sign m j *ℚ v j) (places (length m.blocks)) ∷ []) ((at 0 ⊕ pnil) ⊕ pnil) (at 0) refl

    -- of its blocks, and of its own two columns where it is soft
    pub activity-limit : (v : ℕ → Fraction) (r : Row) → Contains t.limits r → activity s v (row_name m r) ≡ sum_by (λ j. block_coefficient m r j *ℚ v j) (places (length m.blocks)) +ℚ (under_in m v r -ℚ over_in m v r)
    activity-limit v r c =
        activity-at v (Limit r) c
        ∙ ap₂ (λ (a b : Fraction). (sum_by (λ j. block_coefficient m r j *ℚ v j) (places (length m.blocks)) +ℚ a) +ℚ b)
        (sum_by-filter own (is_soft m) t.limits
        ∙ sum_by-alone (λ q. kept (is_soft m q) (own q)) r t.limits (ordered-distinct m t.limits ordered.limits) c (λ q k n. ap (kept (is_soft m q)) (by_same (same_row r q) q (same_row-not r q (λ e. n (sym e)))) ∙ nothing (is_soft m q))
        ∙ ap (λ (b : Bool). kept (is_soft m r) (signed b r)) (same_row-itself r) ∙ here (is_soft m r))
        (no_offer v)
        ∙ ring_ℚ.plus_nil (sum_by (λ j. block_coefficient m r j *ℚ v j) (places (length m.blocks)) +ℚ (under_in m v r -ℚ over_in m v r))
      where
        signed : Bool → Row → Fraction
        signed b q = (if b then neg_ℚ (whole (pos 1)) else zero) *ℚ v (over_name m q) +ℚ (if b then whole (pos 1) else zero) *ℚ v (under_name m q)

        own : Row → Fraction
        own q = at_row r q (neg_ℚ (whole (pos 1))) *ℚ v (over_name m q) +ℚ at_row r q (whole (pos 1)) *ℚ v (under_name m q)

        by_same : (b : Bool) (q : Row) → b ≡ false → signed b q ≡ zero
        by_same true q e = absurd Prim.cc
        by_same false q e = by_ring ring_ℚ (v (over_name m q) ∷ v (under_name m q) ∷ []) (pnil ⊗ at 0 ⊕ pnil ⊗ at 1) pnil refl

        here : (b : Bool) → kept b (neg_ℚ (whole (pos 1)) *ℚ v (over_name m r) +ℚ whole (pos 1) *ℚ v (under_name m r)) ≡ kept b (v (under_name m r)) -ℚ kept b (v (over_name m r))
        here true = by_ring ring_ℚ (v (over_name m r) ∷ v (under_name m r) ∷ []) (pneg pone ⊗ at 0 ⊕ pone ⊗ at 1) (at 1 ⊕ pneg (at 0)) refl
        here false = by_ring ring_ℚ [] pnil (pnil ⊕ pneg pnil) refl

    -- of all offers, for the need
    pub activity-need : (v : ℕ → Fraction) → m.reserve.listed ≡ true → activity s v (need_name m) ≡ sum_by (λ n. v (offer_name m n)) (offer_places m)
    activity-need v e =
        activity-at v Need e
        ∙ ap₂ (λ (a b : Fraction). (a +ℚ b) +ℚ sum_by (λ n. whole (pos 1) *ℚ v (offer_name m n)) (offer_places m)) (no_blocks v) (no_excess v)
        ∙ by_ring ring_ℚ (sum_by (λ n. whole (pos 1) *ℚ v (offer_name m n)) (offer_places m) ∷ []) ((pnil ⊕ pnil) ⊕ at 0) (at 0) refl
        ∙ sum_by-same (λ n. whole (pos 1) *ℚ v (offer_name m n)) (λ n. v (offer_name m n)) (offer_places m) (λ n. by_ring ring_ℚ (v (offer_name m n) ∷ []) (pone ⊗ at 0) (at 0) refl)

    -- of a unit's blocks and of its offers, for its room
    pub activity-room : (v : ℕ → Fraction) (u : ℕ) → Contains t.rooms u → activity s v (room_name m u)
        ≡ sum_by (λ j. at_unit u (block_at m j).unit (block_sign m j) *ℚ v j) (places (length m.blocks)) +ℚ sum_by (λ n. at_unit u (offer_at m n).unit (whole (pos 1)) *ℚ v (offer_name m n)) (offer_places m)
    activity-room v u c =
        activity-at v (Room u) c
        ∙ ap (λ x. (sum_by (λ j. at_unit u (block_at m j).unit (block_sign m j) *ℚ v j) (places (length m.blocks)) +ℚ x) +ℚ sum_by (λ n. at_unit u (offer_at m n).unit (whole (pos 1)) *ℚ v (offer_name m n)) (offer_places m)) (no_excess v)
        ∙ ap (λ x. x +ℚ sum_by (λ n. at_unit u (offer_at m n).unit (whole (pos 1)) *ℚ v (offer_name m n)) (offer_places m))
        (ring_ℚ.plus_nil (sum_by (λ j. at_unit u (block_at m j).unit (block_sign m j) *ℚ v j) (places (length m.blocks))))

    -- and what a point is worth: of its blocks, of the columns of soft rows, and of offers
    pub objective-at : (v : ℕ → Fraction) → objective s v
        ≡ (sum_by (λ j. block_value m j *ℚ v j) (places (length m.blocks)) +ℚ sum_by (λ r. neg_ℚ (penalty m r) *ℚ (v (over_name m r) +ℚ v (under_name m r))) soft)
        +ℚ sum_by (λ n. neg_ℚ (offer_price m n) *ℚ v (offer_name m n)) (offer_places m)
    unfolding objective
    objective-at v =
        sum-columns-at (λ j. s.price j *ℚ v j) (λ j. block_value m j *ℚ v j) (λ r. neg_ℚ (penalty m r) *ℚ (v (over_name m r) +ℚ v (under_name m r)))
        (λ n. neg_ℚ (offer_price m n) *ℚ v (offer_name m n))
        (λ j h. ap (λ x. x *ℚ v j) (price-at (Block j) h))
        (λ r c e. ap₂ (λ (a b : Fraction). a *ℚ v (over_name m r) +ℚ b *ℚ v (under_name m r)) (price-at (Over r) (c, e)) (price-at (Under r) (c, e))
        ∙ sym (ring_ℚ.times_plus (neg_ℚ (penalty m r)) (v (over_name m r)) (v (under_name m r))))
        (λ n h. ap (λ x. x *ℚ v (offer_name m n)) (price-at (Offer n) h))
