-- Which columns of the system of prices are kept, and that the others have to be 0.
use Rattle.std.specs.Prelude.{◌≡◌, ℕ, Bool, true, false, cond, if◌then◌else◌, List, [], ◌∷◌, ◌++◌, filter, map, Contains, refl}
use Rattle.std.specs.List.{flat_map}
use Rattle.std.proofs.Common.{ap, ap₂, sym, ◌∙◌, subst, inl, inr}
use Rattle.std.proofs.lemmas.List.Elements.{Contains-append_cases, Contains-append_left, Contains-append_right, filter-append}
use Rattle.fraction_theory.specs.Fraction.{Fraction, neg_ℚ}
use Rattle.fraction_theory.specs.Order.{◌<ℚ◌}
use Rattle.fraction_theory.proofs.ListSums.{Contains-cons, Contains-filter, Contains-from_filter, Contains-head}
use Rattle.fraction_theory.proofs.OrderLaws.{<ℚ-not-≤ℚ, <ℚ-≤ℚ}
use Rattle.linear_dict.proofs.NameLemmas.{among-not, among-tells}
use Rattle.limit_rows.proofs.ApartLemmas.{names_apart}
use Rattle.limit_screen.specs.Reaching.{are_same, reaches, uses_up}
use Rattle.limit_screen.proofs.ReachLemmas.{below_tells}
use Rattle.market_model.specs.declared.limits.Row.{Row}
use Rattle.market_model.specs.declared.participants.Parts.{Parts}
use Rattle.market_model.specs.Dispatch.{Dispatch, zero}
use Rattle.market_model.specs.LimitRows.{flow, limit, most_flow, penalty, rows}
use Rattle.market_model.specs.Market.{IsMarket}
use Rattle.market_model.specs.Reserves.{reserve_units}
use Rattle.market_model.proofs.RowMembers.{Contains-from_map, Contains-map}
use Rattle.market_system.proofs.DualLists.{rows_apart}
use Rattle.market_system.proofs.RowOrder.{RowsApart}
use Rattle.fewer_columns.specs.Fewer.{MayLeave, fewer}
use Rattle.price_system.specs.PriceSystem.{Caps, high, least_price, low, most_price, name, price_system, prices, two_sides, variable_of, worths}
use Rattle.price_system.specs.declared.variables.Variable.{Variable}
use Rattle.price_system.specs.declared.variables.Variable.TheVariants.{Energy, Reserve, Up, Down, Room, Sum, Block, Offer}
use Rattle.price_system.proofs.BoundLemmas.{flow_below, opposite_below}
use Rattle.price_system.proofs.NameLemmas.{IsVariable, variable_at, variable_is}
use Rattle.price_system.proofs.SizeLemmas.{opposite_nil}
use Rattle.price_system.proofs.SystemLemmas.{is_system}
use Rattle.price_system.proofs.WorthLemmas.{high-at, low-at}
use Rattle.price_dict.specs.Reached.{columns_put, is_kept, reached_system}

-- ---- plain lists
filter-mapped : {X : Type 0} (f : X → ℕ) (p : ℕ → Bool) (q : X → Bool) (xs : List X) → ((x : X) → Contains xs x → p (f x) ≡ q x) → filter p (map f xs) ≡ map f (filter q xs)
filter-mapped f p q [] same = refl
filter-mapped f p q (x ∷ xs) same =
    ap₂ (λ (b : Bool) (ys : List ℕ). cond b (f x ∷ ys) ys) (same x (Contains-head x xs)) (filter-mapped f p q xs (λ y c. same y (Contains-cons x xs y c)))
    ∙ by (q x)
  where
    by : (b : Bool) → cond b (f x ∷ map f (filter q xs)) (map f (filter q xs)) ≡ map f (cond b (x ∷ filter q xs) (filter q xs))
    by true = refl
    by false = refl

-- ---- a flow below its limit
module _ (m : Parts) (c : Caps) (r : Row) (f : Fraction) (less : f <ℚ limit m r) where
  most_nil : most_price m c r f ≡ zero
  most_nil = elim (below_tells f (limit m r)) [
    | inl t ↦ ap (λ (b : Bool). if b then zero else if are_same f (most_flow m r) then c.most else penalty m r) t.0
    | inr t ↦ absurd (<ℚ-not-≤ℚ f (limit m r) less t.1)
  ]

  least_nil : least_price m r f ≡ zero
  least_nil = elim (below_tells (limit m r) f) [
    | inl t ↦ absurd (<ℚ-not-≤ℚ f (limit m r) less (<ℚ-≤ℚ (limit m r) f t.1))
    | inr t ↦ ap (λ (b : Bool). if b then penalty m r else zero) t.0
  ]

module _ (m : Parts) (x : Dispatch) where
  -- whether a variable is kept
  abbrev pub stays : Variable → Bool
  stays Energy = true
  stays Reserve = true
  stays (Up r) = reaches (flow m x r) (limit m r)
  stays (Down r) = reaches (flow m x r) (limit m r)
  stays (Room u) = uses_up m x u
  stays Sum = true
  stays (Block j) = true
  stays (Offer n) = true

  -- ---- the columns that are put in are those prices
  sides_kept : (rs : List Row) → filter stays (flat_map two_sides rs) ≡ flat_map two_sides (filter (λ r. reaches (flow m x r) (limit m r)) rs)
  sides_kept [] = refl
  sides_kept (r ∷ rs) =
      by (reaches (flow m x r) (limit m r)) (filter stays (flat_map two_sides rs)) (filter (λ s. reaches (flow m x s) (limit m s)) rs) (sides_kept rs)
    where
      by : (b : Bool) (vs : List Variable) (ss : List Row) → vs ≡ flat_map two_sides ss
          → cond b (Up r ∷ cond b (Down r ∷ vs) vs) (cond b (Down r ∷ vs) vs) ≡ flat_map two_sides (cond b (r ∷ ss) ss)
      by true vs ss e = ap (λ (ws : List Variable). Up r ∷ Down r ∷ ws) e
      by false vs ss e = e

  rooms_kept : (us : List ℕ) → filter stays (map Room us) ≡ map Room (filter (uses_up m x) us)
  rooms_kept [] = refl
  rooms_kept (u ∷ us) = by (uses_up m x u) (filter stays (map Room us)) (filter (uses_up m x) us) (rooms_kept us)
    where
      by : (b : Bool) (vs : List Variable) (ws : List ℕ) → vs ≡ map Room ws → cond b (Room u ∷ vs) vs ≡ map Room (cond b (u ∷ ws) ws)
      by true vs ws e = ap (λ (zs : List Variable). Room u ∷ zs) e
      by false vs ws e = e

  put_kept : filter stays (prices m) ≡ columns_put m x
  put_kept =
      ap (λ (vs : List Variable). Energy ∷ Reserve ∷ vs)
      (filter-append stays (flat_map two_sides (rows m)) (map Room (reserve_units m)) ∙ ap₂ ◌++◌ (sides_kept (rows m)) (rooms_kept (reserve_units m)))

  pub put_price : (v : Variable) → Contains (columns_put m x) v → Contains (prices m) v × (stays v ≡ true)
  put_price v k = Contains-from_filter stays (prices m) v (subst (λ (vs : List Variable). Contains vs v) (sym put_kept) k)

  put_listed : (v : Variable) → Contains (prices m) v → stays v ≡ true → Contains (columns_put m x) v
  put_listed v k e = subst (λ (vs : List Variable). Contains vs v) put_kept (Contains-filter stays (prices m) v k e)

  -- ---- those that are not have to be 0
  pub low_nil : (c : Caps) (v : Variable) → stays v ≡ false → low m x c v ≡ zero
  low_nil c Energy e = absurd cc
  low_nil c Reserve e = absurd cc
  low_nil c (Up r) e =
      ap neg_ℚ (most_nil m c r (flow m x r) (flow_below (flow m x r) (limit m r) e)) ∙ opposite_nil
  low_nil c (Down r) e =
      ap neg_ℚ (most_nil m c r (neg_ℚ (flow m x r)) (opposite_below (flow m x r) (limit m r) e)) ∙ opposite_nil
  low_nil c (Room u) e = ap (λ (b : Bool). neg_ℚ (if b then c.most else zero)) e ∙ opposite_nil
  low_nil c Sum e = absurd cc
  low_nil c (Block j) e = absurd cc
  low_nil c (Offer n) e = absurd cc

  pub high_nil : (c : Caps) (v : Variable) → stays v ≡ false → high m x c v ≡ zero
  high_nil c Energy e = absurd cc
  high_nil c Reserve e = absurd cc
  high_nil c (Up r) e =
      ap neg_ℚ (least_nil m c r (flow m x r) (flow_below (flow m x r) (limit m r) e)) ∙ opposite_nil
  high_nil c (Down r) e =
      ap neg_ℚ (least_nil m c r (neg_ℚ (flow m x r)) (opposite_below (flow m x r) (limit m r) e)) ∙ opposite_nil
  high_nil c (Room u) e = refl
  high_nil c Sum e = absurd cc
  high_nil c (Block j) e = absurd cc
  high_nil c (Offer n) e = absurd cc

  -- ---- by their names
  module _ (market : IsMarket m) where
    distinct : RowsApart m
    distinct = rows_apart m (names_apart m market)

    abbrev named : List Variable
    named = columns_put m x ++ worths m

    pub put_is : (v : Variable) → Contains named v → IsVariable m v
    put_is v k = elim (Contains-append_cases (columns_put m x) (worths m) v k) [
      | inl p ↦ variable_is m v (Contains-append_left (prices m) (worths m) v (put_price v p).0)
      | inr w ↦ variable_is m v (Contains-append_right (prices m) (worths m) v w)
    ]

    pub price_is : (v : Variable) → Contains (prices m) v → IsVariable m v
    price_is v k = variable_is m v (Contains-append_left (prices m) (worths m) v k)

    one_name : (v w : Variable) → IsVariable m v → IsVariable m w → name m v ≡ name m w → v ≡ w
    one_name v w is also e = sym (variable_at m distinct v is) ∙ ap (variable_of m) e ∙ variable_at m distinct w also

    -- no price is a row
    no_row : (v : Variable) → Contains (prices m) v → ¬ (Contains (worths m) v)
    unfolding price_system
    no_row v k l =
        let system = is_system m distinct x (record { most = zero; factor = zero; range = zero }) in
        system.apart (name m v) (Contains-map (name m) (prices m) v k) (Contains-map (name m) (worths m) v l)

    pub put_is_kept : (v : Variable) → Contains named v → is_kept m x (name m v) ≡ true
    put_is_kept v k = among-tells (map (name m) named) (name m v) (Contains-map (name m) named v k)

    pub kept_is : (v : Variable) → Contains (prices m) v → is_kept m x (name m v) ≡ stays v
    kept_is v k = by (stays v) refl
      where
        by : (b : Bool) → stays v ≡ b → is_kept m x (name m v) ≡ b
        by true e = put_is_kept v (Contains-append_left (columns_put m x) (worths m) v (put_listed v k e))
        by false e = among-not (map (name m) named) (name m v)
            (λ l.
            let from = Contains-from_map (name m) named (name m v) l in
            let same : from.0 ≡ v = one_name from.0 v (put_is from.0 from.1) (price_is v k) from.2 in
            let here : Contains named v = subst (Contains named) same from.1 in
            elim (Contains-append_cases (columns_put m x) (worths m) v here) [
              | inl p ↦ let wrong : true ≡ false = sym (put_price v p).1 ∙ e in absurd cc
              | inr w ↦ absurd (no_row v k w)
            ])

    pub columns_are : (c : Caps) → (reached_system m x c).columns ≡ map (name m) (columns_put m x)
    unfolding fewer price_system
    columns_are c = filter-mapped (name m) (is_kept m x) stays (prices m) kept_is ∙ ap (map (name m)) put_kept

    -- so the other columns may be left out
    pub may_leave : (c : Caps) → MayLeave (price_system m x c) (is_kept m x)
    unfolding price_system
    may_leave c = record { rows = row_kept; low = low_left; high = high_left }
      where
        row_kept : (r : ℕ) → Contains (map (name m) (worths m)) r → is_kept m x r ≡ true
        row_kept r k =
            let v = Contains-from_map (name m) (worths m) r k in
            subst (λ (w : ℕ). is_kept m x w ≡ true) v.2 (put_is_kept v.0 (Contains-append_right (columns_put m x) (worths m) v.0 v.1))

        left : (j : ℕ) (v : Variable) → Contains (prices m) v → name m v ≡ j → is_kept m x j ≡ false → stays v ≡ false
        left j v k n e = sym (kept_is v k) ∙ ap (is_kept m x) n ∙ e

        low_left : (j : ℕ) → Contains (map (name m) (prices m)) j → is_kept m x j ≡ false → (price_system m x c).low j ≡ zero
        low_left j k e =
            let v = Contains-from_map (name m) (prices m) j k in
            subst (λ (w : ℕ). (price_system m x c).low w ≡ zero) v.2 (low-at m x c market v.0 (price_is v.0 v.1) ∙ low_nil c v.0 (left j v.0 v.1 v.2 e))

        high_left : (j : ℕ) → Contains (map (name m) (prices m)) j → is_kept m x j ≡ false → (price_system m x c).high j ≡ zero
        high_left j k e =
            let v = Contains-from_map (name m) (prices m) j k in
            subst (λ (w : ℕ). (price_system m x c).high w ≡ zero) v.2 (high-at m x c market v.0 (price_is v.0 v.1) ∙ high_nil c v.0 (left j v.0 v.1 v.2 e))
