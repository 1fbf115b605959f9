-- What the columns of a dictionary that holds prices say: the duals of its point, with 0 for what it does not hold.
use Rattle.std.specs.Prelude.{◌≡◌, ℕ, ◌+◌, ◌*◌, ◌<◌, ◌&&◌, Bool, true, false, cond, if◌then◌else◌, List, [], ◌∷◌, ◌++◌, filter, length, map, slice_index, take, Contains, refl}
use Rattle.std.specs.List.{flat_map}
use Rattle.std.proofs.Common.{zero as nought, suc, arith, ap, ap₂, sym, ◌∙◌, subst, inl, inr, get_or}
use Rattle.std.proofs.lemmas.Grind.{flat_map-append}
use Rattle.std.proofs.lemmas.List.{append-nil, get_or-append-add, get_or-map, get_or_append_left, length-append, length-map, take_more}
use Rattle.std.proofs.lemmas.List.Elements.{Contains-append_left, Contains-append_right}
use Rattle.fraction_theory.specs.Fraction.{Fraction, neg_ℚ}
use Rattle.fraction_theory.proofs.ListSums.{Contains-cons, Contains-from_filter, Contains-head}
use Rattle.linear_dict.specs.Dictionaries.{Dictionary, note_of}
use Rattle.limit_screen.specs.Reaching.{reaches, used_up_units, uses_up}
use Rattle.limit_screen.proofs.ReachLemmas.{nil_tells}
use Rattle.market_model.specs.declared.answered.Dual.{Dual}
use Rattle.market_model.specs.declared.answered.Duals.{Duals}
use Rattle.market_model.specs.declared.answered.RoomDual.{RoomDual}
use Rattle.market_model.specs.declared.answered.RowId.{RowId}
use Rattle.market_model.specs.declared.limits.Row.{Row}
use Rattle.market_model.specs.declared.participants.Parts.{Parts}
use Rattle.market_model.specs.Dispatch.{Dispatch, unit_at, zero}
use Rattle.market_model.specs.LimitRows.{IsCauseOf, flow, limit, row_id, rows}
use Rattle.market_model.specs.Market.{IsMarket}
use Rattle.market_model.specs.Reserves.{reserve_units}
use Rattle.market_model.specs.Valued.{duals_with}
use Rattle.market_model.proofs.RoomLemmas.{listed-inside}
use Rattle.market_model.proofs.RowMembers.{Contains-flat, Contains-map, at_places}
use Rattle.simplex_core.specs.States.{state_of}
use Rattle.fewer_columns.specs.Fewer.{with_nil}
use Rattle.price_system.specs.PriceSystem.{down_name, duals_of, limit_dual, name, prices, room_dual, room_name, two_sides, up_name}
use Rattle.price_system.specs.declared.variables.Variable.{Variable}
use Rattle.price_system.specs.declared.variables.Variable.TheVariants.{Energy, Reserve, Up, Down, Room}
use Rattle.price_system.proofs.BackLemmas.{flat-members}
use Rattle.price_system.proofs.NameLemmas.{length-sides, sides_at}
use Rattle.price_system.proofs.SizeLemmas.{opposite_nil}
use Rattle.price_dict.specs.declared.reached.Reached.{Reached}
use Rattle.price_dict.specs.Holding.{HoldsPrices}
use Rattle.price_dict.specs.Reached.{AreReached, columns_put, is_kept, reached_rows}
use Rattle.price_search.specs.Reading.{limit_noted, price_noted, room_noted}
use Rattle.price_search.proofs.KeptLemmas.{kept_is, stays}

-- ---- plain lists
pub flat_more : {X Y : Type 0} (f : X → List Y) (xs : List X) (k : ℕ) (d : X) → k < length xs → flat_map f (take (k + 1) xs) ≡ flat_map f (take k xs) ++ f (get_or xs k d)
flat_more {X} {Y} f xs k d lt =
    ap (flat_map f) (take_more xs k d lt)
    ∙ flat_map-append f (take k xs) (get_or xs k d ∷ [])
    ∙ ap (λ (ys : List Y). flat_map f (take k xs) ++ ys) (append-nil (f (get_or xs k d)))

-- what has nothing may be left out
flat-filtered : {X Y : Type 0} (f : X → List Y) (p : X → Bool) (xs : List X) → ((x : X) → Contains xs x → p x ≡ false → f x ≡ []) → flat_map f xs ≡ flat_map f (filter p xs)
flat-filtered f p [] none = refl
flat-filtered {X} {Y} f p (x ∷ xs) none = by (p x) refl (flat-filtered f p xs (λ y c. none y (Contains-cons x xs y c)))
  where
    by : (b : Bool) → p x ≡ b → flat_map f xs ≡ flat_map f (filter p xs) → f x ++ flat_map f xs ≡ flat_map f (cond b (x ∷ filter p xs) (filter p xs))
    by true e same = ap (λ (ys : List Y). f x ++ ys) same
    by false e same = ap (λ (ys : List Y). ys ++ flat_map f xs) (none x (Contains-head x xs) e) ∙ same

-- ---- duals of 0
limit_none : (id : RowId) (a b : Fraction) → a ≡ zero → b ≡ zero → limit_dual id a b ≡ []
limit_none id a b e f = ap₂ (λ (x y : Fraction). limit_dual id x y) e f ∙ elim (nil_tells zero) [
  | inl t ↦ ap₂ (λ (x y : Bool). if x && y then [] else record { row = id; up = zero; down = zero } ∷ []) t.0 t.0
  | inr t ↦ absurd (t.1 refl)
]

room_none : (row : ℕ) (a : Fraction) → a ≡ zero → room_dual row a ≡ []
room_none row a e = ap (room_dual row) e ∙ elim (nil_tells zero) [
  | inl t ↦ ap (λ (x : Bool). if x then [] else record { unit = row; price = zero } ∷ []) t.0
  | inr t ↦ absurd (t.1 refl)
]

-- ---- where the columns stand
module _ (m : Parts) (x : Dispatch) (reached : Reached) (d : Dictionary) (are : AreReached m x reached) (holds : HoldsPrices m x d) where
  abbrev sides : List Variable
  sides = flat_map two_sides (reached_rows m x)

  abbrev rooms : List Variable
  rooms = map Room (used_up_units m x)

  row_count : length reached.rows.now ≡ length (reached_rows m x)
  row_count = ap length are.rows

  unit_count : length reached.units.now ≡ length (used_up_units m x)
  unit_count = ap length are.units

  put_count : length d.columns ≡ length (columns_put m x)
  put_count = ap length holds.columns ∙ length-map (columns_put m x) (name m)

  behind_count : length (sides ++ rooms) ≡ 2 * length reached.rows.now + length reached.units.now
  behind_count = length-append sides rooms ∙ Prim.omega (arith, length-sides (reached_rows m x), length-map (used_up_units m x) Room, row_count, unit_count)

  pub column_count : length d.columns ≡ 2 + (2 * length reached.rows.now + length reached.units.now)
  column_count = put_count ∙ Prim.omega (arith, behind_count)

  column_at : (k : ℕ) → k < length d.columns → slice_index d.columns k ≡ name m (get_or (columns_put m x) k Energy)
  column_at k lt = ap (λ (ws : List ℕ). slice_index ws k) holds.columns ∙ get_or-map (name m) (columns_put m x) k Energy 0 (Prim.omega (arith, lt, put_count))

  energy_at : slice_index d.columns 0 ≡ name m Energy
  energy_at = column_at 0 (Prim.omega (arith, column_count))

  reserve_at : slice_index d.columns 1 ≡ name m Reserve
  reserve_at = column_at 1 (Prim.omega (arith, column_count))

  side_column : (k : ℕ) → k < 2 * length reached.rows.now → slice_index d.columns (2 + k) ≡ name m (get_or sides k Energy)
  side_column k lt =
      column_at (2 + k) (Prim.omega (arith, lt, column_count))
      ∙ ap (name m) (get_or-append-add (Energy ∷ Reserve ∷ []) (sides ++ rooms) k Energy
      ∙ get_or_append_left sides rooms Energy k (Prim.omega (arith, lt, row_count, length-sides (reached_rows m x))))

  pub up_at : (k : ℕ) (e : Row) → k < length reached.rows.now → slice_index d.columns (2 + 2 * k) ≡ up_name m (get_or reached.rows.now k e)
  up_at k e lt =
      let both = sides_at (reached_rows m x) k (2 * k) Energy e (Prim.omega (arith, lt, row_count)) refl in
      side_column (2 * k) (Prim.omega (arith, lt)) ∙ ap (name m) both.0 ∙ ap (λ (rs : List Row). up_name m (get_or rs k e)) (sym are.rows)

  pub down_at : (k : ℕ) (e : Row) → k < length reached.rows.now → slice_index d.columns (3 + 2 * k) ≡ down_name m (get_or reached.rows.now k e)
  down_at k e lt =
      let both = sides_at (reached_rows m x) k (2 * k) Energy e (Prim.omega (arith, lt, row_count)) refl in
      ap (slice_index d.columns) (let same : 3 + 2 * k ≡ 2 + suc (2 * k) = Prim.omega arith in same)
      ∙ side_column (suc (2 * k)) (Prim.omega (arith, lt)) ∙ ap (name m) both.1 ∙ ap (λ (rs : List Row). down_name m (get_or rs k e)) (sym are.rows)

  pub room_at : (k e : ℕ) → k < length reached.units.now → slice_index d.columns (2 + 2 * length reached.rows.now + k) ≡ room_name m (get_or reached.units.now k e)
  room_at k e lt =
      column_at (2 + 2 * length reached.rows.now + k) (Prim.omega (arith, lt, column_count))
      ∙ ap (λ (n : ℕ). name m (get_or (columns_put m x) n Energy))
      (let same : 2 + 2 * length reached.rows.now + k ≡ 2 + (length sides + k) = Prim.omega (arith, row_count, length-sides (reached_rows m x)) in same)
      ∙ ap (name m) (get_or-append-add (Energy ∷ Reserve ∷ []) (sides ++ rooms) (length sides + k) Energy
      ∙ get_or-append-add sides rooms k Energy
      ∙ get_or-map Room (used_up_units m x) k e Energy (Prim.omega (arith, lt, unit_count))
      ∙ ap (λ (us : List ℕ). Room (get_or us k e)) (sym are.units))

  -- a limit that is reached is one of the market, and a unit whose room is used up offers reserve
  pub row_among : (k : ℕ) (e : Row) → k < length reached.rows.now → Contains (rows m) (get_or reached.rows.now k e)
  row_among k e lt =
      let here : Contains (reached_rows m x) (get_or reached.rows.now k e) = subst (λ (rs : List Row). Contains rs (get_or reached.rows.now k e)) are.rows (k, lt, same_default reached.rows.now k e) in
      (Contains-from_filter (λ r. reaches (flow m x r) (limit m r)) (rows m) (get_or reached.rows.now k e) here).0
    where
      same_default : (rs : List Row) (k : ℕ) (e : Row) → get_or rs k (get_or rs k e) ≡ get_or rs k e
      same_default [] k e = refl
      same_default (r ∷ rs) nought e = refl
      same_default (r ∷ rs) (suc k) e = same_default rs k e

  pub unit_among : (k e : ℕ) → k < length reached.units.now → Contains (reserve_units m) (get_or reached.units.now k e)
  unit_among k e lt =
      let here : Contains (used_up_units m x) (get_or reached.units.now k e) = subst (λ (us : List ℕ). Contains us (get_or reached.units.now k e)) are.units (k, lt, same_default reached.units.now k e) in
      (Contains-from_filter (uses_up m x) (reserve_units m) (get_or reached.units.now k e) here).0
    where
      same_default : (us : List ℕ) (k e : ℕ) → get_or us k (get_or us k e) ≡ get_or us k e
      same_default [] k e = refl
      same_default (u ∷ us) nought e = refl
      same_default (u ∷ us) (suc k) e = same_default us k e

  -- ---- what is read of one more
  module _ (k : ℕ) (e : Row) (lt : k < length reached.rows.now) where
    pub row_inside : IsMarket m → ((get_or reached.rows.now k e).line < length m.lines) × IsCauseOf m (get_or reached.rows.now k e).cause
    row_inside market = at_places m market (get_or reached.rows.now k e) (row_among k e lt)

    pub limit_more : (old new : List (Dual Fraction)) (id : RowId) (a b : Fraction) → old ≡ flat_map (limit_noted m d) (take k reached.rows.now) → new ≡ old ++ limit_dual id a b
        → id ≡ row_id m (get_or reached.rows.now k e) → a ≡ price_noted d (slice_index d.columns (2 + 2 * k)) → b ≡ price_noted d (slice_index d.columns (3 + 2 * k))
        → new ≡ flat_map (limit_noted m d) (take (k + 1) reached.rows.now)
    limit_more old new id a b before more named up down =
        let r : Row = get_or reached.rows.now k e in
        let here : limit_dual id a b ≡ limit_noted m d r =
        ap (λ (i : RowId). limit_dual i a b) named
        ∙ ap₂ (λ (p q : Fraction). limit_dual (row_id m r) p q) (up ∙ ap (price_noted d) (up_at k e lt)) (down ∙ ap (price_noted d) (down_at k e lt)) in
        more ∙ ap₂ (λ (xs ys : List (Dual Fraction)). xs ++ ys) before here ∙ sym (flat_more (limit_noted m d) reached.rows.now k e lt)

  module _ (k : ℕ) (lt : k < length reached.units.now) where
    pub unit_inside : get_or reached.units.now k 0 < length m.units
    unit_inside = listed-inside m (get_or reached.units.now k 0) (unit_among k 0 lt)

    pub room_more : (old new : List (RoomDual Fraction)) (row count : ℕ) (a : Fraction) → old ≡ flat_map (room_noted m d) (take k reached.units.now) → new ≡ old ++ room_dual row a
        → row ≡ (unit_at m (get_or reached.units.now k 0)).row → count ≡ length reached.rows.now → a ≡ price_noted d (slice_index d.columns (2 + 2 * count + k))
        → new ≡ flat_map (room_noted m d) (take (k + 1) reached.units.now)
    room_more old new row count a before more named size price =
        let u : ℕ = get_or reached.units.now k 0 in
        let here : room_dual row a ≡ room_noted m d u =
        ap₂ (λ (i : ℕ) (p : Fraction). room_dual i p) named (price ∙ ap (λ (n : ℕ). price_noted d (slice_index d.columns (2 + 2 * n + k))) size ∙ ap (price_noted d) (room_at k 0 lt)) in
        more ∙ ap₂ (λ (xs ys : List (RoomDual Fraction)). xs ++ ys) before here ∙ sym (flat_more (room_noted m d) reached.units.now k 0 lt)

-- ---- the duals of the point
module _ (m : Parts) (x : Dispatch) (d : Dictionary) (market : IsMarket m) where
  abbrev point : ℕ → Fraction
  point = with_nil (is_kept m x) (state_of d).value

  price_held : (v : Variable) → Contains (prices m) v → stays m x v ≡ true → neg_ℚ (point (name m v)) ≡ price_noted d (name m v)
  unfolding state_of
  price_held v k e = ap (λ (b : Bool). neg_ℚ (if b then (note_of d (name m v)).value else zero)) (kept_is m x market v k ∙ e)

  price_gone : (v : Variable) → Contains (prices m) v → stays m x v ≡ false → neg_ℚ (point (name m v)) ≡ zero
  price_gone v k e = ap (λ (b : Bool). neg_ℚ (if b then (state_of d).value (name m v) else zero)) (kept_is m x market v k ∙ e) ∙ opposite_nil

  abbrev behind : List Variable
  behind = flat_map two_sides (rows m) ++ map Room (reserve_units m)

  behind_listed : (v : Variable) → Contains behind v → Contains (prices m) v
  behind_listed v k = Contains-append_right (Energy ∷ Reserve ∷ []) behind v k

  side_listed : (r : Row) (v : Variable) → Contains (rows m) r → Contains (two_sides r) v → Contains (prices m) v
  side_listed r v k l = behind_listed v (Contains-append_left (flat_map two_sides (rows m)) (map Room (reserve_units m)) v (Contains-flat two_sides (rows m) r v k l))

  up_listed : (r : Row) → Contains (rows m) r → Contains (prices m) (Up r)
  up_listed r k = side_listed r (Up r) k (Contains-head (Up r) (Down r ∷ []))

  down_listed : (r : Row) → Contains (rows m) r → Contains (prices m) (Down r)
  down_listed r k = side_listed r (Down r) k (Contains-cons (Up r) (Down r ∷ []) (Down r) (Contains-head (Down r) []))

  room_listed : (u : ℕ) → Contains (reserve_units m) u → Contains (prices m) (Room u)
  room_listed u k = behind_listed (Room u) (Contains-append_right (flat_map two_sides (rows m)) (map Room (reserve_units m)) (Room u) (Contains-map Room (reserve_units m) u k))

  energy_shown : price_noted d (name m Energy) ≡ (duals_of m point).energy
  energy_shown = sym (price_held Energy (Contains-head Energy (Reserve ∷ behind)) refl)

  reserve_shown : price_noted d (name m Reserve) ≡ (duals_of m point).reserve
  reserve_shown = sym (price_held Reserve (Contains-cons Energy (Reserve ∷ behind) Reserve (Contains-head Reserve behind)) refl)

  abbrev limit_of : Row → List (Dual Fraction)
  limit_of r = limit_dual (row_id m r) (neg_ℚ (point (up_name m r))) (neg_ℚ (point (down_name m r)))

  limits_are : flat_map (limit_noted m d) (reached_rows m x) ≡ (duals_of m point).limits
  limits_are =
      let test : Row → Bool = λ r. reaches (flow m x r) (limit m r) in
      flat-members (limit_noted m d) limit_of (filter test (rows m))
      (λ r k.
      let l = Contains-from_filter test (rows m) r k in
      ap₂ (λ (a b : Fraction). limit_dual (row_id m r) a b) (sym (price_held (Up r) (up_listed r l.0) l.1)) (sym (price_held (Down r) (down_listed r l.0) l.1)))
      ∙ sym (flat-filtered limit_of test (rows m)
      (λ r k e. limit_none (row_id m r) (neg_ℚ (point (up_name m r))) (neg_ℚ (point (down_name m r))) (price_gone (Up r) (up_listed r k) e) (price_gone (Down r) (down_listed r k) e)))

  abbrev room_of : ℕ → List (RoomDual Fraction)
  room_of u = room_dual (unit_at m u).row (neg_ℚ (point (room_name m u)))

  rooms_are : flat_map (room_noted m d) (used_up_units m x) ≡ (duals_of m point).rooms
  rooms_are =
      flat-members (room_noted m d) room_of (filter (uses_up m x) (reserve_units m))
      (λ u k.
      let l = Contains-from_filter (uses_up m x) (reserve_units m) u k in
      ap (room_dual (unit_at m u).row) (sym (price_held (Room u) (room_listed u l.0) l.1)))
      ∙ sym (flat-filtered room_of (uses_up m x) (reserve_units m) (λ u k e. room_none (unit_at m u).row (neg_ℚ (point (room_name m u))) (price_gone (Room u) (room_listed u k) e)))

-- what is read is those duals
pub duals_are : (m : Parts) (x : Dispatch) (reached : Reached) (d : Dictionary) → IsMarket m → AreReached m x reached → HoldsPrices m x d
    → (energy reserve : Fraction) (limits : List (Dual Fraction)) (rooms : List (RoomDual Fraction)) → energy ≡ price_noted d (slice_index d.columns 0)
    → limits ≡ flat_map (limit_noted m d) (reached_rows m x) → reserve ≡ price_noted d (slice_index d.columns 1) → rooms ≡ flat_map (room_noted m d) (used_up_units m x)
    → duals_with energy limits reserve rooms ≡ duals_of m (with_nil (is_kept m x) (state_of d).value)
duals_are m x reached d market are holds energy reserve limits rooms first sides second priced =
    let all : Duals Fraction = duals_of m (with_nil (is_kept m x) (state_of d).value) in
    let energy_is : energy ≡ all.energy = first ∙ ap (price_noted d) (energy_at m x reached d are holds) ∙ energy_shown m x d market in
    let limits_is : limits ≡ all.limits = sides ∙ limits_are m x d market in
    let reserve_is : reserve ≡ all.reserve = second ∙ ap (price_noted d) (reserve_at m x reached d are holds) ∙ reserve_shown m x d market in
    let rooms_is : rooms ≡ all.rooms = priced ∙ rooms_are m x d market in
    ap₂ (λ (p : Fraction) (ls : List (Dual Fraction)). duals_with p ls reserve rooms) energy_is limits_is
    ∙ ap₂ (λ (p : Fraction) (rs : List (RoomDual Fraction)). duals_with all.energy all.limits p rs) reserve_is rooms_is
