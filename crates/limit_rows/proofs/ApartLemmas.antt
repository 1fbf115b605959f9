-- No two rows of a market have one name.
use Rattle.std.specs.Prelude.{◌≡◌, ◌≢◌, ◌⊎◌, ℕ, ◌<◌, ◌≤◌, pos, List, [], ◌∷◌, ◌++◌, map, length, All, AllPairs, Contains}
use Rattle.std.specs.List.{flat_map}
use Rattle.std.proofs.Common.{suc, arith, inl, inr, ap, sym, subst, subst₂, ◌∙◌, get_or}
use Rattle.std.proofs.lemmas.List.{get_or-map}
use Rattle.std.proofs.lemmas.List.FromFn.{length-range_with_len}
use Rattle.std.proofs.lemmas.List.Elements.{All-append, All-map, All-nil}
use Rattle.std.proofs.lemmas.List.Kept.{AllPairs-cons, AllPairs-filter}
use Rattle.std.proofs.lemmas.Bool.{cases_lt}
use Rattle.market_model.specs.declared.participants.Parts.{Parts}
use Rattle.market_model.specs.declared.answered.RowId.{RowId}
use Rattle.market_data.specs.Participants.{IsUnit}
use Rattle.market_data.specs.declared.participants.Unit as unit
use Rattle.market_model.specs.Dispatch.{places, unit_at}
use Rattle.market_model.specs.Market.{IsMarket}
use Rattle.market_model.proofs.ChangeLemmas.{same_default}
use Rattle.market_model.proofs.PlainMarkets.{distinct_by_rise}
use Rattle.market_model.specs.declared.limits.Row.{Row}
use Rattle.market_model.specs.declared.limits.Cause.{Cause}
use Rattle.market_model.specs.declared.limits.Cause.TheVariants.{Base, Branch, UnitOutage}
use Rattle.market_model.specs.LimitRows.{lost_lines, lost_unit, outage_of, unit_of, place_of_line, row_id, rows, bears, causes, rows_of}
use Rattle.limit_rows.proofs.FactorLemmas.{outage_stands}
use Rattle.market_model.proofs.LostLemmas.{place_at, row_at, row-of_outage}
use Rattle.limit_rows.proofs.GroupLemmas.{length-map, rows-causes}
use Rattle.market_model.proofs.RowMembers.{lost_unit-in, row_on, lines_of}
use Rattle.limit_rows.specs.Naming.{IsCauseNamed}

-- ---- lists whose elements are apart
AllPairs-append : {X : Type 0} (R : X → X → Type 0) (xs ys : List X) → AllPairs R xs → AllPairs R ys → All (λ x. All (R x) ys) xs → AllPairs R (xs ++ ys)
AllPairs-append R [] ys a b c = b
AllPairs-append R (x ∷ xs) ys a b c =
    AllPairs-cons R x (xs ++ ys)
    (All-append (R x) xs ys (λ k d lt. a 0 (suc k) d (Prim.omega arith) (Prim.omega (arith, lt))) (c 0 x (Prim.omega arith)))
    (AllPairs-append R xs ys (λ i j d p q. a (suc i) (suc j) d (Prim.omega (arith, p)) (Prim.omega (arith, q))) b (λ k d lt. c (suc k) d (Prim.omega (arith, lt))))

AllPairs-map : {X Y : Type 0} (R : Y → Y → Type 0) (f : X → Y) (xs : List X) (e : X) → AllPairs (λ x y. R (f x) (f y)) xs → AllPairs R (map f xs)
AllPairs-map R f xs e h i j d p q =
    let inside : j < length xs = Prim.omega (arith, q, length-map f xs) in
    subst (λ y. R y (get_or (map f xs) j d)) (sym (get_or-map f xs i e d (Prim.omega (arith, inside, p))))
    (subst (R (f (get_or xs i e))) (sym (get_or-map f xs j e d inside)) (h i j e p inside))

-- of a list whose elements are apart no two that are not apart are two
pub one_of_apart : {X : Type 0} (Same : X → X → Type 0) (xs : List X) → ((x y : X) → Same x y → Same y x) → AllPairs (λ x y. ¬ (Same x y)) xs
    → (x y : X) → Contains xs x → Contains xs y → Same x y → x ≡ y
one_of_apart {X} Same xs turned apart x y (i, p, e) (j, q, f) same = by_order (cases_lt i j) (cases_lt j i)
  where
    not_before : (i j : ℕ) (x y : X) → i < j → j < length xs → get_or xs i x ≡ x → get_or xs j y ≡ y → Same x y → ⊥
    not_before i j x y below inside f g h = apart i j x below inside (subst₂ Same (sym f) (sym (same_default xs j x y inside ∙ g)) h)

    by_order : (i < j) ⊎ (j ≤ i) → (j < i) ⊎ (i ≤ j) → x ≡ y
    by_order (inl h) k = absurd (not_before i j x y h q e f same)
    by_order (inr h) (inl k) = absurd (not_before j i y x k p f e (turned x y same))
    by_order (inr h) (inr k) =
        let here : i ≡ j = Prim.omega (arith, h, k) in
        sym e ∙ ap (λ (n : ℕ). get_or xs n x) here ∙ same_default xs j x y q ∙ f

all_places : (P : ℕ → Type 0) (n : ℕ) → ((k : ℕ) → k < n → P k) → All P (places n)
all_places P n h i d lt =
    let inside : i < n = Prim.omega (arith, lt, length-range_with_len 0 n) in
    subst P (sym (place_at n i d inside)) (h i inside)

-- ---- units by their rows
module _ (m : Parts) (market : IsMarket m) where
  unit_row_at : (u d : ℕ) → u < length m.units → get_or (map (λ u. u.row) m.units) u d ≡ (unit_at m u).row
  unit_row_at u d lt = get_or-map (λ (u : unit.Unit). u.row) m.units u (record { row = 0; bus = 0; fixed = pos 0; up = pos 0; down = pos 0 }) d lt

  not_one_row : (u v : ℕ) → u < v → v < length m.units → (unit_at m u).row ≢ (unit_at m v).row
  not_one_row u v below lt =
      let long : v < length (map (λ (u : unit.Unit). u.row) m.units) = Prim.omega (arith, lt, length-map (λ (u : unit.Unit). u.row) m.units) in
      λ e. distinct_by_rise (map (λ (u : unit.Unit). u.row) m.units) market.unit_rows u v 0 below long (unit_row_at u 0 (Prim.omega (arith, below, lt)) ∙ e ∙ sym (unit_row_at v 0 lt))

  pub unit_of_row : (u v : ℕ) → u < length m.units → v < length m.units → (unit_at m u).row ≡ (unit_at m v).row → u ≡ v
  unit_of_row u v p q e = by (cases_lt u v) (cases_lt v u)
    where
      by : (u < v) ⊎ (v ≤ u) → (v < u) ⊎ (u ≤ v) → u ≡ v
      by (inl h) k = absurd (not_one_row u v h q e)
      by (inr h) (inl k) = absurd (not_one_row v u k p (sym e))
      by (inr h) (inr k) = Prim.omega (arith, h, k)

  pub lost_row : (k : ℕ) → k < length m.unit_outages → 1 ≤ (unit_at m (lost_unit m k)).row
  lost_row k lt = let is : IsUnit (length m.buses) (unit_at m (lost_unit m k)) = market.units (lost_unit m k) _ (lost_unit-in m market k lt) in is.row

-- ---- names
-- causes lose the same branch and the same unit, or none
abbrev pub SameLoss : Parts → Cause → Cause → Type 0
SameLoss m g h = IsCauseNamed m g (outage_of m h) (unit_of m h)

abbrev Differ : Parts → Row → Row → Type 0
Differ m r s = row_id m r ≢ row_id m s

abbrev Apart : Parts → Cause → Cause → Type 0
Apart m g h = ¬ (SameLoss m g h)

module _ (m : Parts) (market : IsMarket m) where
  units_apart : AllPairs (λ j k. Apart m (UnitOutage j) (UnitOutage k)) (places (length m.unit_outages))
  units_apart i j d p q =
      let inside : j < length m.unit_outages = Prim.omega (arith, q, length-range_with_len 0 (length m.unit_outages)) in
      let below : i < length m.unit_outages = Prim.omega (arith, p, inside) in
      subst₂ (λ a b. Apart m (UnitOutage a) (UnitOutage b)) (sym (place_at (length m.unit_outages) i d below)) (sym (place_at (length m.unit_outages) j d inside))
      (λ same. market.unit_outages.distinct i j 0 p inside
      (unit_of_row m market (lost_unit m i) (lost_unit m j) (lost_unit-in m market i below) (lost_unit-in m market j inside) same.unit))

  causes_apart : AllPairs (Apart m) (causes m)
  causes_apart =
      let units : List ℕ = places (length m.unit_outages) in
      AllPairs-cons (Apart m) Base (map Branch (lost_lines m) ++ map UnitOutage (places (length m.unit_outages)))
      (All-append (Apart m Base) (map Branch (lost_lines m)) (map UnitOutage (places (length m.unit_outages)))
      (All-map (Apart m Base) Branch (lost_lines m)
      (All-map (λ l. Apart m Base (Branch l)) (place_of_line m) m.outages (λ k d lt same. absurd (let h = (outage_stands m market k d lt).1 in Prim.omega (arith, h, same.branch)))))
      (All-map (Apart m Base) UnitOutage (places (length m.unit_outages))
      (all_places (λ k. Apart m Base (UnitOutage k)) (length m.unit_outages) (λ k lt same. absurd (let h = lost_row m market k lt in Prim.omega (arith, h, same.unit))))))
      (AllPairs-append (Apart m) (map Branch (lost_lines m)) (map UnitOutage (places (length m.unit_outages)))
      (AllPairs-map (Apart m) Branch (lost_lines m) 0
      (AllPairs-map (λ k l. Apart m (Branch k) (Branch l)) (place_of_line m) m.outages 0
      (λ i j d p q same. market.outages_distinct i j d p q (sym (row-of_outage m market i d (Prim.omega (arith, p, q))) ∙ same.branch ∙ row-of_outage m market j d q))))
      (AllPairs-map (Apart m) UnitOutage (places (length m.unit_outages)) 0 units_apart)
      (All-map (λ g. All (Apart m g) (map UnitOutage (places (length m.unit_outages)))) Branch (lost_lines m)
      (All-map (λ l. All (Apart m (Branch l)) (map UnitOutage (places (length m.unit_outages)))) (place_of_line m) m.outages
      (λ i d lt. All-map (Apart m (Branch (place_of_line m (get_or m.outages i d)))) UnitOutage (places (length m.unit_outages))
      (all_places (λ k. Apart m (Branch (place_of_line m (get_or m.outages i d))) (UnitOutage k)) (length m.unit_outages)
      (λ k below same. absurd (let h = (outage_stands m market i d lt).1 in Prim.omega (arith, h, same.branch))))))))

  -- causes of one loss are one
  pub same_cause : (g h : Cause) → Contains (causes m) g → Contains (causes m) h → SameLoss m g h → g ≡ h
  same_cause = one_of_apart (SameLoss m) (causes m) (λ g h same. record { branch = sym same.branch; unit = sym same.unit }) causes_apart

  in_group : (cause : Cause) → AllPairs (Differ m) (rows_of m cause)
  in_group cause =
      AllPairs-map (Differ m) (row_on cause) (lines_of m cause) 0
      (AllPairs-filter (λ k l. Differ m (row_on cause k) (row_on cause l)) (bears m cause) (places (length m.lines)) apart)
    where
      apart : AllPairs (λ k l. Differ m (row_on cause k) (row_on cause l)) (places (length m.lines))
      apart i j d p q =
          let inside : j < length m.lines = Prim.omega (arith, q, length-range_with_len 0 (length m.lines)) in
          let below : i < length m.lines = Prim.omega (arith, p, inside) in
          let long : j < length (map (λ line. line.row) m.lines) = Prim.omega (arith, inside, length-map (λ line. line.row) m.lines) in
          subst (λ (k : ℕ). Differ m (row_on cause k) (row_on cause (get_or (places (length m.lines)) j d))) (sym (place_at (length m.lines) i d below))
          (subst (λ (l : ℕ). Differ m (row_on cause i) (row_on cause l)) (sym (place_at (length m.lines) j d inside))
          (λ e. market.line_rows i j 0 p long (row_at m market i 0 below ∙ ap (λ (n : RowId). n.branch) e ∙ sym (row_at m market j 0 inside))))

  -- rows under other causes have other losses
  others : (g : Cause) (gs : List Cause) → All (Apart m g) gs → All (λ s. Apart m g s.cause) (flat_map (rows_of m) gs)
  others g [] h = All-nil (λ s. Apart m g s.cause)
  others g (x ∷ xs) h =
      All-append (λ s. Apart m g s.cause) (rows_of m x) (flat_map (rows_of m) xs)
      (All-map (λ s. Apart m g s.cause) (row_on x) (lines_of m x) (λ k d lt. h 0 x (Prim.omega arith)))
      (others g xs (λ k d lt. h (suc k) d (Prim.omega (arith, lt))))

  flat_apart : (gs : List Cause) → AllPairs (Apart m) gs → AllPairs (Differ m) (flat_map (rows_of m) gs)
  flat_apart [] h = λ i j d p q. absurd (Prim.omega (arith, q))
  flat_apart (g ∷ gs) h =
      AllPairs-append (Differ m) (rows_of m g) (flat_map (rows_of m) gs) (in_group g)
      (flat_apart gs (λ i j d p q. h (suc i) (suc j) d (Prim.omega (arith, p)) (Prim.omega (arith, q))))
      (All-map (λ r. All (Differ m r) (flat_map (rows_of m) gs)) (row_on g) (lines_of m g)
      (λ k d lt. λ i e here. λ same.
      others g gs (λ n f below. h 0 (suc n) f (Prim.omega arith) (Prim.omega (arith, below))) i e here
      (record { branch = ap (λ (n : RowId). n.outage) same; unit = ap (λ (n : RowId). n.unit) same })))

  apart : AllPairs (Differ m) (rows m)
  apart = subst (AllPairs (Differ m)) (sym (rows-causes m)) (flat_apart (causes m) causes_apart)

  -- so a name tells its row
  pub same_row : (r s : Row) → Contains (rows m) r → Contains (rows m) s → row_id m r ≡ row_id m s → r ≡ s
  same_row = one_of_apart (λ r s. row_id m r ≡ row_id m s) (rows m) (λ r s e. sym e) apart

pub names_apart : (m : Parts) → IsMarket m → AllPairs (Differ m) (rows m)
names_apart m market = apart m market
