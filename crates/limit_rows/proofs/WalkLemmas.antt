-- The walk over the rows of a market.
use Rattle.std.specs.Prelude.{◌≡◌, ℕ, ◌+◌, ◌*◌, ◌<◌, ◌≤◌, Bool, true, false, cond, List, [], ◌∷◌, ◌++◌, length, map, filter, Contains, Option, Some, None, refl}
use Rattle.std.specs.List.{flat_map, slice_get}
use Rattle.std.specs.Iterator.{Yields, YieldsFirst}
use Rattle.std.proofs.Common.{arith, ap, sym, subst, ◌∙◌, drop, length-append}
use Rattle.std.proofs.Math.Nat.{mul-le-mul}
use Rattle.std.proofs.lemmas.List.{append-nil, drop_all, drop_more, length-drop}
use Rattle.std.proofs.lemmas.List.Elements.{Contains-append_right}
use Rattle.std.proofs.lemmas.List.FromFn.{length-range_with_len}
use Rattle.std.proofs.lemmas.Option.{slice_get_within, get_or_from_slice_get}
use Rattle.fraction_theory.proofs.ListSums.{Contains-head}
use Rattle.market_data.specs.Scales.{most_lines, most_outages, most_units}
use Rattle.market_model.specs.declared.participants.Parts.{Parts}
use Rattle.market_model.specs.Dispatch.{places}
use Rattle.market_model.specs.declared.limits.Cause.{Cause}
use Rattle.market_model.specs.declared.limits.Row.{Row}
use Rattle.market_model.specs.LimitRows.{bears, causes, rows, rows_of}
use Rattle.market_model.specs.Market.{IsMarket}
use Rattle.market_model.proofs.LostLemmas.{place_at}
use Rattle.limit_rows.specs.Walk.{lines_from, rows_from, rows_under}
use Rattle.limit_rows.proofs.GroupLemmas.{length-causes, length-map}
use Rattle.market_model.proofs.RowMembers.{row_on}

module _ (m : Parts) where
  -- ---- lines under a cause, one more
  module _ (cause : Cause) (l : ℕ) where
    abbrev bearing_from : ℕ → List ℕ
    bearing_from k = filter (bears m cause) (lines_from m k)

    line_next : l < length m.lines → bearing_from l ≡ cond (bears m cause l) (l ∷ bearing_from (l + 1)) (bearing_from (l + 1))
    line_next lt =
        let inside : l < length (places (length m.lines)) = Prim.omega (arith, lt, length-range_with_len 0 (length m.lines)) in
        ap (filter (bears m cause)) (drop_more (places (length m.lines)) l 0 inside ∙ ap (λ (k : ℕ). k ∷ lines_from m (l + 1)) (place_at (length m.lines) l 0 lt))

    pub line_found : l < length m.lines → bears m cause l ≡ true → bearing_from l ≡ l ∷ bearing_from (l + 1)
    line_found lt e = line_next lt ∙ ap (λ (b : Bool). cond b (l ∷ bearing_from (l + 1)) (bearing_from (l + 1))) e

    pub line_passed : l < length m.lines → bears m cause l ≡ false → bearing_from l ≡ bearing_from (l + 1)
    line_passed lt e = line_next lt ∙ ap (λ (b : Bool). cond b (l ∷ bearing_from (l + 1)) (bearing_from (l + 1))) e

    pub line_none : length m.lines ≤ l → bearing_from l ≡ []
    line_none past = ap (filter (bears m cause)) (drop_all l (places (length m.lines)) (Prim.omega (arith, past, length-range_with_len 0 (length m.lines))))

  -- ---- causes, one more
  cause_next : (place : ℕ) (cause : Cause) → slice_get (causes m) place ≡ Some cause → drop place (causes m) ≡ cause ∷ drop (place + 1) (causes m)
  cause_next place cause at =
      drop_more (causes m) place cause (slice_get_within (causes m) place cause at) ∙ ap (λ (g : Cause). g ∷ drop (place + 1) (causes m)) (get_or_from_slice_get (causes m) place cause cause at)

  all_under : (behind : List Cause) → flat_map (rows_of m) behind ≡ rows_under m 0 behind
  all_under [] = refl
  all_under (cause ∷ behind) = refl

  -- the rows of a cause, and those of the causes behind it
  pub rows_cause : (place : ℕ) (cause : Cause) → slice_get (causes m) place ≡ Some cause → rows_from m place 0 ≡ rows_of m cause ++ rows_from m (place + 1) 0
  rows_cause place cause at =
      ap (rows_under m 0) (cause_next place cause at) ∙ ap (λ (rs : List Row). rows_of m cause ++ rs) (all_under (drop (place + 1) (causes m)))

  -- the row that comes next
  pub row_next : (place line l : ℕ) (cause : Cause) → slice_get (causes m) place ≡ Some cause → filter (bears m cause) (lines_from m line) ≡ l ∷ filter (bears m cause) (lines_from m (l + 1))
      → rows_from m place line ≡ row_on cause l ∷ rows_from m place (l + 1)
  row_next place line l cause at found =
      let here = cause_next place cause at in
      ap (rows_under m line) here ∙ ap (λ ls. map (row_on cause) ls ++ flat_map (rows_of m) (drop (place + 1) (causes m))) found ∙ ap (λ gs. row_on cause l ∷ rows_under m (l + 1) gs) (sym here)

  -- no row of a cause is left
  pub cause_over : (place line : ℕ) (cause : Cause) → slice_get (causes m) place ≡ Some cause → filter (bears m cause) (lines_from m line) ≡ [] → rows_from m place line ≡ rows_from m (place + 1) 0
  cause_over place line cause at none =
      ap (rows_under m line) (cause_next place cause at) ∙ ap (λ ls. map (row_on cause) ls ++ flat_map (rows_of m) (drop (place + 1) (causes m))) none ∙ all_under (drop (place + 1) (causes m))

  pub causes_over : (place line : ℕ) → length (causes m) ≤ place → rows_from m place line ≡ []
  causes_over place line past = ap (rows_under m line) (drop_all place (causes m) past)

  pub all_from_start : rows_from m 0 0 ≡ rows m
  unfolding rows
  all_from_start = refl

  -- ---- how many rows there are at most
  kept_few : (p : ℕ → Bool) (ks : List ℕ) → length (filter p ks) ≤ length ks
  kept_few p [] = Prim.omega arith
  kept_few p (k ∷ ks) = by (p k) (kept_few p ks)
    where
      by : (b : Bool) → length (filter p ks) ≤ length ks → length (cond b (k ∷ filter p ks) (filter p ks)) ≤ length (k ∷ ks)
      by true h = Prim.omega (arith, h)
      by false h = Prim.omega (arith, h)

  lines_few : (cause : Cause) → length (rows_of m cause) ≤ length m.lines
  lines_few cause =
      let kept = length-map (row_on cause) (filter (bears m cause) (places (length m.lines))) in
      Prim.omega (arith, kept, kept_few (bears m cause) (places (length m.lines)), length-range_with_len 0 (length m.lines))

  under_few : (gs : List Cause) → length (flat_map (rows_of m) gs) ≤ length gs * length m.lines
  under_few [] = Prim.omega arith
  under_few (cause ∷ gs) = Prim.omega (arith, lines_few cause, under_few gs, length-append (rows_of m cause) (flat_map (rows_of m) gs))

  pub behind_few : IsMarket m → (place : ℕ) → length (rows_from m place 0) ≤ (most_outages + 1 + most_units) * most_lines
  behind_few market place =
      let behind : List Cause = drop place (causes m) in
      let causes_few : length (drop place (causes m)) ≤ most_outages + 1 + most_units = Prim.omega (arith, length-causes m, length-drop place (causes m), market.outage_count, market.unit_outages.count) in
      Prim.omega (arith, ap length (all_under behind), under_few behind, mul-le-mul causes_few market.line_count)

  pub rows_few : IsMarket m → length (rows m) ≤ (most_outages + 1 + most_units) * most_lines
  rows_few market = let few = behind_few market 0 in let all = ap length all_from_start in Prim.omega (arith, few, all)

  -- ---- a loop over the rows, which has taken some
  module _ (s t u taken : List Row) (start : s ≡ rows m) (by : Yields (YieldsFirst (λ (left : List Row). left)) s taken t) where
    left_of : (v : List Row) (xs : List Row) → Yields (YieldsFirst (λ (left : List Row). left)) v xs t → v ≡ xs ++ t
    left_of v [] y = y
    left_of v (x ∷ xs) y = y.1 ∙ ap (λ ys. x ∷ ys) (left_of y.0 xs y.2)

    -- what comes next stands behind what has been taken
    pub taken_next : (next : Option Row) (row : Row) → next ≡ Some row → YieldsFirst (λ (left : List Row). left) t next u → rows m ≡ taken ++ row ∷ u
    taken_next next row is step = sym start ∙ left_of s taken by ∙ ap (λ ys. taken ++ ys) (subst (λ o. YieldsFirst (λ (left : List Row). left) t o u) is step)

    pub taken_listed : (next : Option Row) (row : Row) → next ≡ Some row → YieldsFirst (λ (left : List Row). left) t next u → Contains (rows m) row
    taken_listed next row is step = subst (λ rs. Contains rs row) (sym (taken_next next row is step)) (Contains-append_right taken (row ∷ u) row (Contains-head row u))

    -- where nothing comes next, all have been taken
    pub all_taken : (next : Option Row) → next ≡ None → YieldsFirst (λ (left : List Row). left) t next u → taken ≡ rows m
    all_taken next is step =
        let ends : t ≡ [] = (subst (λ o. YieldsFirst (λ (left : List Row). left) t o u) is step).0 in
        sym (sym start ∙ left_of s taken by ∙ ap (λ ys. taken ++ ys) ends ∙ append-nil taken)
