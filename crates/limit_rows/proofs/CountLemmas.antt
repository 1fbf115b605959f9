-- How many rows there are under each cause, and behind how many the rows of a cause stand.
use Rattle.std.specs.Prelude.{◌≡◌, ◌≢◌, ◌⊎◌, ◌==◌, ◌&&◌, ℕ, ◌+◌, ◌<◌, ◌≤◌, Bool, true, false, cond, not, List, [], ◌∷◌, ◌++◌, length, filter, Contains, Some, refl}
use Rattle.std.specs.List.{range_with_len, slice_get}
use Rattle.std.proofs.Common.{zero, suc, arith, inl, inr, ap, ap₂, sym, subst, ◌∙◌, drop, length-append}
use Rattle.std.proofs.lemmas.Bool.{ne_eqb}
use Rattle.std.proofs.lemmas.Bool.Decides.{eqb_tells}
use Rattle.std.proofs.lemmas.List.{drop-drop, drop_at, get_or-drop}
use Rattle.std.proofs.lemmas.List.Elements.{Contains-append_cases, filter-append}
use Rattle.std.proofs.lemmas.List.FromFn.{length-range_with_len}
use Rattle.std.proofs.lemmas.List.Sums.{count_by-le-length, length-filter}
use Rattle.std.proofs.lemmas.Option.{get_or_from_slice_get, slice_get-get_or, slice_get_within}
use Rattle.market_model.specs.declared.participants.Parts.{Parts}
use Rattle.market_model.specs.Dispatch.{places, line_at}
use Rattle.market_model.specs.declared.limits.Cause.{Cause}
use Rattle.market_model.specs.declared.limits.Cause.TheVariants.{Base, Branch, UnitOutage}
use Rattle.market_model.specs.declared.limits.Row.{Row}
use Rattle.market_model.specs.LimitRows.{causes, rows, rows_of, has_limit}
use Rattle.market_model.proofs.MorePlaces.{places_more}
use Rattle.market_model.proofs.RowMembers.{Contains-from_map, row_on, lines_of}
use Rattle.limit_rows.specs.Counting.{limits_to, AreLimitCounts}
use Rattle.limit_rows.specs.Walk.{rows_from}
use Rattle.limit_rows.specs.declared.counting.LimitCounts.{LimitCounts}
use Rattle.limit_rows.proofs.NumberingLemmas.{length-rows_of}
use Rattle.limit_rows.proofs.WalkLemmas.{all_from_start, causes_over, rows_cause}

-- one more where it passes a test
length-head : {X : Type 0} (b : Bool) (x : X) (xs : List X) → length (cond b (x ∷ xs) xs) ≡ length xs + cond b 1 0
length-head true x xs = Prim.omega arith
length-head false x xs = Prim.omega arith

length-end : {X : Type 0} (b : Bool) (x : X) (xs : List X) → length (xs ++ cond b (x ∷ []) []) ≡ length xs + cond b 1 0
length-end true x xs = Prim.omega (arith, length-append xs (x ∷ []))
length-end false x xs = Prim.omega (arith, length-append xs [])

-- ---- all numbers but one
module _ (p : ℕ → Bool) (lost : ℕ) where
  abbrev other : ℕ → Bool
  other l = not (l == lost) && p l

  -- beyond it none is left out
  beyond : (a n : ℕ) → lost < a → filter other (range_with_len a n) ≡ filter p (range_with_len a n)
  beyond a zero h = refl
  beyond a (suc n) h =
      ap₂ (λ (b : Bool) (ls : List ℕ). cond b (a ∷ ls) ls) (ap (λ (b : Bool). not b && p a) (ne_eqb a lost (λ e. Prim.omega (arith, h, e))))
      (beyond (a + 1) n (Prim.omega (arith, h)))

  but_one : (a n : ℕ) → a ≤ lost → lost < a + n → length (filter other (range_with_len a n)) + cond (p lost) 1 0 ≡ length (filter p (range_with_len a n))
  but_one a zero low high = absurd (Prim.omega (arith, low, high))
  but_one a (suc n) low high = by (eqb_tells a lost) (λ above. but_one (a + 1) n above (Prim.omega (arith, high)))
    where
      by : (((a == lost) ≡ true) × (a ≡ lost)) ⊎ (((a == lost) ≡ false) × (a ≢ lost)) → (a + 1 ≤ lost → length (filter other (range_with_len (a + 1) n)) + cond (p lost) 1 0 ≡ length (filter p (range_with_len (a + 1) n)))
          → length (filter other (range_with_len a (suc n))) + cond (p lost) 1 0 ≡ length (filter p (range_with_len a (suc n)))
      by (inl here) more =
          let same = here.1 in
          let left_out : length (filter other (range_with_len a (suc n))) ≡ length (filter p (range_with_len (a + 1) n)) =
          ap (λ (b : Bool). length (cond (not b && p a) (a ∷ filter other (range_with_len (a + 1) n)) (filter other (range_with_len (a + 1) n)))) here.0 ∙ ap length (beyond (a + 1) n (Prim.omega (arith, same))) in
          let counted : length (filter p (range_with_len a (suc n))) ≡ length (filter p (range_with_len (a + 1) n)) + cond (p a) 1 0 = length-head (p a) a (filter p (range_with_len (a + 1) n)) in
          let one : cond (p a) 1 0 ≡ cond (p lost) 1 0 = ap (λ (k : ℕ). let n : ℕ = cond (p k) 1 0 in n) same in
          Prim.omega (arith, left_out, counted, one)
      by (inr apart) more =
          let other_than = apart.1 in
          let kept : length (filter other (range_with_len a (suc n))) ≡ length (filter other (range_with_len (a + 1) n)) + cond (p a) 1 0 =
          ap (λ (b : Bool). length (cond (not b && p a) (a ∷ filter other (range_with_len (a + 1) n)) (filter other (range_with_len (a + 1) n)))) apart.0 ∙ length-head (p a) a (filter other (range_with_len (a + 1) n)) in
          let counted : length (filter p (range_with_len a (suc n))) ≡ length (filter p (range_with_len (a + 1) n)) + cond (p a) 1 0 = length-head (p a) a (filter p (range_with_len (a + 1) n)) in
          let ih = more (Prim.omega (arith, low, other_than)) in
          Prim.omega (arith, kept, counted, ih)

module _ (m : Parts) where
  -- ---- lines one by one
  pub limits_more : (post : Bool) (k : ℕ) (b : Bool) → has_limit post (line_at m k) ≡ b → limits_to m post (k + 1) ≡ limits_to m post k + cond b 1 0
  limits_more post k b is =
      ap (λ (ls : List ℕ). length (filter (λ l. has_limit post (line_at m l)) ls)) (places_more k)
      ∙ ap length (filter-append (λ l. has_limit post (line_at m l)) (places k) (k ∷ []))
      ∙ length-end (has_limit post (line_at m k)) k (filter (λ l. has_limit post (line_at m l)) (places k))
      ∙ ap (λ (c : Bool). limits_to m post k + cond c 1 0) is

  pub limits_few : (post : Bool) (k : ℕ) → limits_to m post k ≤ k
  limits_few post k =
      let kept = length-filter (λ l. has_limit post (line_at m l)) (places k) in
      Prim.omega (arith, kept, count_by-le-length (λ l. has_limit post (line_at m l)) (places k), length-range_with_len 0 k)

  -- ---- how many rows there are under a cause
  module _ (counts : LimitCounts) (are : AreLimitCounts m counts) where
    pub under_base : counts.base ≡ length (rows_of m Base)
    under_base = are.base ∙ sym (length-rows_of m Base)

    pub under_unit : (k : ℕ) → counts.post ≡ length (rows_of m (UnitOutage k))
    under_unit k = are.post ∙ sym (length-rows_of m (UnitOutage k))

    pub under_branch : (lost : ℕ) (b : Bool) → lost < length m.lines → has_limit true (line_at m lost) ≡ b → counts.post ≡ length (rows_of m (Branch lost)) + cond b 1 0
    under_branch lost b inside is =
        let but : length (lines_of m (Branch lost)) + cond (has_limit true (line_at m lost)) 1 0 ≡ limits_to m true (length m.lines) =
        but_one (λ l. has_limit true (line_at m l)) lost 0 (length m.lines) (Prim.omega arith) (Prim.omega (arith, inside)) in
        let all = are.post in
        let listed = length-rows_of m (Branch lost) in
        let same : cond (has_limit true (line_at m lost)) 1 0 ≡ cond b 1 0 = ap (λ (c : Bool). let n : ℕ = cond c 1 0 in n) is in
        Prim.omega (arith, but, all, listed, same)

  -- ---- behind how many rows those of a cause and of the causes behind it stand
  pub record StandBehind (place before : ℕ) : Type 0 where
    pub rest : rows_from m place 0 ≡ drop before (rows m)
    pub count : before + length (rows_from m place 0) ≡ length (rows m)

  pub none_before : StandBehind 0 0
  none_before = record { rest = all_from_start m; count = let all = ap length (all_from_start m) in Prim.omega (arith, all) }

  module _ (place before : ℕ) (at : StandBehind place before) where
    pub stand_past : (cause : Cause) (n : ℕ) → slice_get (causes m) place ≡ Some cause → n ≡ length (rows_of m cause) → StandBehind (place + 1) (before + n)
    stand_past cause n is e =
        let cut : rows_from m place 0 ≡ rows_of m cause ++ rows_from m (place + 1) 0 = rows_cause m place cause is in
        let long = length-append (rows_of m cause) (rows_from m (place + 1) 0) in
        let cut_long = ap length cut in
        let all = at.count in record {
          rest = sym (drop_at (rows_of m cause) (rows_from m (place + 1) 0) n (sym e)) ∙ ap (drop n) (sym cut ∙ at.rest) ∙ drop-drop n before (rows m);
          count = Prim.omega (arith, all, e, cut_long, long);
        }

    pub stand_all : length (causes m) ≤ place → before ≡ length (rows m)
    stand_all past = let none = ap length (causes_over m place 0 past) in let all = at.count in Prim.omega (arith, none, all)

    -- by place among all rows
    pub stand_at : (k : ℕ) (r : Row) → slice_get (rows_from m place 0) k ≡ Some r → slice_get (rows m) (before + k) ≡ Some r
    stand_at k r is =
        let here : slice_get (drop before (rows m)) k ≡ Some r = subst (λ (rs : List Row). slice_get rs k ≡ Some r) at.rest is in
        let inside = slice_get_within (rows_from m place 0) k r is in
        let all = at.count in
        slice_get-get_or (rows m) (before + k) r (Prim.omega (arith, inside, all))
        ∙ ap (λ (q : Row). Some q) (sym (get_or-drop before (rows m) k r) ∙ get_or_from_slice_get (drop before (rows m)) k r r here)

  -- a row of another cause stands behind those of this one
  pub of_other : (place : ℕ) (cause : Cause) (r : Row) → slice_get (causes m) place ≡ Some cause → cause ≢ r.cause → Contains (rows_from m place 0) r → Contains (rows_from m (place + 1) 0) r
  of_other place cause r is other c =
      by (Contains-append_cases (rows_of m cause) (rows_from m (place + 1) 0) r (subst (λ (rs : List Row). Contains rs r) (rows_cause m place cause is) c))
    where
      by : Contains (rows_of m cause) r ⊎ Contains (rows_from m (place + 1) 0) r → Contains (rows_from m (place + 1) 0) r
      by (inl here) = let l = Contains-from_map (row_on cause) (lines_of m cause) r here in absurd (other (ap (λ (q : Row). q.cause) l.2))
      by (inr behind) = behind

  pub of_none : (place : ℕ) (r : Row) → length (causes m) ≤ place → Contains (rows_from m place 0) r → ⊥
  of_none place r past (k, lt, e) = let none = ap length (causes_over m place 0 past) in Prim.omega (arith, lt, none)
