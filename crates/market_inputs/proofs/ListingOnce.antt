-- Numbers are listed as one list of outages, or have one first fault.
use Rattle.std.proofs.Common.{◌≡◌, ◌≢◌, ◌∙◌, ◌⊎◌, ◌<◌, ◌+◌, refl, sym, ap, subst, arith, ℕ, ℤ, pos, List, [], ◌∷◌, ◌++◌, length, map, get_or, Bool, true, false, Result, Ok, Err, inl, inr, length-append}
use Rattle.std.specs.Prelude.{Contains, unsigned_abs}
use Rattle.std.proofs.lemmas.List.{get_or_append_left}
use Rattle.std.proofs.lemmas.List.Elements.{All-contains}
use Rattle.std.proofs.Math.Seq.{get_or-append_seam}
use Rattle.net_case.specs.declared.live_parts.NetBranch.{NetBranch}
use Rattle.net_case.specs.Networks.{AreRows, LiveNetwork}
use Rattle.net_paths.specs.Chains.{AreJoined}
use Rattle.net_paths.specs.Connection.{bus_number}
use Rattle.net_paths.specs.Detours.{IsBranchOf, IsSide, others}
use Rattle.factor_tables.specs.Rules.{is_live_branch, is_row}
use Rattle.outage_list.specs.Listing.{AreOutages, IsFaultOf, IsFirstFault, IsIsland, IsListed, IsOutage, IslandsNetwork}
use Rattle.outage_list.specs.declared.listing.OutageFault.{OutageFault}
use Rattle.outage_list.specs.declared.listing.OutageFault.TheVariants as fault
use Rattle.market_inputs.proofs.OutageNames.{branch-live, branch-once, branch-row, live-is_row}
use Rattle.market_inputs.proofs.PlaceLists.{members-once}

-- ---- numbers before another
-- a number stands in a list right behind these
abbrev StandsBehind : List ℕ → ℤ → List ℕ → Type 0
StandsBehind before n rows = (r : ℕ) × (rest : List ℕ) × (n ≡ pos r) × (rows ≡ before ++ r ∷ rest)

behind-more : (a b : ℕ) (before : List ℕ) (n : ℤ) (rows : List ℕ) → a ≡ b → StandsBehind before n rows → StandsBehind (a ∷ before) n (b ∷ rows)
behind-more a b before n rows same (r, rest, is, are) = (r, rest, is, rw (same, are) refl)

same-pos : (a b : ℕ) → pos a ≡ pos b → a ≡ b
same-pos a b e = ap unsigned_abs e

stands-behind : (before rows : List ℕ) (n : ℤ) (after : List ℤ) → map pos rows ≡ map pos before ++ n ∷ after → StandsBehind before n rows
stands-behind [] [] n after e = absurd (cc e)
stands-behind [] (r ∷ rows) n after e = (r, rows, cc e, refl)
stands-behind (b ∷ before) [] n after e = absurd (cc e)
stands-behind (b ∷ before) (r ∷ rows) n after e = behind-more b r before n rows (same-pos b r (cc e)) (stands-behind before rows n after (cc e))

-- of two numbers behind others in one list one stands among those before the other, or they are one
abbrev Meet : List ℕ → ℤ → List ℕ → ℤ → Type 0
Meet before n before' n' = ((before ≡ before') × (n ≡ n')) ⊎ (StandsBehind before n before' ⊎ StandsBehind before' n' before)

meet-more : (a b : ℕ) (before before' : List ℕ) (n n' : ℤ) → a ≡ b → Meet before n before' n' → Meet (a ∷ before) n (b ∷ before') n'
meet-more a b before before' n n' same (inl (are, is)) = inl (rw (same, are) refl, is)
meet-more a b before before' n n' same (inr (inl first)) = inr (inl (behind-more a b before n before' same first))
meet-more a b before before' n n' same (inr (inr second)) = inr (inr (behind-more b a before' n' before (sym same) second))

meet : (before before' : List ℕ) (n n' : ℤ) (after after' : List ℤ) → map pos before ++ n ∷ after ≡ map pos before' ++ n' ∷ after' → Meet before n before' n'
meet [] [] n n' after after' e = inl (refl, cc e)
meet [] (b ∷ before') n n' after after' e = inr (inl (b, before', cc e, refl))
meet (a ∷ before) [] n n' after after' e = inr (inr (a, before, sym (cc e), refl))
meet (a ∷ before) (b ∷ before') n n' after after' e = meet-more a b before before' n n' (same-pos a b (cc e)) (meet before before' n n' after after' (cc e))

same-numbers : (xs ys : List ℕ) → map pos xs ≡ map pos ys → xs ≡ ys
same-numbers [] [] e = refl
same-numbers [] (y ∷ ys) e = absurd (cc e)
same-numbers (x ∷ xs) [] e = absurd (cc e)
same-numbers (x ∷ xs) (y ∷ ys) e = rw (same-pos x y (cc e), same-numbers xs ys (cc e)) refl

-- ---- one fault
module _ (network : LiveNetwork) (kept : AreRows network.branch_rows (map (λ (b : NetBranch). b.row) network.branches)) where
  side-once : (branches : List NetBranch) (b : ℕ) (xs ys : List ℕ) → IsSide network branches b xs → IsSide network branches b ys → xs ≡ ys
  side-once branches b xs ys s t =
      s.numbers_are ∙ ap (map (bus_number network)) (members-once s.places t.places s.order t.order (into xs ys s t) (into ys xs t s)) ∙ sym t.numbers_are
    where
      into : (xs ys : List ℕ) (s : IsSide network branches b xs) (t : IsSide network branches b ys) (p : ℕ) → Contains s.places p → Contains t.places p
      into xs ys s t p here = t.all p (All-contains (λ p. p < length network.buses) s.places p s.within here) (All-contains (AreJoined branches b) s.places p s.joined here)

  clash : (b : Bool) → b ≡ true → b ≡ false → ⊥
  clash b is not = cc

  -- a live branch's row is a row, and live
  row-true : (n : ℤ) (row : ℕ) (b : NetBranch) → n ≡ pos row → IsBranchOf network row b → is_row network n ≡ true
  row-true n row b is live = rw is (branch-row network kept row b live)

  live-true : (n : ℤ) (row : ℕ) (b : NetBranch) → n ≡ pos row → IsBranchOf network row b → is_live_branch network n ≡ true
  live-true n row b is live = rw is (branch-live network kept row b live)

  island-once : (row row' : ℕ) (xs ys : List ℕ) → row ≡ row' → IsIsland network row xs → IsIsland network row' ys → fault.Islands row xs ≡ fault.Islands row' ys
  island-once row row' xs ys same h k = rw (same, by h.branch k.branch (branch-once network kept row h.branch k.branch h.live (subst (λ r. IsBranchOf network r k.branch) (sym same) k.live)) h.side k.side) refl
    where
      by : (a b : NetBranch) → a ≡ b → IsSide network (others a.row network.branches) a.to xs → IsSide network (others b.row network.branches) b.to ys → xs ≡ ys
      by a b e first second = side-once (others b.row network.branches) b.to xs ys (subst (λ (c : NetBranch). IsSide network (others c.row network.branches) c.to xs) e first) second

  fault-once : (before : List ℕ) (n : ℤ) (line : ℕ) (f g : OutageFault) → f ≢ fault.Memory → g ≢ fault.Memory → IsFaultOf network before n line f → IsFaultOf network before n line g → f ≡ g
  fault-once before n line fault.Memory g some some' h k = absurd (some refl)
  fault-once before n line (fault.NoBranch a) fault.Memory some some' h k = absurd (some' refl)
  fault-once before n line (fault.DeadBranch a) fault.Memory some some' h k = absurd (some' refl)
  fault-once before n line (fault.Twice a) fault.Memory some some' h k = absurd (some' refl)
  fault-once before n line (fault.Islands row side) fault.Memory some some' h k = absurd (some' refl)
  fault-once before n line (fault.NoBranch a) (fault.NoBranch b) some some' h k = ap fault.NoBranch (h.0 ∙ sym k.0)
  fault-once before n line (fault.NoBranch a) (fault.DeadBranch b) some some' h k = absurd (clash _ k.1 h.1)
  fault-once before n line (fault.NoBranch a) (fault.Twice b) some some' h k = absurd (clash _ (live-is_row network kept n k.1) h.1)
  fault-once before n line (fault.NoBranch a) (fault.Islands row side) some some' h k = absurd (clash _ (row-true n row k.2.branch k.0 k.2.live) h.1)
  fault-once before n line (fault.DeadBranch a) (fault.NoBranch b) some some' h k = absurd (clash _ h.1 k.1)
  fault-once before n line (fault.DeadBranch a) (fault.DeadBranch b) some some' h k = ap fault.DeadBranch (h.0 ∙ sym k.0)
  fault-once before n line (fault.DeadBranch a) (fault.Twice b) some some' h k = absurd (clash _ k.1 h.2)
  fault-once before n line (fault.DeadBranch a) (fault.Islands row side) some some' h k = absurd (clash _ (live-true n row k.2.branch k.0 k.2.live) h.2)
  fault-once before n line (fault.Twice a) (fault.NoBranch b) some some' h k = absurd (clash _ (live-is_row network kept n h.1) k.1)
  fault-once before n line (fault.Twice a) (fault.DeadBranch b) some some' h k = absurd (clash _ h.1 k.2)
  fault-once before n line (fault.Twice a) (fault.Twice b) some some' h k = ap fault.Twice (h.0 ∙ sym k.0)
  fault-once before n line (fault.Twice a) (fault.Islands row side) some some' h k = absurd (k.1 (subst (Contains before) (ap unsigned_abs k.0) h.2))
  fault-once before n line (fault.Islands row side) (fault.NoBranch b) some some' h k = absurd (clash _ (row-true n row h.2.branch h.0 h.2.live) k.1)
  fault-once before n line (fault.Islands row side) (fault.DeadBranch b) some some' h k = absurd (clash _ (live-true n row h.2.branch h.0 h.2.live) k.2)
  fault-once before n line (fault.Islands row side) (fault.Twice b) some some' h k = absurd (h.1 (subst (Contains before) (ap unsigned_abs h.0) k.2))
  fault-once before n line (fault.Islands row side) (fault.Islands row' side') some some' h k = island-once row row' side side' (same-pos row row' (sym h.0 ∙ k.0)) h.2 k.2

  -- an outage that is listed has none
  none-listed : (before : List ℕ) (n : ℤ) (r line : ℕ) (f : OutageFault) → n ≡ pos r → f ≢ fault.Memory → IsFaultOf network before n line f → IsOutage network r → ¬ Contains before r → ⊥
  none-listed before n r line fault.Memory is some h out new = some refl
  none-listed before n r line (fault.NoBranch a) is some h out new = clash _ (row-true n r out.branch is out.live) h.1
  none-listed before n r line (fault.DeadBranch a) is some h out new = clash _ (live-true n r out.branch is out.live) h.2
  none-listed before n r line (fault.Twice a) is some h out new = new (subst (Contains before) (ap unsigned_abs is) h.2)
  none-listed before n r line (fault.Islands row side) is some h out new =
      let same : row ≡ r = same-pos row r (sym h.0 ∙ is) in
      by h.2.branch out.branch (branch-once network kept r h.2.branch out.branch (subst (λ (m : ℕ). IsBranchOf network m h.2.branch) same h.2.live) out.live) h.2.islands out.joined
    where
      by : (a b : NetBranch) → a ≡ b → IslandsNetwork network a → AreJoined (others b.row network.branches) b.from b.to → ⊥
      by a b e apart joined = subst (IslandsNetwork network) e apart joined

  -- what stands in a list of outages is one, and not among those before it
  listed-behind : (before rest : List ℕ) (r : ℕ) → AreOutages network (before ++ r ∷ rest) → IsOutage network r × ¬ Contains before r
  listed-behind before rest r are = (subst (IsOutage network) here (are.each (length before) 0 inside), new)
    where
      inside : length before < length (before ++ r ∷ rest)
      inside = omega (arith, length-append before (r ∷ rest))

      here : get_or (before ++ r ∷ rest) (length before) 0 ≡ r
      here = get_or-append_seam before r rest 0

      new : ¬ Contains before r
      new (k, within, at) = are.distinct k (length before) r within inside (get_or_append_left before (r ∷ rest) r k within ∙ at ∙ sym (get_or-append_seam before r rest r))

  behind-none : (before rows : List ℕ) (n : ℤ) (line : ℕ) (f : OutageFault) → StandsBehind before n rows → AreOutages network rows → f ≢ fault.Memory → IsFaultOf network before n line f → ⊥
  behind-none before rows n line f (r, rest, is, same) are some h =
      let (out, new) = listed-behind before rest r (subst (AreOutages network) same are) in
      none-listed before n r line f is some h out new

  first-once : (numbers : List ℤ) (f g : OutageFault) → f ≢ fault.Memory → g ≢ fault.Memory → IsFirstFault network numbers f → IsFirstFault network numbers g → f ≡ g
  first-once numbers f g some some' h k = by (meet h.before k.before h.number k.number h.after k.after (sym h.numbers_are ∙ k.numbers_are))
    where
      by : Meet h.before h.number k.before k.number → f ≡ g
      by (inl (same, is)) = fault-once h.before h.number (length h.before + 2) f g some some' h.fault (subst (λ b. IsFaultOf network b h.number (length b + 2) g) (sym same) (subst (λ n. IsFaultOf network k.before n (length k.before + 2) g) (sym is) k.fault))
      by (inr (inl first)) = absurd (behind-none h.before k.before h.number _ f first k.listed some h.fault)
      by (inr (inr second)) = absurd (behind-none k.before h.before k.number _ g second h.listed some' k.fault)

  first-of : (numbers : List ℤ) (f : OutageFault) → f ≢ fault.Memory → IsListed network numbers (Err f) → IsFirstFault network numbers f
  first-of numbers fault.Memory some h = absurd (some refl)
  first-of numbers (fault.NoBranch a) some h = h
  first-of numbers (fault.DeadBranch a) some h = h
  first-of numbers (fault.Twice a) some h = h
  first-of numbers (fault.Islands row side) some h = h

  not-both : (numbers : List ℤ) (rows : List ℕ) (f : OutageFault) → (numbers ≡ map pos rows) × AreOutages network rows → f ≢ fault.Memory → IsListed network numbers (Err f) → ⊥
  not-both numbers rows f h some k =
      let first = first-of numbers f some k in
      behind-none first.before rows first.number _ f (stands-behind first.before rows first.number first.after (sym h.0 ∙ first.numbers_are)) h.1 some first.fault

  pub list-once : (numbers : List ℤ) (a b : Result (List ℕ) OutageFault) → a ≢ Err fault.Memory → b ≢ Err fault.Memory → IsListed network numbers a → IsListed network numbers b → a ≡ b
  list-once numbers (Ok rows) (Ok rows') some some' h k = ap Ok (same-numbers rows rows' (sym h.0 ∙ k.0))
  list-once numbers (Ok rows) (Err f) some some' h k = absurd (not-both numbers rows f h (λ e. some' (ap Err e)) k)
  list-once numbers (Err f) (Ok rows) some some' h k = absurd (not-both numbers rows f k (λ e. some (ap Err e)) h)
  list-once numbers (Err f) (Err g) some some' h k = ap Err (first-once numbers f g (λ e. some (ap Err e)) (λ e. some' (ap Err e)) (first-of numbers f (λ e. some (ap Err e)) h) (first-of numbers g (λ e. some' (ap Err e)) k))
