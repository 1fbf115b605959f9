-- The outages that are chosen are listed as they are.
use Rattle.std.proofs.Common.{◌≡◌, ◌≢◌, ℕ, ◌+◌, ◌<◌, ℤ, pos, true, List, [], ◌∷◌, ◌++◌, length, map, get_or, arith, refl, sym, ap, subst, ◌∙◌, Result, Ok, Err, inl, inr, length-append}
use Rattle.std.specs.Prelude.{◌⊎◌, AllPairs, Contains, unsigned_abs}
use Rattle.std.proofs.Math.Seq.{get_or-append_seam}
use Rattle.std.proofs.lemmas.Bool.{false≢true}
use Rattle.std.proofs.lemmas.List.{get_or_append_left}
use Rattle.std.proofs.lemmas.List.Elements.{Contains-get_or}
use Rattle.net_case.specs.declared.live_parts.NetBranch.{NetBranch}
use Rattle.net_case.specs.Networks.{IsNetwork, LiveNetwork}
use Rattle.net_paths.specs.Chains.{AreJoined}
use Rattle.net_paths.specs.Detours.{others}
use Rattle.net_paths.proofs.ChainLemmas.{joined_step}
use Rattle.factor_tables.specs.Rules.{is_live_branch, is_row}
use Rattle.outage_list.specs.Listing.{AreOutages, IsFaultOf, IsFirstFault, IsIsland, IsListed, IsOutage}
use Rattle.outage_list.specs.declared.listing.OutageFault.{OutageFault}
use Rattle.outage_list.specs.declared.listing.OutageFault.TheVariants as fault
use Rattle.outage_choice.specs.Choices.{IsOutageChoice}
use Rattle.outage_choice.specs.declared.OutageChoice.{OutageChoice}
use Rattle.outage_choice.proofs.ChoiceLemmas.{outage-parts}
use Rattle.prepared_text.specs.OutageLaws.{AreListedAs, LawOfChosenRead}
use Rattle.prepared_text.proofs.LiveBranches.{is-live, is-row, row-small}
use Rattle.prepared_text.proofs.OutagesRead.{outages-back}

-- ---- lists of rows as whole numbers
same-rows : (xs ys : List ℕ) → map pos xs ≡ map pos ys → xs ≡ ys
same-rows [] [] e = refl
same-rows [] (y ∷ ys) e = absurd (cc)
same-rows (x ∷ xs) [] e = absurd (cc)
same-rows (x ∷ xs) (y ∷ ys) e = let rest : map pos xs ≡ map pos ys = cc in let tail = same-rows xs ys rest in cc

-- a row with others before and behind
record IsSplit (rows before : List ℕ) (number : ℤ) : Type 0 where
  row : ℕ
  behind : List ℕ
  rows_are : rows ≡ before ++ row ∷ behind
  number_is : number ≡ pos row

split-more : (b x : ℕ) (before rows : List ℕ) (number : ℤ) → x ≡ b → IsSplit rows before number → IsSplit (x ∷ rows) (b ∷ before) number
split-more b x before rows number same s = record { row = s.row; behind = s.behind; rows_are = let tail = s.rows_are in cc; number_is = s.number_is }

split-at : (before rows : List ℕ) (number : ℤ) (after : List ℤ) → map pos rows ≡ map pos before ++ number ∷ after → IsSplit rows before number
split-at [] [] number after e = absurd (cc)
split-at [] (x ∷ rows) number after e = record { row = x; behind = rows; rows_are = refl; number_is = cc }
split-at (b ∷ before) [] number after e = absurd (cc)
split-at (b ∷ before) (x ∷ rows) number after e =
    let same : x ≡ b = cc in
    let rest : map pos rows ≡ map pos before ++ number ∷ after = cc in
    split-more b x before rows number same (split-at before rows number after rest)

module _ (rows before : List ℕ) (number : ℤ) (s : IsSplit rows before number) where
  seat : length before < length rows
  seat = let size : length rows ≡ length (before ++ s.row ∷ s.behind) = ap length s.rows_are in let all = length-append before (s.row ∷ s.behind) in omega (arith, size, all)

  seated : get_or rows (length before) s.row ≡ s.row
  seated = ap (λ (xs : List ℕ). get_or xs (length before) s.row) s.rows_are ∙ get_or-append_seam before s.row s.behind s.row

  -- it stands not among those before
  fresh : AllPairs (λ a b. a ≢ b) rows → ¬ Contains before s.row
  fresh apart (k, early, at) =
      let first : get_or rows k s.row ≡ s.row = ap (λ (xs : List ℕ). get_or xs k s.row) s.rows_are ∙ (get_or_append_left before (s.row ∷ s.behind) s.row k early ∙ at) in
      apart k (length before) s.row early seat (first ∙ sym seated)

-- ---- outages have no fault
module _ (network : LiveNetwork) (is : IsNetwork network) (rows : List ℕ) (are : AreOutages network rows) where
  outage-at : (before : List ℕ) (number : ℤ) (s : IsSplit rows before number) → IsOutage network s.row
  outage-at before number s = subst (IsOutage network) (seated rows before number s) (are.each (length before) s.row (seat rows before number s))

  row-named : (row : ℕ) → IsOutage network row → is_row network (pos row) ≡ true
  row-named row out = subst (λ (r : ℕ). is_row network (pos r) ≡ true) out.live.row_is (is-row network is out.branch out.live.live)

  live-named : (row : ℕ) → IsOutage network row → is_live_branch network (pos row) ≡ true
  live-named row out = subst (λ (r : ℕ). is_live_branch network (pos r) ≡ true) out.live.row_is (is-live network is out.branch out.live.live)

  no-island : (row : ℕ) (side : List ℕ) → IsOutage network row → IsIsland network row side → ⊥
  no-island row side out island =
      let b : NetBranch = island.branch in
      let ends = outage-parts network is row out b.from b.to (joined_step network.branches (record { branch = b; forward = true }) island.live.live) in
      island.islands (subst (λ (k : ℕ). AreJoined (others k network.branches) b.from b.to) (sym island.live.row_is) ends)

  module _ (before : List ℕ) (number : ℤ) (s : IsSplit rows before number) (line : ℕ) where
    no-fault-of : (f : OutageFault) → f ≢ fault.Memory → IsFaultOf network before number line f → ⊥
    no-fault-of (fault.NoBranch at) other says = let named = row-named s.row (outage-at before number s) in false≢true (sym says.1 ∙ (ap (is_row network) s.number_is ∙ named))
    no-fault-of (fault.DeadBranch at) other says = let named = live-named s.row (outage-at before number s) in false≢true (sym says.2 ∙ (ap (is_live_branch network) s.number_is ∙ named))
    no-fault-of (fault.Twice at) other says = fresh rows before number s are.distinct (subst (Contains before) (ap unsigned_abs s.number_is) says.2)
    no-fault-of (fault.Islands row side) other says =
        let same : s.row ≡ row = ap unsigned_abs (sym s.number_is ∙ says.0) in
        no-island row side (subst (IsOutage network) same (outage-at before number s)) says.2
    no-fault-of fault.Memory other says = other refl

  no-fault : (f : OutageFault) → f ≢ fault.Memory → IsFirstFault network (map pos rows) f → ⊥
  no-fault f other first = no-fault-of first.before first.number (split-at first.before rows first.number first.after first.numbers_are) (length first.before + 2) f other first.fault

  listed-alone : (told : Result (List ℕ) OutageFault) → IsListed network (map pos rows) told → (told ≡ Ok rows) ⊎ (told ≡ Err fault.Memory)
  listed-alone (Ok others) says = inl (ap Ok (sym (same-rows rows others says.0)))
  listed-alone (Err fault.Memory) says = inr refl
  listed-alone (Err (fault.NoBranch at)) says = absurd (no-fault (fault.NoBranch at) (λ e. absurd (cc)) says)
  listed-alone (Err (fault.DeadBranch at)) says = absurd (no-fault (fault.DeadBranch at) (λ e. absurd (cc)) says)
  listed-alone (Err (fault.Twice at)) says = absurd (no-fault (fault.Twice at) (λ e. absurd (cc)) says)
  listed-alone (Err (fault.Islands row side)) says = absurd (no-fault (fault.Islands row side) (λ e. absurd (cc)) says)

  pub listed-as : AreListedAs network (map pos rows) rows
  listed-as = record { so = (refl, are); alone = listed-alone }

-- ---- the outages that are chosen
chosen-outages : (network : LiveNetwork) (choice : OutageChoice) → IsOutageChoice network choice → AreOutages network choice.listed
chosen-outages network choice chosen = record {
  each = λ k d lt. (chosen.listed (get_or choice.listed k d)).0 (Contains-get_or choice.listed k d lt);
  distinct = λ i j d lt within e. let up = chosen.listed_order i j d lt within in omega (arith, up, e);
}

pub chosen-back : LawOfChosenRead
chosen-back network choice is chosen count =
    let are = chosen-outages network choice chosen in (
      outages-back choice.listed count (λ k d lt.
          let out = are.each k d lt in
          let small = row-small network is out.branch out.live.live in
          let row = out.live.row_is in
          omega (arith, small, row)),
      listed-as network is choice.listed are,
    )
