-- Rows parted into outages and radial branches, one after the other.
use Rattle.std.proofs.Common.{◌≡◌, ◌∙◌, ◌<◌, ◌+◌, ◌∷◌, ◌++◌, sym, ap, arith, subst, ℕ, List, [], length, map, get_or, take, true, false, Bool, All, refl}
use Rattle.std.specs.Prelude.{◌==◌, ◌↔◌, ◌⊎◌, not, AllPairs, Contains, if◌then◌else◌}
use Rattle.std.proofs.lemmas.Bool.{cases_lt, eqb-true, not-false}
use Rattle.std.proofs.lemmas.List.{get_or-map, get_or-take, get_or_default, length-map, length-take-le}
use Rattle.std.proofs.lemmas.List.Elements.{All-append, All-contains, All-cons, All-nil, All-weaker, Contains-get_or, Contains-append_left, Contains-push, Contains-push_cases}
use Rattle.std.proofs.lemmas.List.Quantifiers.{all_pairs_push}
use Rattle.std.proofs.Math.Logic.{⊎_elim, inl, inr}
use Rattle.fraction_theory.proofs.ListSums.{Contains-filter}
use Rattle.net_case.specs.declared.live_parts.NetBranch.{NetBranch}
use Rattle.net_case.specs.Networks.{IsNetwork, LiveNetwork}
use Rattle.net_paths.specs.declared.steps.Step.{Step}
use Rattle.net_paths.specs.Chains.{AreJoined, start_of, end_of}
use Rattle.net_paths.specs.Detours.{IsBranchOf, IsLiveRow, others}
use Rattle.net_paths.proofs.ChainLemmas.{joined_itself, joined_sym, joined_step, joined_trans, kept_along}
use Rattle.outage_list.specs.Listing.{AreOutages, IsOutage}
use Rattle.outage_choice.specs.declared.OutageChoice.{OutageChoice}
use Rattle.outage_choice.specs.Choices.{IsOutageChoice, IsRadial, PartsNoBus}

-- numbers that rise differ at different places
rise-once : (xs : List ℕ) (i j d : ℕ) → AllPairs (λ a b. a < b) xs → i < length xs → j < length xs → get_or xs i d ≡ get_or xs j d → i ≡ j
rise-once xs i j d rise first second same =
    ⊎_elim (λ lt. absurd (let up = rise i j d lt second in omega (arith, up, same)))
    (λ le. ⊎_elim (λ lt. absurd (let up = rise j i d lt first in omega (arith, up, same))) (λ le'. omega (arith, le, le')) (cases_lt j i))
    (cases_lt i j)

module _ (network : LiveNetwork) (is : IsNetwork network) where
  abbrev rows_in : List ℕ
  rows_in = map (λ (b : NetBranch). b.row) network.branches

  -- the place of a branch among the rows
  row-at : (i : ℕ) (a : NetBranch) → i < length network.branches → get_or network.branches i a ≡ a → (i < length rows_in) × (get_or rows_in i 0 ≡ a.row)
  row-at i a within at = (rw length-map within, get_or-map (λ (b : NetBranch). b.row) network.branches i a 0 within ∙ ap (λ (b : NetBranch). b.row) at)

  -- a row names one live branch
  branch-once : (row : ℕ) (a b : NetBranch) → IsBranchOf network row a → IsBranchOf network row b → a ≡ b
  branch-once row a b first second =
      let (i, within, at) = first.live in
      let (j, within', at') = second.live in
      let (wide, here) = row-at i a within at in
      let (wide', here') = row-at j b within' at' in
      let same : i ≡ j = rise-once rows_in i j 0 is.rows_of_branches.rise wide wide' (here ∙ first.row_is ∙ sym (here' ∙ second.row_is)) in
      sym at ∙ get_or_default network.branches i a b within ∙ ap (λ k. get_or network.branches k b) same ∙ at'

  -- an outage is not radial
  not-both : (row : ℕ) → IsOutage network row → ¬ IsRadial network row
  not-both row out radial =
      let same = branch-once row out.branch radial.branch out.live radial.live in
      radial.islands (subst (λ (b : NetBranch). AreJoined (others b.row network.branches) b.from b.to) same out.joined)

  -- ---- a lost branch parts no bus exactly where there is a way round
  module _ (row : ℕ) (out : IsOutage network row) where
    abbrev rest : List NetBranch
    rest = others row network.branches

    around : AreJoined rest out.branch.from out.branch.to
    around = subst (λ (k : ℕ). AreJoined (others k network.branches) out.branch.from out.branch.to) out.live.row_is out.joined

    step-around : (s : Step) → s.branch ≡ out.branch → AreJoined rest (start_of s) (end_of s)
    step-around s same = by s.forward
      where
        way : AreJoined rest s.branch.from s.branch.to
        way = subst (λ (b : NetBranch). AreJoined rest b.from b.to) (sym same) around

        by : (f : Bool) → AreJoined rest (if f then s.branch.from else s.branch.to) (if f then s.branch.to else s.branch.from)
        by true = way
        by false = joined_sym rest s.branch.from s.branch.to way

    step-kept : (s : Step) → Contains network.branches s.branch → AreJoined rest (start_of s) (end_of s)
    step-kept s live = by (s.branch.row == row) refl
      where
        by : (b : Bool) → (s.branch.row == row) ≡ b → AreJoined rest (start_of s) (end_of s)
        by true e = step-around s (branch-once row s.branch out.branch (record { live = live; row_is = eqb-true s.branch.row row e }) out.live)
        by false e = joined_step rest s (Contains-filter (λ (b : NetBranch). not (b.row == row)) network.branches s.branch live (ap not e))

    pub outage-parts : PartsNoBus network row
    outage-parts a b joined =
        kept_along network.branches (AreJoined rest a) (λ s live here. joined_trans rest a (start_of s) (end_of s) here (step-kept s live)) joined.steps a b joined.pass joined.lead (joined_itself rest a)

  pub parts-outage : (row : ℕ) → IsLiveRow network row → PartsNoBus network row → IsOutage network row
  parts-outage row (branch, live) parts =
      let ends = parts branch.from branch.to (joined_step network.branches (record { branch = branch; forward = true }) live.live) in
      record { branch = branch; live = live; joined = subst (λ (k : ℕ). AreJoined (others k network.branches) branch.from branch.to) (sym live.row_is) ends }

-- ---- rows parted so far
pub record AreParted (network : LiveNetwork) (rows listed radial : List ℕ) : Type 0 where
  pub listed_are : All (IsOutage network) listed
  pub radial_are : All (IsRadial network) radial
  pub covered : (row : ℕ) → Contains rows row → Contains listed row ⊎ Contains radial row
  pub listed_in : All (Contains rows) listed
  pub radial_in : All (Contains rows) radial
  pub listed_order : AllPairs (λ a b. a < b) listed
  pub radial_order : AllPairs (λ a b. a < b) radial

pub none-parted : (network : LiveNetwork) → AreParted network [] [] []
none-parted network = record {
  listed_are = All-nil (IsOutage network);
  radial_are = All-nil (IsRadial network);
  covered = λ row c. absurd (let lt = c.1 in omega (arith, lt));
  listed_in = All-nil (Contains []);
  radial_in = All-nil (Contains []);
  listed_order = λ i j d lt within. absurd (omega (arith, within));
  radial_order = λ i j d lt within. absurd (omega (arith, within));
}

-- numbers among some that are all below another, with that one behind
behind : (rows some : List ℕ) (row : ℕ) → All (Contains rows) some → ((k : ℕ) → Contains rows k → k < row) → AllPairs (λ a b. a < b) some → AllPairs (λ a b. a < b) (some ++ row ∷ [])
behind rows some row inside below order = all_pairs_push (λ a b. a < b) some row order (λ k d lt. below (get_or some k d) (inside k d lt))

wider : (rows some : List ℕ) (row : ℕ) → All (Contains rows) some → All (Contains (rows ++ row ∷ [])) some
wider rows some row = All-weaker (Contains rows) (Contains (rows ++ row ∷ [])) (λ k. Contains-append_left rows (row ∷ []) k) some

with_it : (rows some : List ℕ) (row : ℕ) → All (Contains rows) some → All (Contains (rows ++ row ∷ [])) (some ++ row ∷ [])
with_it rows some row inside =
    All-append (Contains (rows ++ row ∷ [])) some (row ∷ []) (wider rows some row inside) (All-cons (Contains (rows ++ row ∷ [])) row [] (Contains-push rows row) (All-nil _))

module _ (network : LiveNetwork) (rows listed radial : List ℕ) (row : ℕ) (are : AreParted network rows listed radial) (below : (k : ℕ) → Contains rows k → k < row) where
  pub outage-more : IsOutage network row → AreParted network (rows ++ row ∷ []) (listed ++ row ∷ []) radial
  outage-more out = record {
    listed_are = All-append (IsOutage network) listed (row ∷ []) are.listed_are (All-cons (IsOutage network) row [] out (All-nil _));
    radial_are = are.radial_are;
    covered = λ k c. ⊎_elim
        (λ old. ⊎_elim (λ here. inl (Contains-append_left listed (row ∷ []) k here)) (λ here. inr here) (are.covered k old))
        (λ same. inl (subst (Contains (listed ++ row ∷ [])) same (Contains-push listed row)))
        (Contains-push_cases rows row k c);
    listed_in = with_it rows listed row are.listed_in;
    radial_in = wider rows radial row are.radial_in;
    listed_order = behind rows listed row are.listed_in below are.listed_order;
    radial_order = are.radial_order;
  }

  pub radial-more : IsRadial network row → AreParted network (rows ++ row ∷ []) listed (radial ++ row ∷ [])
  radial-more out = record {
    listed_are = are.listed_are;
    radial_are = All-append (IsRadial network) radial (row ∷ []) are.radial_are (All-cons (IsRadial network) row [] out (All-nil _));
    covered = λ k c. ⊎_elim
        (λ old. ⊎_elim (λ here. inl here) (λ here. inr (Contains-append_left radial (row ∷ []) k here)) (are.covered k old))
        (λ same. inr (subst (Contains (radial ++ row ∷ [])) same (Contains-push radial row)))
        (Contains-push_cases rows row k c);
    listed_in = wider rows listed row are.listed_in;
    radial_in = with_it rows radial row are.radial_in;
    listed_order = are.listed_order;
    radial_order = behind rows radial row are.radial_in below are.radial_order;
  }

-- of rows that rise the first ones are below the next
pub first-below : (rows : List ℕ) (i d : ℕ) → AllPairs (λ a b. a < b) rows → i < length rows → (k : ℕ) → Contains (take i rows) k → k < get_or rows i d
first-below rows i d rise within k (j, lt, at) =
    let early : j < i = omega (arith, lt, length-take-le i rows (omega (arith, within))) in
    let there : get_or rows j k ≡ k = sym (get_or-take i rows j k early) ∙ at in
    let up = rise j i k early within in
    let next = get_or_default rows i k d within in
    omega (arith, up, there, next)

-- all rows parted
pub choice-parted : (network : LiveNetwork) (listed radial : List ℕ) → IsNetwork network → AreParted network (map (λ (b : NetBranch). b.row) network.branches) listed radial → IsOutageChoice network (record { listed = listed; radial = radial })
choice-parted network listed radial is are = record {
  listed = λ row. (
    All-contains (IsOutage network) listed row are.listed_are,
    λ out. ⊎_elim (λ here. here) (λ other. absurd (not-both network is row out (All-contains (IsRadial network) radial row are.radial_are other))) (are.covered row (in_rows row out.branch out.live)),
  );
  radial = λ row. (
    All-contains (IsRadial network) radial row are.radial_are,
    λ out. ⊎_elim (λ other. absurd (not-both network is row (All-contains (IsOutage network) listed row are.listed_are other) out)) (λ here. here) (are.covered row (in_rows row out.branch out.live)),
  );
  listed_order = are.listed_order;
  radial_order = are.radial_order;
}
  where
    in_rows : (row : ℕ) (b : NetBranch) → IsBranchOf network row b → Contains (map (λ (b : NetBranch). b.row) network.branches) row
    in_rows row b live =
        let (i, within, at) = live.live in
        let (wide, here) = row-at network is i b within at in
        (i, wide, get_or_default (map (λ (b : NetBranch). b.row) network.branches) i row 0 wide ∙ here ∙ live.row_is)

-- what is chosen may be listed
pub chosen-are : (network : LiveNetwork) (choice : OutageChoice) → IsOutageChoice network choice → AreOutages network choice.listed
chosen-are network choice is = record {
  each = λ k d lt. (is.listed (get_or choice.listed k d)).0 (Contains-get_or choice.listed k d lt);
  distinct = λ i j d lt within same. let up = is.listed_order i j d lt within in absurd (omega (arith, up, same));
}
