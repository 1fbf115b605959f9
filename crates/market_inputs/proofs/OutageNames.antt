-- What a row of a live branch names, where the rows of live branches rise.
use Rattle.std.proofs.Common.{◌≡◌, ◌∙◌, ◌<◌, ◌≤◌, sym, ap, arith, ℕ, ℤ, pos, negsuc, List, length, map, get_or, true, Some}
use Rattle.std.specs.Prelude.{AllPairs, is_some}
use Rattle.std.proofs.lemmas.Bool.{cases_lt}
use Rattle.std.proofs.lemmas.Grind.{common_steps}
use Rattle.std.proofs.lemmas.List.{get_or-map, get_or_default, length-map}
use Rattle.std.proofs.lemmas.Option.{slice_get-get_or}
use Rattle.std.proofs.Math.Logic.{⊎_elim}
use Rattle.net_case.specs.declared.live_parts.NetBranch.{NetBranch}
use Rattle.net_case.specs.Networks.{AreRows, LiveNetwork}
use Rattle.net_case.proofs.PlaceLemmas.{place-some}
use Rattle.net_paths.specs.Detours.{IsBranchOf}
use Rattle.factor_tables.specs.Rules.{is_live_branch, is_row}
use Rattle.outage_list.proofs.ListingLemmas.{live-row}

-- numbers that rise differ at different places
rise-apart : (xs : List ℕ) (i j d : ℕ) → AllPairs (λ a b. a < b) xs → i < length xs → j < length xs → get_or xs i d ≡ get_or xs j d → i ≡ j
rise-apart xs i j d rise first second same =
    ⊎_elim (λ lt. absurd (let up = rise i j d lt second in omega (arith, up, same)))
    (λ le. ⊎_elim (λ lt. absurd (let up = rise j i d lt first in omega (arith, up, same))) (λ le'. omega (arith, le, le')) (cases_lt j i))
    (cases_lt i j)

module _ (network : LiveNetwork) (kept : AreRows network.branch_rows (map (λ (b : NetBranch). b.row) network.branches)) where
  abbrev rows_in : List ℕ
  rows_in = map (λ (b : NetBranch). b.row) network.branches

  -- the place of a branch among the rows
  row-at : (i : ℕ) (a : NetBranch) → i < length network.branches → get_or network.branches i a ≡ a → (i < length rows_in) × (get_or rows_in i 0 ≡ a.row)
  row-at i a within at =
      let wide : i < length rows_in = rw length-map within in
      (wide, get_or-map (λ (b : NetBranch). b.row) network.branches i a 0 within ∙ ap (λ (b : NetBranch). b.row) at)

  -- a row names one live branch
  pub branch-once : (row : ℕ) (a b : NetBranch) → IsBranchOf network row a → IsBranchOf network row b → a ≡ b
  branch-once row a b first second =
      let (i, within, at) = first.live in
      let (j, within', at') = second.live in
      let (wide, is) = row-at i a within at in
      let (wide', is') = row-at j b within' at' in
      let same : i ≡ j = rise-apart rows_in i j 0 kept.rise wide wide' (is ∙ first.row_is ∙ sym (is' ∙ second.row_is)) in
      sym at ∙ get_or_default network.branches i a b within ∙ ap (λ k. get_or network.branches k b) same ∙ at'

  -- it is a row of a branch
  pub branch-row : (row : ℕ) (b : NetBranch) → IsBranchOf network row b → is_row network (pos row) ≡ true
  branch-row row b is =
      let (i, within, at) = is.live in
      let (wide, same) = row-at i b within at in
      let h = kept.range i 0 wide in
      let low : 1 ≤ row = omega (arith, h.0, same, is.row_is) in
      let high : row ≤ network.branch_rows = omega (arith, h.1, same, is.row_is) in
      grind (arith, common_steps)

  -- and that of a live one
  pub branch-live : (row : ℕ) (b : NetBranch) → IsBranchOf network row b → is_live_branch network (pos row) ≡ true
  branch-live row b is =
      let (i, within, at) = is.live in
      let (wide, same) = row-at i b within at in
      let here = place-some rows_in row i (λ j k d lt inside e. let up = kept.rise j k d lt inside in omega (arith, up, e)) (slice_get-get_or rows_in i 0 wide ∙ ap (λ (m : ℕ). Some m) (same ∙ is.row_is)) in
      ap is_some here

  pub live-is_row : (n : ℤ) → is_live_branch network n ≡ true → is_row network n ≡ true
  live-is_row (negsuc k) live = cc
  live-is_row (pos k) live = let (b, is) = live-row network (pos k) live in branch-row k b is
