-- The rows of live branches.
use Rattle.std.proofs.Common.{◌≡◌, ◌≢◌, ℕ, ◌<◌, ◌≤◌, pos, true, List, length, map, get_or, arith, ap, subst, ◌∙◌, Some}
use Rattle.std.specs.Prelude.{AllPairs, Contains, is_some, slice_get}
use Rattle.std.proofs.lemmas.Bool.{and_from, le-leb}
use Rattle.std.proofs.lemmas.List.{get_or-map, length-map}
use Rattle.std.proofs.lemmas.Option.{slice_get-get_or}
use Rattle.net_case.specs.declared.live_parts.NetBranch.{NetBranch}
use Rattle.net_case.specs.Networks.{IsNetwork, LiveNetwork}
use Rattle.net_case.proofs.PlaceLemmas.{place-some}
use Rattle.factor_tables.specs.Rules.{is_live_branch, is_row}

module _ (network : LiveNetwork) (is : IsNetwork network) (branch : NetBranch) (live : Contains network.branches branch) where
  abbrev rows_in : List ℕ
  rows_in = map (λ (b : NetBranch). b.row) network.branches

  row-at : (live.0 < length rows_in) × (get_or rows_in live.0 0 ≡ branch.row)
  row-at =
      let (k, within, at) = live in
      let size = length-map network.branches (λ (b : NetBranch). b.row) in
      (omega (arith, within, size), get_or-map (λ (b : NetBranch). b.row) network.branches k branch 0 within ∙ ap (λ (b : NetBranch). b.row) at)

  -- it is a row of the case
  pub row-range : (1 ≤ branch.row) × (branch.row ≤ network.branch_rows)
  row-range = subst (λ (row : ℕ). (1 ≤ row) × (row ≤ network.branch_rows)) row-at.1 (is.rows_of_branches.range live.0 0 row-at.0)

  pub is-row : is_row network (pos branch.row) ≡ true
  is-row = and_from _ _ (le-leb 1 branch.row row-range.0) (le-leb branch.row network.branch_rows row-range.1)

  apart : AllPairs (λ a b. a ≢ b) rows_in
  apart i j d lt within e = let up = is.rows_of_branches.rise i j d lt within in omega (arith, up, e)

  -- and that of a live branch
  pub is-live : is_live_branch network (pos branch.row) ≡ true
  is-live =
      let here : slice_get rows_in live.0 ≡ Some branch.row = slice_get-get_or rows_in live.0 0 row-at.0 ∙ ap Some row-at.1 in
      ap is_some (place-some rows_in branch.row live.0 apart here)

  pub row-small : branch.row ≤ 2000
  row-small = let few = is.branch_row_count in let most = row-range.1 in omega (arith, few, most)
