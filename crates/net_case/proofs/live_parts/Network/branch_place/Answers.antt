use Rattle.std.proofs.Common.{◌≡◌, ◌∙◌, ℕ, ◌≤◌, List, sym, ap, subst, map, pos, w64}
use Rattle.std.specs.Prelude.{◌≢◌}
use Rattle.std.proofs.lemmas.Int.{to_z-of_z}
use Rattle.net_case.specs.declared.live_parts.NetBranch.{NetBranch}
use Rattle.net_case.specs.Networks.{LiveNetwork, IsNetwork, place_of, branch_place}
use Rattle.market_data.specs.Scales.{most_lines}
use Rattle.net_case.proofs.PlaceLemmas.{place-outside, within-most}
use Rattle.net_case.proofs.live_parts.Network.branch_place.Goals as goal

pub place_of_row-requires : goal.place_of_row-requires
place_of_row-requires c = rw c.slice.ensures c.self.invariant.rows_of_branches.rise

pub returns-in-Some : goal.returns-in-Some
returns-in-Some c =
    let branches : c.slice.result.now ≡ c.args.self.now.branches = c.slice.ensures ∙ ap (λ (n : LiveNetwork). n.branches) c.self.view_is in
    let is : c.args.row ≡ pos c.in-Some.row = rw (to_z-of_z w64 c.args.row c.ranges.row) at c.in-Some.ensures in
    c.place_of_row.ensures ∙ ap (λ (bs : List NetBranch). place_of (map (λ b. b.row) bs) (pos c.in-Some.row)) branches ∙ ap (branch_place c.args.self.now) (sym is)

pub returns-in-None : goal.returns-in-None
returns-in-None c =
    let kept : IsNetwork c.args.self.now = subst IsNetwork c.self.view_is c.self.invariant in
    let out : (m : ℕ) → 1 ≤ m → m ≤ most_lines → c.args.row ≢ pos m = rw (to_z-of_z w64 c.args.row c.ranges.row) at c.in-None.ensures in
    sym (place-outside (map (λ (b : NetBranch). b.row) c.args.self.now.branches) most_lines c.args.row (within-most c.args.self.now.branch_rows most_lines (map (λ (b : NetBranch). b.row) c.args.self.now.branches) kept.branch_row_count kept.rows_of_branches.range) out)
