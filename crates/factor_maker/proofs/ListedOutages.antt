-- Listed outages are no more than the live branches.
use Rattle.std.proofs.Common.{◌≤◌, ℕ, List, length, map, subst, arith}
use Rattle.std.specs.Prelude.{Contains}
use Rattle.std.proofs.lemmas.Bool.Decides.{Decides-eqb}
use Rattle.std.proofs.lemmas.Cmp.{nat_eq_equiv}
use Rattle.std.proofs.lemmas.List.{length-map}
use Rattle.std.proofs.lemmas.List.Elements.{All-contains}
use Rattle.std.proofs.lemmas.Map.Made.{IsDistinct-from_AllPairs, is_member-Decides, length-le_from_is_member}
use Rattle.net_case.specs.Networks.{LiveNetwork, IsNetwork}
use Rattle.net_case.specs.declared.live_parts.NetBranch.{NetBranch}
use Rattle.outage_list.specs.Listing.{AreOutages, IsOutage}
use Rattle.dc_network.proofs.Connection.{Contains-map}
use Rattle.market_data.specs.Scales.{most_lines}

pub few_outages : (network : LiveNetwork) (outages : List ℕ) → IsNetwork network → AreOutages network outages → length outages ≤ most_lines
few_outages network outages is listed =
    let rows = map (λ (l : NetBranch). l.row) network.branches in
    let few = length-le_from_is_member nat_eq_equiv outages rows (IsDistinct-from_AllPairs Decides-eqb outages listed.distinct)
    (λ q found. (is_member-Decides Decides-eqb rows q).1 (there q (All-contains (IsOutage network) outages q listed.each ((is_member-Decides Decides-eqb outages q).0 found)))) in
    let count = length-map network.branches (λ (l : NetBranch). l.row) in
    let most = is.branch_count in
    omega (arith, few, count, most)
  where
    there : (q : ℕ) → IsOutage network q → Contains (map (λ (l : NetBranch). l.row) network.branches) q
    there q outage = subst (Contains (map (λ (l : NetBranch). l.row) network.branches)) outage.live.row_is (Contains-map (λ (l : NetBranch). l.row) network.branches outage.branch outage.live.live)
