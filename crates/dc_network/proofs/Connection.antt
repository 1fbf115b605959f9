-- The live branches of a sound network are a network that is connected, with an outage too.
use Rattle.std.specs.Prelude.{◌≡◌, ℕ, ◌==◌, ℤ, Bool, true, false, not, List, [], ◌∷◌, ◌⊎◌, length, map, Contains, Option, Some, None, if◌then◌else◌, refl}
use Rattle.std.proofs.Common.{arith, ap, sym, ◌∙◌, subst, inl, inr}
use Rattle.std.proofs.lemmas.Bool.Decides.{eqb_tells}
use Rattle.std.proofs.lemmas.List.{get_or-map, length-map}
use Rattle.std.proofs.lemmas.List.Elements.{All-contains}
use Rattle.fraction_theory.proofs.ListSums.{Contains-head, Contains-cons, Contains-cases, Contains-filter, Contains-from_filter}
use Rattle.net_case.specs.Networks.{LiveNetwork, IsNetBranch}
use Rattle.net_case.specs.declared.live_parts.NetBranch.{NetBranch}
use Rattle.net_paths.specs.declared.steps.Step.{Step}
use Rattle.net_paths.specs.Chains.{start_of, end_of, AreJoined}
use Rattle.net_paths.specs.Connection.{JoinAll}
use Rattle.net_paths.specs.Detours.{others}
use Rattle.net_paths.specs.Loops.{kept}
use Rattle.net_paths.proofs.ChainLemmas.{joined_itself, joined_sym, joined_trans, joined_step, kept_along}
use Rattle.outage_list.specs.Listing.{IsOutage}
use Rattle.network_theory.specs.Networks.{Branch, IsBranchOf, IsTheoryNetwork, IsConnected, AreNeighbours, AreLinked}
use Rattle.dc_network.specs.DcNetworks.{dc_branch, dc_network}
use Rattle.dc_network.specs.Laws.{IsSound, LeavesJoined, LawOfTheNetwork}
use Rattle.dc_network.proofs.Reactances.{same_row, susceptance_above}

-- ---- members of lists
pub Contains-map : {X Y : Type 0} (f : X → Y) (xs : List X) (x : X) → Contains xs x → Contains (map f xs) (f x)
Contains-map f xs x c = (c.0, Prim.omega (arith, c.1, length-map xs f), get_or-map f xs c.0 x (f x) c.1 ∙ ap f c.2)

pub Contains-from_map : {X Y : Type 0} (f : X → Y) (xs : List X) (y : Y) → Contains (map f xs) y → (x : X) × Contains xs x × (f x ≡ y)
Contains-from_map f [] y c = absurd (Prim.omega (arith, c.1))
Contains-from_map {X} f (x ∷ xs) y c = by (Contains-from_map f xs y) (Contains-cases (f x) (map f xs) y c)
  where
    by : (Contains (map f xs) y → (z : X) × Contains xs z × (f z ≡ y)) → (f x ≡ y) ⊎ Contains (map f xs) y → (z : X) × Contains (x ∷ xs) z × (f z ≡ y)
    by more (inl e) = (x, Contains-head x xs, e)
    by more (inr d) = let r = more d in (r.0, Contains-cons x xs r.0 r.1, r.2)

-- ---- branches that are kept
pub kept_live : (lost : Option ℕ) (branches : List NetBranch) (l : NetBranch) → Contains (kept lost branches) l → Contains branches l
kept_live None branches l c = c
kept_live (Some row) branches l c = (Contains-from_filter (λ (branch : NetBranch). not (branch.row == row)) branches l c).0

module _ (network : LiveNetwork) (row : ℕ) (same : (l k : NetBranch) → Contains network.branches l → Contains network.branches k → l.row ≡ k.row → l ≡ k) (outage : IsOutage network row) where
  abbrev left : List NetBranch
  left = others row network.branches

  detour : AreJoined left outage.branch.from outage.branch.to
  detour = subst (λ (r : ℕ). AreJoined (others r network.branches) outage.branch.from outage.branch.to) outage.live.row_is outage.joined

  by_detour : (s : Step) → AreJoined left s.branch.from s.branch.to → AreJoined left (start_of s) (end_of s)
  by_detour s h = by s.forward
    where
      by : (f : Bool) → AreJoined left (if f then s.branch.from else s.branch.to) (if f then s.branch.to else s.branch.from)
      by true = h
      by false = joined_sym left s.branch.from s.branch.to h

  -- a step along the lost branch takes the way round it
  step_left : (s : Step) → Contains network.branches s.branch → AreJoined left (start_of s) (end_of s)
  step_left s c = elim (eqb_tells s.branch.row row) [
    | inl t ↦ by_detour s (subst (λ (l : NetBranch). AreJoined left l.from l.to) (same outage.branch s.branch outage.live.live c (outage.live.row_is ∙ sym t.1)) detour)
    | inr t ↦ joined_step left s (Contains-filter (λ (branch : NetBranch). not (branch.row == row)) network.branches s.branch c (ap not t.0))
  ]

  chain_left : (a b : ℕ) → AreJoined network.branches a b → AreJoined left a b
  chain_left a b h =
      kept_along network.branches (AreJoined left a) (λ s c k. joined_trans left a (start_of s) (end_of s) k (step_left s c)) h.steps a b h.pass h.lead (joined_itself left a)

all_joined : (network : LiveNetwork) → ((l k : NetBranch) → Contains network.branches l → Contains network.branches k → l.row ≡ k.row → l ≡ k)
    → (lost : Option ℕ) → LeavesJoined network lost → JoinAll (kept lost network.branches) (length network.buses)
all_joined network same None h = h
all_joined network same (Some row) h = λ p lt. chain_left network row same h.1 0 p (h.0 p lt)

-- ---- chains of neighbours
module _ (network : LiveNetwork) (xs : List ℤ) (lost : Option ℕ) where
  neighbours : (s : Step) → Contains (kept lost network.branches) s.branch → AreNeighbours (dc_network network xs lost) (end_of s) (start_of s)
  neighbours s c = record { branch = dc_branch network xs s.branch; there = Contains-map (dc_branch network xs) (kept lost network.branches) s.branch c; ends = by s.forward }
    where
      by : (f : Bool) → ((s.branch.from ≡ (if f then s.branch.to else s.branch.from)) × (s.branch.to ≡ (if f then s.branch.from else s.branch.to)))
          ⊎ ((s.branch.from ≡ (if f then s.branch.from else s.branch.to)) × (s.branch.to ≡ (if f then s.branch.to else s.branch.from)))
      by true = inr (refl, refl)
      by false = inl (refl, refl)

  linked : (a b : ℕ) → AreJoined (kept lost network.branches) a b → AreLinked (dc_network network xs lost) b a
  linked a b h =
      kept_along (kept lost network.branches) (λ (q : ℕ). AreLinked (dc_network network xs lost) q a)
      (λ s c k. record { chain = start_of s ∷ k.chain; lead = (neighbours s c, k.lead) }) h.steps a b h.pass h.lead (record { chain = []; lead = refl })

  module _ (sound : IsSound network xs lost) where
    pub is_network : IsTheoryNetwork (dc_network network xs lost)
    is_network = record { branches = each }
      where
        of : (l : NetBranch) → Contains (kept lost network.branches) l → IsBranchOf (dc_network network xs lost) (dc_branch network xs l)
        of l c =
            let live = kept_live lost network.branches l c in
            let between = All-contains (IsNetBranch (length network.buses)) network.branches l sound.network_is.branches live in
            record { from = between.from; to = between.to; susceptance = susceptance_above network sound.network_is xs sound.reactances sound.positive l live }

        each : (b : Branch) → Contains (dc_network network xs lost).branches b → IsBranchOf (dc_network network xs lost) b
        each b c =
            let l = Contains-from_map (dc_branch network xs) (kept lost network.branches) b c in
            subst (IsBranchOf (dc_network network xs lost)) l.2 (of l.0 l.1)

    pub is_connected : IsConnected (dc_network network xs lost) network.reference
    is_connected = record {
      joined = λ i lt.
          let bs = kept lost network.branches in
          let all = all_joined network (same_row network sound.network_is) lost sound.joined in
          linked network.reference i (joined_trans bs network.reference 0 i (joined_sym bs 0 network.reference (all network.reference sound.network_is.reference)) (all i lt));
    }

pub law_of_the_network : LawOfTheNetwork
law_of_the_network network xs lost sound = (is_network network xs lost sound, is_connected network xs lost sound)
