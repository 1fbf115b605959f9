-- Which branches of a network may be lost, and which are radial.
-- Source: Wood and Wollenberg (an outage that splits the network has no outage factors: contingency analysis leaves it out); own names.
use Rattle.std.specs.Prelude.{ℕ, ◌<◌, ◌↔◌, AllPairs, Contains}
use Rattle.net_case.specs.declared.live_parts.NetBranch.{NetBranch}
use Rattle.net_case.specs.Networks.{LiveNetwork, IsNetwork}
use Rattle.net_paths.specs.Chains.{AreJoined}
use Rattle.net_paths.specs.Detours.{IsBranchOf, IsLiveRow, others}
use Rattle.outage_list.specs.Listing.{AreOutages, IsOutage, IslandsNetwork}
use Rattle.outage_choice.specs.declared.OutageChoice.{OutageChoice}

-- the row of a live branch that no others lead round
pub record IsRadial (network : LiveNetwork) (row : ℕ) : Type 0 where
  pub branch : NetBranch
  pub live : IsBranchOf network row branch
  pub islands : IslandsNetwork network branch

-- exactly the branches that may be listed as outages, and exactly the radial ones, both in row order
pub record IsOutageChoice (network : LiveNetwork) (choice : OutageChoice) : Type 0 where
  pub listed : (row : ℕ) → Contains choice.listed row ↔ IsOutage network row
  pub radial : (row : ℕ) → Contains choice.radial row ↔ IsRadial network row
  pub listed_order : AllPairs (λ a b. a < b) choice.listed
  pub radial_order : AllPairs (λ a b. a < b) choice.radial

-- the loss of a branch parts no bus from the others: what the live branches join, those of other rows join too
abbrev pub PartsNoBus : LiveNetwork → ℕ → Type 0
PartsNoBus network row = (a b : ℕ) → AreJoined network.branches a b → AreJoined (others row network.branches) a b

-- ---- the laws
-- what is chosen may be listed
abbrev pub LawOfChosenOutages : Type 0
LawOfChosenOutages = (network : LiveNetwork) (choice : OutageChoice) → IsOutageChoice network choice → AreOutages network choice.listed

-- a live branch may be listed exactly where its loss parts no bus from the others
abbrev pub LawOfLostBranches : Type 0
LawOfLostBranches = (network : LiveNetwork) (row : ℕ) → IsNetwork network → IsOutage network row ↔ (IsLiveRow network row × PartsNoBus network row)
