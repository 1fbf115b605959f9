-- The tree of a network's branches, and the loops that the others close.
use Rattle.std.specs.Prelude.{◌≡◌, ◌≢◌, ℕ, ◌==◌, Bool, true, false, List, [], ◌∷◌, ◌++◌, map, AllPairs, Option, Some, None}
use Rattle.std.specs.List.{AllZip}
use Rattle.net_case.specs.declared.live_parts.NetBranch.{NetBranch}
use Rattle.net_paths.specs.declared.steps.Step.{Step}
use Rattle.net_paths.specs.declared.loops_of_tree.Member.{Member}
use Rattle.net_paths.specs.Chains.{start_of, Pass, Lead, AreJoined}
use Rattle.net_paths.specs.Detours.{others}
use Rattle.net_paths.specs.Searching.{IsIncidence}

abbrev pub is_lost : Option ℕ → NetBranch → Bool
is_lost None branch = false
is_lost (Some row) branch = branch.row == row

-- the branches without that of the lost row, where one is lost
abbrev pub kept : Option ℕ → List NetBranch → List NetBranch
kept None branches = branches
kept (Some row) branches = others row branches

-- branches in row order, of which the tree's join two buses that no tree branches before them join; the rest close a loop
pub data Parts : List NetBranch → List NetBranch → List NetBranch → Type 0 where
  nothing : Parts [] [] []
  in_tree : (branches tree rest : List NetBranch) (b : NetBranch) → Parts branches tree rest → ¬ AreJoined tree b.from b.to → Parts (branches ++ b ∷ []) (tree ++ b ∷ []) rest
  in_rest : (branches tree rest : List NetBranch) (b : NetBranch) → Parts branches tree rest → AreJoined tree b.from b.to → Parts (branches ++ b ∷ []) tree (rest ++ b ∷ [])

abbrev pub members_of : List Step → List Member
members_of steps = map (λ s. record { branch = s.branch.row; forward = s.forward }) steps

-- the loop of a branch: it goes from its F_BUS to its T_BUS and back through the tree, from no bus twice
pub record IsLoop (tree : List NetBranch) (b : NetBranch) (members : List Member) : Type 0 where
  pub back : List Step
  pub pass : Pass tree back
  pub lead : Lead back b.to b.from
  pub apart : AllPairs (λ p q. p ≢ q) (map start_of (record { branch = b; forward = true } ∷ back))
  pub members_are : members ≡ members_of (record { branch = b; forward = true } ∷ back)

-- one loop for each branch that is not the tree's
pub record AreLoops (branches : List NetBranch) (loops : List (List Member)) : Type 0 where
  pub tree : List NetBranch
  pub rest : List NetBranch
  pub parts : Parts branches tree rest
  pub loops_are : AllZip (IsLoop tree) rest loops

-- the steps along the tree of some branches, and the loops of the rest
pub record HoldsTree (branches : List NetBranch) (places : ℕ) (lists : List (List Step)) (loops : List (List Member)) : Type 0 where
  pub loops_are : AreLoops branches loops
  pub tree_is : IsIncidence loops_are.tree places lists
