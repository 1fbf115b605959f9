-- What is left between the buses of a branch that is lost: a way round it, or the side of its T_BUS.
use Rattle.std.specs.Prelude.{◌≡◌, ◌≢◌, ℕ, ◌<◌, ◌==◌, ◌↔◌, not, List, [], ◌∷◌, ◌++◌, length, filter, map, All, AllPairs, Contains, Option, IsSome}
use Rattle.net_case.specs.declared.live_parts.NetBranch.{NetBranch}
use Rattle.net_case.specs.Networks.{LiveNetwork}
use Rattle.net_paths.specs.declared.detours.Detour.{Detour}
use Rattle.net_paths.specs.declared.detours.Detour.TheVariants as detour
use Rattle.net_paths.specs.declared.steps.Step.{Step}
use Rattle.net_paths.specs.Chains.{start_of, Pass, Lead, AreJoined}
use Rattle.net_paths.specs.Connection.{bus_number}
use Rattle.net_paths.specs.Searching.{visit_at}

-- the live branch of a row
pub record IsBranchOf (network : LiveNetwork) (row : ℕ) (branch : NetBranch) : Type 0 where
  pub live : Contains network.branches branch
  pub row_is : branch.row ≡ row

abbrev pub IsLiveRow : LiveNetwork → ℕ → Type 0
IsLiveRow network row = (branch : NetBranch) × IsBranchOf network row branch

-- the branches of other rows
abbrev pub others : ℕ → List NetBranch → List NetBranch
others row branches = filter (λ branch. not (branch.row == row)) branches

-- the places that steps pass, with the last one's end
abbrev pub places_of : List Step → ℕ → List ℕ
places_of steps b = map start_of steps ++ b ∷ []

-- the rows of branches, of these, that lead from a place to another, at no place twice
pub record IsPath (branches : List NetBranch) (a b : ℕ) (rows : List ℕ) : Type 0 where
  pub steps : List Step
  pub pass : Pass branches steps
  pub lead : Lead steps a b
  pub apart : AllPairs (λ p q. p ≢ q) (places_of steps b)
  pub rows_are : rows ≡ map (λ s. s.branch.row) steps

-- the numbers, in row order, of the buses that the branches join to a place; no branch leads out of these
pub record IsSide (network : LiveNetwork) (branches : List NetBranch) (b : ℕ) (numbers : List ℕ) : Type 0 where
  pub places : List ℕ
  pub order : AllPairs (λ p q. p < q) places
  pub within : All (λ p. p < length network.buses) places
  pub joined : All (AreJoined branches b) places
  pub all : (p : ℕ) → p < length network.buses → AreJoined branches b p → Contains places p
  pub closed : (branch : NetBranch) → Contains branches branch → Contains places branch.from ↔ Contains places branch.to
  pub numbers_are : numbers ≡ map (bus_number network) places

-- the bus at a place is not among these numbers
abbrev pub IsOff : LiveNetwork → ℕ → List ℕ → Type 0
IsOff network a numbers = ¬ Contains numbers (bus_number network a)

-- a path where the other live branches join the two buses, and a side without F_BUS where they don't
abbrev pub IsDetour : LiveNetwork → NetBranch → Detour → Type 0
IsDetour network branch (detour.Path rows) = IsPath (others branch.row network.branches) branch.from branch.to rows
IsDetour network branch (detour.Side numbers) =
    (¬ AreJoined (others branch.row network.branches) branch.from branch.to) × IsSide network (others branch.row network.branches) branch.to numbers
    × IsOff network branch.from numbers

-- the numbers of the buses at the visited places, of the first ones, in their order
pub record HoldsSide (network : LiveNetwork) (seen : List (Option ℕ)) (upto : ℕ) (numbers : List ℕ) : Type 0 where
  pub places : List ℕ
  pub order : AllPairs (λ p q. p < q) places
  pub within : All (λ p. p < upto) places
  pub visited : All (λ p. IsSome (visit_at seen p)) places
  pub all : (p : ℕ) → p < upto → IsSome (visit_at seen p) → Contains places p
  pub numbers_are : numbers ≡ map (bus_number network) places
