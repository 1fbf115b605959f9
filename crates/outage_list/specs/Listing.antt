-- Which outages are listed: live branches, no one twice, none of which islands the network.
use Rattle.std.specs.Prelude.{◌≡◌, ◌≢◌, ⊤, ℕ, ◌+◌, ℤ, pos, unsigned_abs, List, ◌∷◌, ◌++◌, length, map, All, AllPairs, Contains, false, true, Result, Ok, Err}
use Rattle.net_case.specs.declared.live_parts.NetBranch.{NetBranch}
use Rattle.net_case.specs.Networks.{LiveNetwork}
use Rattle.net_paths.specs.Chains.{AreJoined}
use Rattle.net_paths.specs.Detours.{IsBranchOf, IsOff, IsSide, others}
use Rattle.factor_tables.specs.Rules.{is_live_branch, is_row}
use Rattle.outage_list.specs.declared.listing.OutageFault.{OutageFault}
use Rattle.outage_list.specs.declared.listing.OutageFault.TheVariants as fault

-- a branch islands the network where no other live branches lead from its F_BUS to its T_BUS
abbrev pub IslandsNetwork : LiveNetwork → NetBranch → Type 0
IslandsNetwork network branch = ¬ AreJoined (others branch.row network.branches) branch.from branch.to

-- the row of a live branch that others lead round
pub record IsOutage (network : LiveNetwork) (row : ℕ) : Type 0 where
  pub branch : NetBranch
  pub live : IsBranchOf network row branch
  pub joined : AreJoined (others branch.row network.branches) branch.from branch.to

-- outages, no one twice
pub record AreOutages (network : LiveNetwork) (rows : List ℕ) : Type 0 where
  pub each : All (IsOutage network) rows
  pub distinct : AllPairs (λ a b. a ≢ b) rows

-- a branch that islands the network, with the buses that stay joined to its T_BUS, without its F_BUS
pub record IsIsland (network : LiveNetwork) (row : ℕ) (numbers : List ℕ) : Type 0 where
  pub branch : NetBranch
  pub live : IsBranchOf network row branch
  pub islands : IslandsNetwork network branch
  pub side : IsSide network (others branch.row network.branches) branch.to numbers
  pub off : IsOff network branch.from numbers

-- the fault of a number on a line, behind outages that are listed; memory may be refused at any
abbrev pub IsFaultOf : LiveNetwork → List ℕ → ℤ → ℕ → OutageFault → Type 0
IsFaultOf network before n line (fault.NoBranch at) = (at ≡ line) × (is_row network n ≡ false)
IsFaultOf network before n line (fault.DeadBranch at) = (at ≡ line) × (is_row network n ≡ true) × (is_live_branch network n ≡ false)
IsFaultOf network before n line (fault.Twice at) = (at ≡ line) × (is_live_branch network n ≡ true) × Contains before (unsigned_abs n)
IsFaultOf network before n line (fault.Islands row side) = (n ≡ pos row) × (¬ Contains before row) × IsIsland network row side
IsFaultOf network before n line fault.Memory = ⊤

-- what is told of a number on a line, behind outages that are listed
abbrev pub IsTold : LiveNetwork → List ℕ → ℤ → ℕ → Result ℕ OutageFault → Type 0
IsTold network before n line (Ok row) = (n ≡ pos row) × (¬ Contains before row) × IsOutage network row
IsTold network before n line (Err f) = IsFaultOf network before n line f

-- a fault of the first of some numbers that has one: those before it are listed
pub record IsFirstFault (network : LiveNetwork) (numbers : List ℤ) (f : OutageFault) : Type 0 where
  pub before : List ℕ
  pub number : ℤ
  pub after : List ℤ
  pub numbers_are : numbers ≡ map pos before ++ number ∷ after
  pub listed : AreOutages network before
  pub fault : IsFaultOf network before number (length before + 2) f

-- the numbers as outages, or the first fault
abbrev pub IsListed : LiveNetwork → List ℤ → Result (List ℕ) OutageFault → Type 0
IsListed network numbers (Ok rows) = (numbers ≡ map pos rows) × AreOutages network rows
IsListed network numbers (Err fault.Memory) = ⊤
IsListed network numbers (Err f) = IsFirstFault network numbers f
