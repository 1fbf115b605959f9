-- Branches passed one after the other, from the place of a bus to that of another.
use Rattle.std.specs.Prelude.{◌≡◌, ℕ, List, [], ◌∷◌, All, Contains, not, if◌then◌else◌}
use Rattle.net_case.specs.declared.live_parts.NetBranch.{NetBranch}
use Rattle.net_paths.specs.declared.steps.Step.{Step}

-- where a step begins: at the branch's F_BUS, where it is passed forward
abbrev pub start_of : Step → ℕ
start_of s = if s.forward then s.branch.from else s.branch.to

abbrev pub end_of : Step → ℕ
end_of s = if s.forward then s.branch.to else s.branch.from

-- the same branch the other way round
abbrev pub turned : Step → Step
turned s = record { branch = s.branch; forward = not s.forward }

-- the steps lead from a place to another, each beginning where the one before it ends
abbrev pub Lead : List Step → ℕ → ℕ → Type 0
Lead [] a b = a ≡ b
Lead (s ∷ steps) a b = (start_of s ≡ a) × Lead steps (end_of s) b

-- every step passes one of these branches
abbrev pub Pass : List NetBranch → List Step → Type 0
Pass branches steps = All (λ s. Contains branches s.branch) steps

-- some of these branches lead from a place to another
pub record AreJoined (branches : List NetBranch) (a b : ℕ) : Type 0 where
  pub steps : List Step
  pub pass : Pass branches steps
  pub lead : Lead steps a b
