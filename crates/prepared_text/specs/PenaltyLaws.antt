-- What is written of penalties is read back: each limit of a network gives way.
-- Source: own; a limit gives way at a price for each MW beyond it (transmission constraint penalty factor).
use Rattle.std.specs.Prelude.{◌≡◌, Bool, Contains, IsSome, Some, Ok}
use Rattle.net_case.specs.Networks.{LiveNetwork, IsNetwork}
use Rattle.net_case.specs.declared.live_parts.NetBranch.{NetBranch}
use Rattle.factor_tables.specs.Penalties.{IsSoftness, branch_limit, penalties_of, softness_at}
use Rattle.factor_tables.specs.declared.penalty_list.Softness.{Softness}
use Rattle.prepared_text.specs.PenaltyText.{all_soft, penalty_text}

-- what is written is read as one penalty for each limit of each live branch
abbrev pub LawOfPenaltiesRead : Type 0
LawOfPenaltiesRead = (network : LiveNetwork) (softness : Softness) → IsNetwork network → IsSoftness softness → penalties_of network (penalty_text network softness) ≡ Ok (all_soft network softness)

-- every limit that a live branch has gives way by this penalty
abbrev pub LawOfSoftLimits : Type 0
LawOfSoftLimits =
    (network : LiveNetwork) (softness : Softness) (branch : NetBranch) (post : Bool) → Contains network.branches branch → IsSome (branch_limit post branch)
    → softness_at (all_soft network softness) (branch.row, post) ≡ Some softness
