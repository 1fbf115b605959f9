-- What the bytes of a case stand for.
use Rattle.std.specs.Prelude.{ℕ, ℤ, List, length, Result, Ok, Err}
use Rattle.record_reading.specs.Steps.{and_then, or_as}
use Rattle.case_text.specs.Cases.{case_of}
use Rattle.case_text.specs.Matrices.{CaseMatrices}
use Rattle.net_case.specs.declared.live_parts.Branches.{Branches}
use Rattle.net_case.specs.declared.live_parts.Branches.TheVariants as branches
use Rattle.net_case.specs.declared.live_parts.PostRating.{PostRating}
use Rattle.net_case.specs.Networks.{LiveNetwork}
use Rattle.net_case.specs.NetworkReading.{network_of}
use Rattle.net_case.specs.ReactanceReading.{reactances_of}
use Rattle.net_paths.specs.Connection.{JoinAll, IsSplit}
use Rattle.refusal_text.specs.declared.refusals.Refusal.{Refusal}
use Rattle.refusal_text.specs.declared.refusals.Refusal.TheVariants as refusal
use Rattle.market_inputs.specs.Steps.{Is, Then}

-- the matrices of a case's text
abbrev pub matrices_in : Result (List ℕ) Refusal → Result CaseMatrices Refusal
matrices_in bytes = and_then bytes (λ text. or_as refusal.Case (case_of text))

-- the network of a case's rows
abbrev pub network_in : Branches → CaseMatrices → Result LiveNetwork Refusal
network_in read matrices = or_as refusal.Network (network_of read matrices)

-- a network whose live branches join all its live buses, and the first bus that they do not where there is one
pub data IsJoined (network : LiveNetwork) : Result LiveNetwork Refusal → Type 0 where
  joined : JoinAll network.branches (length network.buses) → IsJoined network (Ok network)
  split : (bus : ℕ) → IsSplit network bus → IsJoined network (Err (refusal.Split bus))

-- the network of a case's rows, with this rating after an outage, where it is joined
abbrev pub IsJoinedNetwork : PostRating → CaseMatrices → Result LiveNetwork Refusal → Type 0
IsJoinedNetwork rating matrices told = Then (Is (network_in (branches.Read rating) matrices)) IsJoined told

-- the network of a case's text, with this rating after an outage, where it is joined
abbrev pub IsReadNetwork : PostRating → Result (List ℕ) Refusal → Result LiveNetwork Refusal → Type 0
IsReadNetwork rating bytes told = Then (Is (matrices_in bytes)) (IsJoinedNetwork rating) told

-- the network of a case's text without branches
abbrev pub AreReadBuses : Result (List ℕ) Refusal → Result LiveNetwork Refusal → Type 0
AreReadBuses bytes told = Then (Is (matrices_in bytes)) (λ matrices. Is (network_in branches.Skip matrices)) told

-- the reactances of a network's live branches
abbrev pub case_reactances : CaseMatrices → LiveNetwork → Result (List ℤ) Refusal
case_reactances matrices network = or_as refusal.Network (reactances_of matrices network)
