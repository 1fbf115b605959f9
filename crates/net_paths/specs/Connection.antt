-- Whether the live branches join all live buses.
use Rattle.std.specs.Prelude.{◌≡◌, ℕ, ◌<◌, List, length, map, slice_index}
use Rattle.net_case.specs.declared.live_parts.NetBranch.{NetBranch}
use Rattle.net_case.specs.Networks.{LiveNetwork}
use Rattle.net_paths.specs.declared.connection.PathStop.{PathStop}
use Rattle.net_paths.specs.declared.connection.PathStop.TheVariants as stop
use Rattle.net_paths.specs.Chains.{AreJoined}

-- the number of the bus at a place
abbrev pub bus_number : LiveNetwork → ℕ → ℕ
bus_number network place = slice_index (map (λ bus. bus.number) network.buses) place

-- the branches join each of so many places to the first one
abbrev pub JoinAll : List NetBranch → ℕ → Type 0
JoinAll branches places = (p : ℕ) → p < places → AreJoined branches 0 p

-- this is the number of a live bus that no live branches join to the first one, while they join each bus before it
pub record IsSplit (network : LiveNetwork) (number : ℕ) : Type 0 where
  pub place : ℕ
  pub within : place < length network.buses
  pub number_is : bus_number network place ≡ number
  pub apart : ¬ AreJoined network.branches 0 place
  pub first : (p : ℕ) → p < place → AreJoined network.branches 0 p

abbrev pub IsPathStop : LiveNetwork → PathStop → Type 0
IsPathStop network (stop.Split number) = IsSplit network number
IsPathStop network stop.Memory = Unit {0}
