-- Which room, that a unit's energy and its reserve share, is passed by the most.
-- Source: own; as violated limits, of rooms that are passed one alone is taken.
use Rattle.std.specs.Prelude.{◌≡◌, ℕ, ◌<◌, Bool, List, length, map, Option, Some, None, Contains, if◌then◌else◌}
use Rattle.std.specs.Option.{option_map}
use Rattle.fraction_theory.specs.Fraction.{Fraction, ◌-ℚ◌}
use Rattle.fraction_theory.specs.Order.{◌<ℚ◌, ◌≤ℚ◌}
use Rattle.market_model.specs.declared.participants.Parts.{Parts}
use Rattle.market_model.specs.Dispatch.{Dispatch, places, unit_at}
use Rattle.market_model.specs.Reserves.{offers_reserve, reserve_units, room, room_used, KeepRooms, IsRoomPassed}
use Rattle.limit_screen.specs.declared.sharing.RoomOverrun.{RoomOverrun}

-- by how much a unit uses more than its room; at most 0 where it keeps that
abbrev pub room_overrun : Parts → Dispatch → ℕ → Fraction
room_overrun m x u = room_used m x u -ℚ room m u

-- all units that offer reserve keep their rooms
abbrev pub AllKeepRooms : Parts → Dispatch → Type 0
AllKeepRooms m x = KeepRooms m (reserve_units m) x

-- of the units before a place that offer reserve, one passes its room, none passes its own by more, and none before it by as much
pub record IsWorstRoomBefore (m : Parts) (x : Dispatch) (place u : ℕ) : Type 0 where
  pub before : u < place
  pub offers : Contains (reserve_units m) u
  pub passed : IsRoomPassed m x u
  pub most : (v : ℕ) → v < place → Contains (reserve_units m) v → room_overrun m x v ≤ℚ room_overrun m x u
  pub first : (v : ℕ) → v < u → Contains (reserve_units m) v → room_overrun m x v <ℚ room_overrun m x u

-- of all units
abbrev pub IsWorstRoom : Parts → Dispatch → ℕ → Type 0
IsWorstRoom m x u = IsWorstRoomBefore m x (length m.units) u

-- its row in the gen matrix
abbrev pub IsWorstRoomNamed : Parts → Dispatch → ℕ → Type 0
IsWorstRoomNamed m x row = (u : ℕ) × IsWorstRoom m x u × (row ≡ (unit_at m u).row)

-- of the units before a place the worst with its overrun, or none where these keep their rooms
abbrev pub IsWorstRoomTo : {N : Type 0} → (N → Fraction) → Parts → Dispatch → ℕ → Option (RoomOverrun N) → Type 0
IsWorstRoomTo value m x place None = (v : ℕ) → v < place → Contains (reserve_units m) v → room_used m x v ≤ℚ room m v
IsWorstRoomTo value m x place (Some b) = IsWorstRoomBefore m x place b.unit × (value b.overrun ≡ room_overrun m x b.unit)

-- ---- what units use, as numbers
-- a sum where it counts, and nothing where it does not
abbrev pub counted : Bool → Fraction → Option Fraction
counted counts sum = if counts then Some sum else None

-- by place of so many units: of those that count such a sum, and nothing of the others
abbrev pub HaveSums : {N : Type 0} → (N → Fraction) → (ℕ → Bool) → (ℕ → Fraction) → ℕ → List (Option N) → Type 0
HaveSums value counts sum units used = map (option_map value) used ≡ map (λ u. counted (counts u) (sum u)) (places units)

-- what a unit uses of its room, where it offers reserve
abbrev pub IsUseOf : {N : Type 0} → (N → Fraction) → Parts → Dispatch → ℕ → Option N → Type 0
IsUseOf value m x u used = option_map value used ≡ counted (offers_reserve m u) (room_used m x u)

-- of the units that offer reserve what each uses of its room
abbrev pub AreRoomsUsed : {N : Type 0} → (N → Fraction) → Parts → Dispatch → List (Option N) → Type 0
AreRoomsUsed value m x used = HaveSums value (offers_reserve m) (room_used m x) (length m.units) used
