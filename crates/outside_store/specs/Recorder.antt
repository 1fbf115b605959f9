-- What a sink in memory took.
use Rattle.std.specs.Prelude.{ℕ, ◌+◌, ◌<◌, List, length}
use Rattle.outside_store.specs.Bounded.{Bounded}
use Rattle.outside_store.specs.Plan.{Plan}

-- the bytes taken and the room for them, which calls are to fail, and how many failed
pub record Recorder : Type 0 where
  pub taken : Bounded
  pub plan : Plan
  pub faults : ℕ

-- there is no room for so many bytes more
abbrev pub IsFull : Bounded → List ℕ → Type 0
IsFull held bytes = held.room < length held.bytes + length bytes
