-- What every bus and unit keeps.
use Rattle.std.specs.Prelude.{ℕ, ◌<◌, ◌≤◌, ◌^◌, ℤ, pos, ◌≤ℤ◌, unsigned_abs}
use Rattle.market_data.specs.declared.participants.Bus.{Bus}
use Rattle.market_data.specs.declared.participants.Unit as unit

-- a number of at most 63 bits
abbrev pub IsDatum : ℤ → Type 0
IsDatum n = unsigned_abs n < 2 ^ 63

pub record IsBus (bus : Bus) : Type 0 where
  pub load : IsDatum bus.pd
  pub shunt : IsDatum bus.gs

-- a unit at one of so many buses
pub record IsUnit (buses : ℕ) (u : unit.Unit) : Type 0 where
  pub row : 1 ≤ u.row
  pub bus : u.bus < buses
  pub fixed : IsDatum u.fixed
  pub up : pos 0 ≤ℤ u.up
  pub down : pos 0 ≤ℤ u.down
