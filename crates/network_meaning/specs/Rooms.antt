-- Fixed parts of units, and their room.
use Rattle.std.specs.Prelude.{◌≡◌, ◌≤◌, ℤ, ◌≤ℤ◌, ◌-ℤ◌, unsigned_abs}
use Rattle.std.specs.List.{AllZip}
use Rattle.market_data.specs.declared.participants.Unit as kept
use Rattle.market_data.specs.declared.participants.UnitList.{UnitList}
use Rattle.net_case.specs.Networks.{LiveNetwork}
use Rattle.net_case.specs.declared.live_parts.NetUnit.{NetUnit}

-- The number from PMIN to PMAX that is nearest 0: no number of these is smaller in size.
pub record IsNearestZero (pmin pmax number : ℤ) : Type 0 where
  pub from : pmin ≤ℤ number
  pub to : number ≤ℤ pmax
  pub nearest : (other : ℤ) → pmin ≤ℤ other → other ≤ℤ pmax → unsigned_abs number ≤ unsigned_abs other

-- A unit has a fixed part, the number of [PMIN, PMAX] nearest 0. Its sell blocks may have PMAX less the fixed part in all, its buy blocks
-- the fixed part less PMIN.
pub record HasUnitRoom (unit : NetUnit) (has : kept.Unit) : Type 0 where
  pub row_is : has.row ≡ unit.row
  pub bus_is : has.bus ≡ unit.bus
  pub fixed : IsNearestZero unit.low unit.high has.fixed
  pub to_sell : has.up ≡ unit.high -ℤ has.fixed
  pub to_buy : has.down ≡ has.fixed -ℤ unit.low

-- the units in service with their room, and how many gen rows there are
pub record HaveUnitRooms (network : LiveNetwork) (list : UnitList) : Type 0 where
  pub rows : list.rows ≡ network.gen_rows
  pub units : AllZip HasUnitRoom network.units list.units
