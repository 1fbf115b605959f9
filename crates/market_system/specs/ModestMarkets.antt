-- Modest markets: without lines, and with numbers that are small enough that clearing them never meets one above 127 bits.
-- Source: own. Sizes are of loads, shunts, fixed parts, rooms and quantities in 10^-9 MW, and of prices in 10^-6 per MWh.
use Rattle.std.specs.Prelude.{◌≡◌, false, ℕ, ◌-◌, ◌≤◌, ◌^◌, [], All, unsigned_abs}
use Rattle.market_data.specs.declared.participants.Bus.{Bus}
use Rattle.market_data.specs.declared.participants.Unit as unit
use Rattle.market_model.specs.declared.participants.Block.{Block}
use Rattle.market_model.specs.declared.participants.Parts.{Parts}
use Rattle.market_model.specs.Market.{IsMarket}
use Rattle.market_system.specs.WorkingPairs.{AllNumbersFit}

-- ten million MW
abbrev pub modest_mw : ℕ
modest_mw = 10 ^ 16

-- a thousand million per MWh
abbrev pub modest_price : ℕ
modest_price = 10 ^ 15

pub record IsModestBus (bus : Bus) : Type 0 where
  pub load : unsigned_abs bus.pd ≤ modest_mw
  pub shunt : unsigned_abs bus.gs ≤ modest_mw

pub record IsModestUnit (u : unit.Unit) : Type 0 where
  pub fixed : unsigned_abs u.fixed ≤ modest_mw
  pub up : unsigned_abs u.up ≤ modest_mw
  pub down : unsigned_abs u.down ≤ modest_mw

pub record IsModestBlock (block : Block) : Type 0 where
  pub quantity : unsigned_abs block.quantity ≤ modest_mw
  pub price : unsigned_abs block.price ≤ modest_price

pub record IsModest (m : Parts) : Type 0 where
  pub buses : All IsModestBus m.buses
  pub units : All IsModestUnit m.units
  pub blocks : All IsModestBlock m.blocks

-- in a modest market of energy alone without lines no number that a clear may have to write down is above 127 bits
abbrev pub LawOfModestMarkets : Type 0
LawOfModestMarkets = (m : Parts) → IsMarket m → m.lines ≡ [] → m.reserve.listed ≡ false → IsModest m → AllNumbersFit m [] (2 ^ 127 - 1)
