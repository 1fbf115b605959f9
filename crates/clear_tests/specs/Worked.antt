-- The buses, units and blocks of the market of the tests.
use Rattle.std.specs.Prelude.{ℕ, pos, List, [], ◌∷◌}
use Rattle.market_data.specs.declared.participants.Bus.{Bus}
use Rattle.market_data.specs.declared.participants.Unit as unit
use Rattle.market_model.specs.declared.participants.Block.{Block}
use Rattle.market_model.specs.declared.participants.Parts.{Parts}
use Rattle.market_model.specs.declared.participants.Side.TheVariants.{Sell}
use Rattle.market_model.specs.Market.{bare_parts}

abbrev pub bus_of : ℕ → ℕ → ℕ → Bus
bus_of number pd gs = record { number = number; pd = pos pd; gs = pos gs }

abbrev pub unit_of : ℕ → ℕ → unit.Unit
unit_of row bus = record { row = row; bus = bus; fixed = pos 0; up = pos 100000000000; down = pos 0 }

abbrev pub block_of : ℕ → ℕ → Block
block_of u price = record { unit = u; side = Sell; quantity = pos 100000000000; price = pos price }

abbrev pub blocks : List Block
blocks = block_of 0 10000000 ∷ block_of 1 30000000 ∷ []

abbrev pub participants : Parts
participants = bare_parts (bus_of 1 0 0 ∷ bus_of 2 0 0 ∷ bus_of 3 50000000000 10000000000 ∷ []) (unit_of 1 0 ∷ unit_of 2 1 ∷ []) blocks
