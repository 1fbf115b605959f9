-- The blocks of a unit on a side, and how much they may offer in all.
use Rattle.std.specs.Prelude.{ℕ, ◌==◌, ◌&&◌, ℤ, Bool, true, false, List, filter}
use Rattle.market_data.specs.declared.participants.Unit as unit
use Rattle.market_data.specs.WholeSums.{int_sum}
use Rattle.market_model.specs.declared.participants.Block.{Block}
use Rattle.market_model.specs.declared.participants.Side.{Side}
use Rattle.market_model.specs.declared.participants.Side.TheVariants.{Sell, Buy}

abbrev pub same_side : Side → Side → Bool
same_side Sell Sell = true
same_side Sell Buy = false
same_side Buy Sell = false
same_side Buy Buy = true

abbrev pub is_on_stair : ℕ → Side → Block → Bool
is_on_stair place side block = (block.unit == place) && same_side block.side side

-- the blocks of a unit on a side
unfoldable pub stair_in : ℕ → Side → List Block → List Block
stair_in place side blocks = filter (is_on_stair place side) blocks

-- what blocks offer in all
abbrev pub offered : List Block → ℤ
offered blocks = int_sum (λ block. block.quantity) blocks

-- how much a unit's blocks of a side may offer in all
abbrev pub room_of : Side → unit.Unit → ℤ
room_of Sell u = u.up
room_of Buy u = u.down
