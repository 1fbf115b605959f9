-- What the columns of a dictionary that holds prices say of a limit and of a room.
-- Source: own.
use Rattle.std.specs.Prelude.{ℕ, List}
use Rattle.fraction_theory.specs.Fraction.{Fraction, neg_ℚ}
use Rattle.linear_dict.specs.Dictionaries.{Dictionary, note_of}
use Rattle.market_model.specs.declared.answered.Dual.{Dual}
use Rattle.market_model.specs.declared.answered.RoomDual.{RoomDual}
use Rattle.market_model.specs.declared.limits.Row.{Row}
use Rattle.market_model.specs.declared.participants.Parts.{Parts}
use Rattle.market_model.specs.Dispatch.{unit_at}
use Rattle.market_model.specs.LimitRows.{row_id}
use Rattle.price_system.specs.PriceSystem.{down_name, limit_dual, room_dual, room_name, up_name}

-- the opposite of a variable's value, which is a price
abbrev pub price_noted : Dictionary → ℕ → Fraction
price_noted d w = neg_ℚ (note_of d w).value

-- the duals of a limit, and those of a room
abbrev pub limit_noted : Parts → Dictionary → Row → List (Dual Fraction)
limit_noted m d r = limit_dual (row_id m r) (price_noted d (up_name m r)) (price_noted d (down_name m r))

abbrev pub room_noted : Parts → Dictionary → ℕ → List (RoomDual Fraction)
room_noted m d u = room_dual (unit_at m u).row (price_noted d (room_name m u))
