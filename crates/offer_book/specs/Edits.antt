-- Edits of a market: which are refused and why, and what the others change.
use Rattle.std.specs.Prelude.{ℕ, ◌-◌, ◌&&◌, ℤ, pos, ◌+ℤ◌, ◌-ℤ◌, Bool, List, length, filter, unsigned_abs, is_some, if◌then◌else◌, Option, Some, None, option_map, Result, Ok, Err}
use Rattle.std.specs.Int.Signed.{lt_z}
use Rattle.std.specs.List.{position, slice_get}
use Rattle.std.specs.Option.{option_map_or}
use Rattle.std.specs.Ordering.{int_eq}
use Rattle.market_model.specs.declared.participants.Parts.{Parts}
use Rattle.market_model.specs.declared.participants.Side.{Side}
use Rattle.market_model.specs.Changes.{with_price, with_quantity, with_demand, with_limit, with_need}
use Rattle.market_model.specs.LimitRows.{has_limit}
use Rattle.market_model.specs.Dispatch.{places, unit_at, block_at, place_of_bus}
use Rattle.market_model.specs.Stairs.{same_side, stair_in, offered, room_of}
use Rattle.offer_book.specs.declared.edit_parts.Edit.{Edit}
use Rattle.offer_book.specs.declared.edit_parts.Edit.TheVariants as edit
use Rattle.offer_book.specs.declared.edit_parts.EditFault.{EditFault}
use Rattle.offer_book.specs.declared.edit_parts.EditFault.TheVariants as fault
use Rattle.offer_book.specs.OfferTable.{follows}

-- the number that an edit would set
abbrev pub number_of : Edit → ℤ
number_of (edit.Price row side block price) = price
number_of (edit.Quantity row side block mw) = mw
number_of (edit.Demand bus mw) = mw
number_of (edit.Limit branch post mw) = mw
number_of (edit.Need mw) = mw

-- ---- what an edit names
-- a block of the unit of a gen row, on a side
abbrev pub is_block_of : Parts → ℤ → Side → ℕ → Bool
is_block_of m row side j = int_eq (pos (unit_at m (block_at m j).unit).row) row && same_side (block_at m j).side side

-- the places of these blocks, in order
abbrev pub blocks_of_side : Parts → ℤ → Side → List ℕ
blocks_of_side m row side = filter (is_block_of m row side) (places (length m.blocks))

-- the place of the block of a number, where these blocks are counted from 1
unfoldable pub place_of_block : Parts → ℤ → Side → ℤ → Option ℕ
place_of_block m row side number = if lt_z number (pos 1) then None else slice_get (blocks_of_side m row side) (unsigned_abs number - 1)

abbrev pub price_of_block : Parts → ℤ → Side → ℤ → Option ℤ
price_of_block m row side number = option_map (λ j. (block_at m j).price) (place_of_block m row side number)

-- a branch row's line, where it has a limit after an outage, or in the base
unfoldable pub place_of_limit : Parts → ℤ → Bool → Option ℕ
place_of_limit m row post = position (λ line. int_eq (pos line.row) row && has_limit post line) m.lines

-- ---- why an edit is refused
-- the price of the block before or after that another price between them breaks the stair against
unfoldable pub rival : Side → Option ℤ → ℤ → Option ℤ → Option ℤ
rival side before price None = if follows side before price then None else before
rival side before price (Some after) = if follows side before price then (if follows side (Some price) after then None else Some after) else before

-- the price that a new price of a block breaks the stair against
unfoldable pub rival_of : Parts → ℤ → Side → ℤ → ℤ → Option ℤ
rival_of m row side number price = rival side (price_of_block m row side (number -ℤ pos 1)) price (price_of_block m row side (number +ℤ pos 1))

-- by how much a side's blocks would exceed the room of their unit, if the block at a place offered so much
unfoldable pub over_capacity : Parts → ℕ → ℤ → ℤ
over_capacity m j mw = offered (stair_in (block_at m j).unit (block_at m j).side (with_quantity m j mw).blocks) -ℤ room_of (block_at m j).side (unit_at m (block_at m j).unit)

abbrev pub judge_quantity : Parts → ℤ → ℕ → Option EditFault
judge_quantity m mw j =
    if lt_z mw (pos 0) then Some fault.Negative
    else if lt_z (pos 0) (over_capacity m j mw) then Some (fault.OverCapacity (over_capacity m j mw))
    else None

-- why an edit is refused: the first cause that there is, and None where it is accepted
abbrev pub judge : Parts → Edit → Option EditFault
judge m (edit.Price row side number price) =
    if is_some (place_of_block m row side number)
    then option_map (λ other. fault.OutOfOrder other) (rival_of m row side number price)
    else Some fault.NoBlock
judge m (edit.Quantity row side number mw) = option_map_or (judge_quantity m mw) (place_of_block m row side number) (Some fault.NoBlock)
judge m (edit.Demand number mw) = if is_some (place_of_bus m.buses number) then None else Some fault.NoBus
judge m (edit.Limit row post mw) =
    if is_some (place_of_limit m row post)
    then (if lt_z mw (pos 0) then Some fault.Negative else None)
    else Some fault.NoLimit
judge m (edit.Need mw) = if m.reserve.listed then (if lt_z mw (pos 0) then Some fault.Negative else None) else Some fault.NoReserve

-- ---- what an edit changes
-- the market with the number that an edit names changed
abbrev pub changed : Parts → Edit → Parts
changed m (edit.Price row side number price) = option_map_or (λ j. with_price m j price) (place_of_block m row side number) m
changed m (edit.Quantity row side number mw) = option_map_or (λ j. with_quantity m j mw) (place_of_block m row side number) m
changed m (edit.Demand number mw) = option_map_or (λ i. with_demand m i mw) (place_of_bus m.buses number) m
changed m (edit.Limit row post mw) = option_map_or (λ l. with_limit m l post mw) (place_of_limit m row post) m
changed m (edit.Need mw) = with_need m mw

-- the market after an edit: changed where it is accepted, and else as before
abbrev pub step_of : Parts → Edit → Parts
step_of m e = if is_some (judge m e) then m else changed m e

abbrev pub answer : Option EditFault → Result (Unit {0}) EditFault
answer None = Ok tt
answer (Some f) = Err f
