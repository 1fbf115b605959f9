-- The report of what a clear came to, line by line.
use Rattle.std.specs.Prelude.{ℕ, ◌+◌, ℤ, Bool, ◌&&◌, ◌==◌, List, [], ◌++◌, length, count_by, codes, slice_index_or, decimal, if◌then◌else◌, Option, Some, None}
use Rattle.std.specs.List.{flat_map, zip}
use Rattle.std.specs.Map.{lookup}
use Rattle.fraction_theory.specs.Fraction.{Fraction}
use Rattle.fraction_theory.specs.Signs.{sign_of}
use Rattle.fraction_theory.specs.declared.Sign.{Sign}
use Rattle.fraction_theory.specs.declared.Sign.TheVariants.{Below, Zero, Above}
use Rattle.exact_fraction.specs.Written.{number_text, written, parts_text}
use Rattle.exact_fraction.specs.declared.Op.{Op}
use Rattle.exact_fraction.specs.declared.Op.TheVariants as op
use Rattle.exact_fraction.specs.declared.Passed.{Passed}
use Rattle.line_text.specs.Decimals.{decimal_text}
use Rattle.market_data.specs.Scales.{money_places, mw_places, price_places}
use Rattle.market_model.specs.declared.participants.Side.{Side}
use Rattle.market_model.specs.declared.participants.Side.TheVariants.{Sell, Buy}
use Rattle.market_model.specs.declared.participants.Block.{Block}
use Rattle.market_model.specs.declared.participants.Parts.{Parts}
use Rattle.market_model.specs.declared.answered.Price.{Price}
use Rattle.market_model.specs.declared.answered.UnitPay.{UnitPay}
use Rattle.market_model.specs.declared.answered.ReservePay.{ReservePay}
use Rattle.market_model.specs.declared.answered.RoomDual.{RoomDual}
use Rattle.market_model.specs.declared.answered.Load.{Load}
use Rattle.market_model.specs.declared.answered.Answer.{Answer}
use Rattle.market_model.specs.declared.answered.Dual.{Dual}
use Rattle.market_model.specs.declared.answered.Rent.{Rent}
use Rattle.market_model.specs.declared.answered.RowId.{RowId}
use Rattle.market_model.specs.declared.answered.Farkas.{Farkas}
use Rattle.market_model.specs.declared.answered.Outcome.{Outcome}
use Rattle.market_model.specs.declared.answered.Outcome.TheVariants as outcome
use Rattle.market_model.specs.Stairs.{same_side}
use Rattle.market_model.specs.Dispatch.{zero, places, bus_at, unit_at, block_at, offer_at}
use Rattle.market_model.specs.Reserves.{offer_places}
use Rattle.market_model.specs.RightAnswers.{mw_of, price_of, pay_of, load_of}

abbrev pub side_text : Side → List ℕ
side_text Sell = codes " sell "
side_text Buy = codes " buy "

-- two blocks are of one unit and side
abbrev pub alike : Block → Block → Bool
alike b c = (b.unit == c.unit) && same_side b.side c.side

-- the place of a block among those of its unit and side, from 1
unfoldable pub block_number : Parts → ℕ → ℕ
block_number m j = 1 + count_by (λ k. alike (block_at m k) (block_at m j)) (places j)

-- that the market is cleared, its welfare and the price of energy
unfoldable pub head_text : Fraction → Fraction → List ℕ
head_text welfare energy = codes "cleared\nwelfare " ++ written money_places welfare ++ codes "\nenergy " ++ written price_places energy ++ codes "\n"

-- the price of a bus
unfoldable pub bus_text : ℕ → Price Fraction → List ℕ
bus_text number price = codes "bus " ++ decimal number ++ codes " price " ++ written price_places price.total ++ codes " congestion " ++ written price_places price.congestion ++ codes "\n"

-- the accepted MW of a block, the so-manieth of its unit and side
unfoldable pub block_text : ℕ → Side → ℕ → Fraction → List ℕ
block_text row side number mw = codes "block " ++ decimal row ++ side_text side ++ decimal number ++ codes " mw " ++ written mw_places mw ++ codes "\n"

-- what is lost, behind this word; nothing where nothing is
abbrev pub loss_text : List ℕ → ℕ → List ℕ
loss_text word row = if row == 0 then [] else word ++ number_text row

-- a limit in the base, or after the loss of a branch or a unit
abbrev pub outage_text : ℕ → ℕ → List ℕ
outage_text outage unit = if (outage == 0) && (unit == 0) then codes " base" else loss_text (codes " after ") outage ++ loss_text (codes " lost ") unit

-- the limit of a branch
unfoldable pub row_text : RowId → List ℕ
row_text id = codes "limit " ++ number_text id.branch ++ outage_text id.outage id.unit

-- by how much a flow exceeds its limit, where it does
abbrev pub over_text_by : Sign → Fraction → List ℕ
over_text_by Below over = []
over_text_by Zero over = []
over_text_by Above over = codes " over " ++ written mw_places over

abbrev pub over_text : Fraction → List ℕ
over_text over = over_text_by (sign_of over) over

-- the flow of a limit, by how much it exceeds it, its two prices and what it earns
unfoldable pub rent_text : Dual Fraction → Rent Fraction → List ℕ
rent_text d r = row_text d.row ++ codes " flow " ++ written mw_places r.flow ++ over_text r.over ++ codes " up " ++ written price_places d.up ++ codes " down " ++ written price_places d.down ++ codes " rent " ++ written money_places r.rent ++ codes "\n"

-- an own price, where there is one
abbrev pub own_text : Option Fraction → List ℕ
own_text None = []
own_text (Some own) = codes " own " ++ written price_places own

-- a unit's output and what it is paid, with its own price where an outage loses it
unfoldable pub unit_text : ℕ → UnitPay Fraction → Option Fraction → List ℕ
unit_text row pay own = codes "unit " ++ decimal row ++ codes " mw " ++ written mw_places pay.mw ++ codes " paid " ++ written money_places pay.paid ++ own_text own ++ codes "\n"

-- the price of reserve and how much is needed, where reserve is listed
unfoldable pub need_text : Bool → ℤ → Fraction → List ℕ
need_text listed need price = if listed then codes "reserve price " ++ written price_places price ++ codes " need " ++ decimal_text mw_places need ++ codes "\n" else []

-- the price of a unit's room, of k places, where it is above 0
abbrev pub room_text_by : Sign → ℕ → RoomDual Fraction → List ℕ
room_text_by Below k d = []
room_text_by Zero k d = []
room_text_by Above k d = codes "room " ++ number_text d.unit ++ codes " dual " ++ written k d.price ++ codes "\n"

abbrev pub room_text : ℕ → RoomDual Fraction → List ℕ
room_text k d = room_text_by (sign_of d.price) k d

-- the reserve that is accepted of an offer and what it is paid
unfoldable pub offer_text : ℕ → ReservePay Fraction → List ℕ
offer_text row pay = codes "reserve " ++ decimal row ++ codes " mw " ++ written mw_places pay.mw ++ codes " paid " ++ written money_places pay.paid ++ codes "\n"

-- a bus's demand and what it pays
unfoldable pub load_text : ℕ → Load Fraction → List ℕ
load_text number load = codes "load " ++ decimal number ++ codes " mw " ++ written mw_places load.mw ++ codes " pays " ++ written money_places load.pays ++ codes "\n"

-- what loads pay less what units are paid
unfoldable pub surplus_text : Fraction → List ℕ
surplus_text surplus = codes "surplus " ++ written money_places surplus ++ codes "\n"

-- the line of each place
abbrev pub bus_line_at : Parts → Answer Fraction → ℕ → List ℕ
bus_line_at m a i = bus_text (bus_at m i).number (price_of a i)

abbrev pub block_line_at : Parts → Answer Fraction → ℕ → List ℕ
block_line_at m a j = block_text (unit_at m (block_at m j).unit).row (block_at m j).side (block_number m j) (mw_of a j)

-- the own price of the unit at a place, where an outage loses it
abbrev pub own_of : Parts → Answer Fraction → ℕ → Option Fraction
own_of m a u = lookup (λ lost. lost == u) (zip m.unit_outages a.money.own)

abbrev pub unit_line_at : Parts → Answer Fraction → ℕ → List ℕ
unit_line_at m a u = unit_text (unit_at m u).row (pay_of a u) (own_of m a u)

-- what an offer of reserve is paid, by place; one past the end stands for zeros
abbrev pub reserve_pay_of : Answer Fraction → ℕ → ReservePay Fraction
reserve_pay_of a n = slice_index_or a.money.reserve n (record { mw = zero; paid = zero })

abbrev pub offer_line_at : Parts → Answer Fraction → ℕ → List ℕ
offer_line_at m a n = offer_text (unit_at m (offer_at m n).unit).row (reserve_pay_of a n)

abbrev pub load_line_at : Parts → Answer Fraction → ℕ → List ℕ
load_line_at m a i = load_text (bus_at m i).number (load_of a i)

-- the lines of all places
abbrev pub lines_of_buses : Parts → Answer Fraction → List ℕ
lines_of_buses m a = flat_map (bus_line_at m a) (places (length m.buses))

abbrev pub lines_of_blocks : Parts → Answer Fraction → List ℕ
lines_of_blocks m a = flat_map (block_line_at m a) (places (length m.blocks))

-- and of the limits with duals
abbrev pub lines_of_limits : Answer Fraction → List ℕ
lines_of_limits a = flat_map (λ p. rent_text p.0 p.1) (zip a.duals.limits a.money.rents)

-- and of the rooms with a price, of k places
abbrev pub lines_of_rooms : ℕ → List (RoomDual Fraction) → List ℕ
lines_of_rooms k rooms = flat_map (room_text k) rooms

abbrev pub lines_of_units : Parts → Answer Fraction → List ℕ
lines_of_units m a = flat_map (unit_line_at m a) (places (length m.units))

-- and of the offers of reserve, of which a market of energy alone has none
abbrev pub lines_of_offers : Parts → Answer Fraction → List ℕ
lines_of_offers m a = flat_map (offer_line_at m a) (offer_places m)

abbrev pub lines_of_loads : Parts → Answer Fraction → List ℕ
lines_of_loads m a = flat_map (load_line_at m a) (places (length m.buses))

-- the report of a cleared market
unfoldable pub cleared_text : Parts → Answer Fraction → List ℕ
cleared_text m a =
    head_text a.welfare a.duals.energy
    ++ need_text m.reserve.listed m.reserve.need a.duals.reserve
    ++ lines_of_buses m a
    ++ lines_of_blocks m a
    ++ lines_of_limits a
    ++ lines_of_rooms price_places a.duals.rooms
    ++ lines_of_units m a
    ++ lines_of_offers m a
    ++ lines_of_loads m a
    ++ surplus_text a.money.surplus

-- ---- where no dispatch is feasible
-- the duals of a limit, which are plain numbers
unfoldable pub limit_text : Dual Fraction → List ℕ
limit_text d = row_text d.row ++ codes " up " ++ written 0 d.up ++ codes " down " ++ written 0 d.down ++ codes "\n"

-- the bound that shows it, and the price of energy, which is a plain number
unfoldable pub bound_text : Fraction → List ℕ
bound_text bound = codes "bound " ++ written mw_places bound ++ codes "\n"

unfoldable pub plain_energy_text : Fraction → List ℕ
plain_energy_text energy = codes "energy " ++ written 0 energy ++ codes "\n"

-- the price of reserve, which is a plain number, where reserve is listed
unfoldable pub plain_reserve_text : Bool → Fraction → List ℕ
plain_reserve_text listed price = if listed then codes "reserve dual " ++ written 0 price ++ codes "\n" else []

-- the report of duals that show that nothing is feasible, and whether reserve is listed
unfoldable pub infeasible_text : Bool → Farkas Fraction → List ℕ
infeasible_text listed f =
    codes "infeasible\n"
    ++ bound_text f.bound
    ++ plain_energy_text f.duals.energy
    ++ plain_reserve_text listed f.duals.reserve
    ++ flat_map limit_text f.duals.limits
    ++ lines_of_rooms 0 f.duals.rooms

-- ---- where numbers became too large
abbrev pub op_text : Op → List ℕ
op_text op.Plus = codes "plus "
op_text op.Minus = codes "minus "
op_text op.Times = codes "times "

-- the operation that was refused, with its two sides
unfoldable pub range_text : Passed Fraction → List ℕ
range_text p = codes "range " ++ op_text p.op ++ parts_text p.left ++ codes " " ++ parts_text p.right ++ codes "\n"

-- the report of what a clear came to
abbrev pub report_text : Parts → Outcome Fraction → List ℕ
report_text m (outcome.Cleared a) = cleared_text m a
report_text m (outcome.Infeasible f) = infeasible_text m.reserve.listed f
report_text m (outcome.Range p) = range_text p
