-- Limit rows: the limits that a dispatch has to meet, and the flows that they bound.
-- Wood and Wollenberg, Power Generation, Operation and Control: shift factors, and the flow after an outage by the flow that the lost
-- branch had; after the loss of a unit by the output that others pick up.
use Rattle.std.specs.Prelude.{◌==◌, ◌&&◌, ℕ, ◌<◌, ℤ, Bool, true, false, if◌then◌else◌, not, List, [], ◌∷◌, ◌++◌, length, map, filter, slice_index_or, Option, Some, None, is_some}
use Rattle.std.specs.Int.{is_positive}
use Rattle.std.specs.List.{flat_map, position_or_len}
use Rattle.fraction_theory.specs.Fraction.{Fraction, whole, over, neg_ℚ, ◌+ℚ◌}
use Rattle.fraction_theory.specs.Sums.{Term, Plain, Product, total}
use Rattle.market_data.specs.Scales as scales
use Rattle.market_model.specs.declared.answered.RowId.{RowId}
use Rattle.market_model.specs.declared.participants.Line.{Line}
use Rattle.market_model.specs.declared.participants.Parts.{Parts}
use Rattle.market_model.specs.declared.participants.Pickup.{Pickup}
use Rattle.market_model.specs.declared.limits.Cause.{Cause}
use Rattle.market_model.specs.declared.limits.Cause.TheVariants.{Base, Branch, UnitOutage}
use Rattle.market_model.specs.declared.limits.Row.{Row}
use Rattle.market_model.specs.Dispatch.{Dispatch, zero, places, line_at, unit_at, injection, output}
use Rattle.market_model.specs.Factors.{factor_in}

-- ---- which rows there are
-- the line of a branch row; the number of lines where none has it
abbrev pub place_of_line : Parts → ℕ → ℕ
place_of_line m row = position_or_len (λ l. (line_at m l).row == row) (places (length m.lines))

-- the lines that the outages lose, in the order in which these are listed
abbrev pub lost_lines : Parts → List ℕ
lost_lines m = map (place_of_line m) m.outages

-- the causes under which lines have limits, in order: the base, then the outages as they are listed, those of branches before those of units
abbrev pub causes : Parts → List Cause
causes m = Base ∷ (map Branch (lost_lines m) ++ map UnitOutage (places (length m.unit_outages)))

-- the limit of a line after an outage, or else in the base, where it has one
abbrev pub limit_of : Bool → Line → Option ℤ
limit_of post line = if post then line.post else line.base

-- whether it has one
abbrev pub has_limit : Bool → Line → Bool
has_limit post line = is_some (limit_of post line)

-- what a MW beyond that limit costs, and the most by which its flow may exceed it: both 0 where the limit is hard
abbrev pub penalty_of : Bool → Line → ℤ
penalty_of post line = if post then line.post_price else line.base_price

-- a limit with a penalty above 0 gives way (it is soft)
abbrev pub gives_way : Bool → Line → Bool
gives_way post line = is_positive (penalty_of post line)

abbrev pub most_excess_of : Bool → Line → ℤ
most_excess_of post line = if post then line.post_excess else line.base_excess

-- whether a cause is an outage; limits, penalties and excesses after an outage are the same after each
abbrev pub is_outage : Cause → Bool
is_outage Base = false
is_outage (Branch lost) = true
is_outage (UnitOutage k) = true

-- the limit that a line states for a cause
abbrev pub stated : Line → Cause → Option ℤ
stated line cause = limit_of (is_outage cause) line

-- whether a line has a limit under a cause; it has none after its own outage
abbrev pub bears : Parts → Cause → ℕ → Bool
bears m Base l = has_limit false (line_at m l)
bears m (Branch lost) l = not (l == lost) && has_limit true (line_at m l)
bears m (UnitOutage k) l = has_limit true (line_at m l)

-- of some lines, those that have one
abbrev pub lines_among : Parts → Cause → List ℕ → List ℕ
lines_among m cause lines = filter (bears m cause) lines

-- the rows that some lines have under a cause
abbrev pub rows_among : Parts → Cause → List ℕ → List Row
rows_among m cause lines = map (λ l. record { line = l; cause = cause }) (lines_among m cause lines)

-- the rows under a cause, by line
abbrev pub rows_of : Parts → Cause → List Row
rows_of m cause = rows_among m cause (places (length m.lines))

-- the rows of a market in order: those of each cause, in the order of the causes
unfoldable pub rows : Parts → List Row
rows m = flat_map (rows_of m) (causes m)

-- what a cause loses is a line of the market, or the unit of one of its outages
abbrev pub IsCauseOf : Parts → Cause → Type 0
IsCauseOf m Base = Unit {0}
IsCauseOf m (Branch lost) = lost < length m.lines
IsCauseOf m (UnitOutage k) = k < length m.unit_outages

-- the unit that an outage loses, by the place of the outage among those of units
abbrev pub lost_unit : Parts → ℕ → ℕ
lost_unit m k = slice_index_or m.unit_outages k 0

-- the name of a row: its branch row, that of the lost branch, and the gen row of the lost unit; these are 0 where none is lost
abbrev pub outage_of : Parts → Cause → ℕ
outage_of m Base = 0
outage_of m (Branch lost) = (line_at m lost).row
outage_of m (UnitOutage k) = 0

abbrev pub unit_of : Parts → Cause → ℕ
unit_of m Base = 0
unit_of m (Branch lost) = 0
unit_of m (UnitOutage k) = (unit_at m (lost_unit m k)).row

abbrev pub row_id : Parts → Row → RowId
row_id m r = record { branch = (line_at m r.line).row; outage = outage_of m r.cause; unit = unit_of m r.cause }

-- ---- the limit of a row
abbrev pub mw_or_zero : Option ℤ → Fraction
mw_or_zero (Some mw) = whole mw
mw_or_zero None = zero

abbrev pub limit_under : Parts → ℕ → Cause → Fraction
limit_under m l cause = mw_or_zero (stated (line_at m l) cause)

-- the limit of its line under its cause
abbrev pub limit : Parts → Row → Fraction
limit m r = limit_under m r.line r.cause

-- what a MW by which its flow exceeds that costs: its penalty (transmission constraint penalty factor)
abbrev pub penalty : Parts → Row → Fraction
penalty m r = whole (penalty_of (is_outage r.cause) (line_at m r.line))

-- the most by which its flow may exceed it
abbrev pub most_excess : Parts → Row → Fraction
most_excess m r = whole (most_excess_of (is_outage r.cause) (line_at m r.line))

-- the greatest size that its flow may have
abbrev pub most_flow : Parts → Row → Fraction
most_flow m r = limit m r +ℚ most_excess m r

-- its limit gives way
abbrev pub is_soft : Parts → Row → Bool
is_soft m r = gives_way (is_outage r.cause) (line_at m r.line)

-- ---- factors and offsets
-- what a factor stands for
abbrev pub factor_value : ℤ → Fraction
factor_value n = over n scales.factor_one

abbrev pub shift_factor : Parts → ℕ → ℕ → Fraction
shift_factor m l i = factor_value (factor_in m.shift l i)

abbrev pub loss_factor : Parts → ℕ → ℕ → Fraction
loss_factor m l lost = factor_value (factor_in m.loss l lost)

abbrev pub line_offset : Parts → ℕ → Fraction
line_offset m l = whole (line_at m l).offset

-- ---- flows, by branch
-- the flow of a line where buses put in p: its offset, and of each bus's injection what its shift factor says
abbrev pub line_terms : Parts → (ℕ → Fraction) → ℕ → List Term
line_terms m p l = Plain (line_offset m l) ∷ map (λ i. Product (shift_factor m l i) (p i)) (places (length m.buses))

unfoldable pub line_flow : Parts → (ℕ → Fraction) → ℕ → Fraction
line_flow m p l = total (line_terms m p l)

-- of an amount f of lines (a flow, an offset, a factor) that of a line under a cause: its own, and after an outage of a branch what goes over to it of the lost one's
abbrev pub terms_under : Parts → (ℕ → Fraction) → ℕ → Cause → List Term
terms_under m f l Base = Plain (f l) ∷ []
terms_under m f l (Branch lost) = Plain (f l) ∷ Product (loss_factor m l lost) (f lost) ∷ []
terms_under m f l (UnitOutage k) = Plain (f l) ∷ []

-- ---- after the loss of a unit
-- what is picked up then, in the order of the records
abbrev pub pickups_of : Parts → ℕ → List Pickup
pickups_of m k = filter (λ p. p.outage == k) m.pickups

abbrev pub share_value : Pickup → Fraction
share_value p = over p.share scales.share_one

-- how much of the lost output flows on a line where its takers put it in: each its share
abbrev pub taker_term : Parts → ℕ → Pickup → Term
taker_term m l p = Product (share_value p) (shift_factor m l (unit_at m p.taker).bus)

abbrev pub taker_terms : Parts → ℕ → ℕ → List Term
taker_terms m l k = map (taker_term m l) (pickups_of m k)

unfoldable pub taker_factor : Parts → ℕ → ℕ → Fraction
taker_factor m l k = total (taker_terms m l k)

-- that, less how much of it flowed there where the lost unit put it in (pickup factor)
abbrev pub pickup_terms : Parts → ℕ → ℕ → List Term
pickup_terms m l k = taker_terms m l k ++ (Plain (neg_ℚ (shift_factor m l (unit_at m (lost_unit m k)).bus)) ∷ [])

unfoldable pub pickup_factor : Parts → ℕ → ℕ → Fraction
pickup_factor m l k = total (pickup_terms m l k)

-- the pickup factor of a line under a cause: 0 where no unit is lost
abbrev pub row_pickup : Parts → ℕ → Cause → Fraction
row_pickup m l Base = zero
row_pickup m l (Branch lost) = zero
row_pickup m l (UnitOutage k) = pickup_factor m l k

-- whether a cause loses a unit
abbrev pub loses_unit : Parts → ℕ → Cause → Bool
loses_unit m u Base = false
loses_unit m u (Branch lost) = false
loses_unit m u (UnitOutage k) = lost_unit m k == u

-- ---- the flows of rows
-- what a network carries: the flow of each line, and the output of the unit of each outage of a unit
pub record Carried : Type 0 where
  pub line : ℕ → Fraction
  pub lost : ℕ → Fraction

-- what others pick up of a lost unit's output adds to the flow of a line
abbrev pub picked_up_terms : Parts → (ℕ → Fraction) → ℕ → Cause → List Term
picked_up_terms m lost l Base = []
picked_up_terms m lost l (Branch k) = []
picked_up_terms m lost l (UnitOutage k) = Product (pickup_factor m l k) (lost k) ∷ []

-- the flow of a row, where this is carried
abbrev pub flow_terms : Parts → Carried → Row → List Term
flow_terms m c r = terms_under m c.line r.line r.cause ++ picked_up_terms m c.lost r.line r.cause

abbrev pub flow_by : Parts → Carried → Row → Fraction
flow_by m c r = total (flow_terms m c r)

-- what is carried where buses put in p, and lost units so much of it
abbrev pub carried_by : Parts → (ℕ → Fraction) → (ℕ → Fraction) → Carried
carried_by m p lost = record { line = line_flow m p; lost = lost }

-- the flow of a row then
abbrev pub row_flow : Parts → (ℕ → Fraction) → (ℕ → Fraction) → Row → Fraction
row_flow m p lost r = flow_by m (carried_by m p lost) r

-- ---- the same by an offset and factors of the row itself, and what is picked up
abbrev pub offset_terms : Parts → Row → List Term
offset_terms m r = terms_under m (line_offset m) r.line r.cause

unfoldable pub row_offset : Parts → Row → Fraction
row_offset m r = total (offset_terms m r)

abbrev pub factor_terms : Parts → Row → ℕ → List Term
factor_terms m r i = terms_under m (λ l. shift_factor m l i) r.line r.cause

unfoldable pub row_factor : Parts → Row → ℕ → Fraction
row_factor m r i = total (factor_terms m r i)

abbrev pub picked_up : Parts → (ℕ → Fraction) → Row → Fraction
picked_up m lost r = total (picked_up_terms m lost r.line r.cause)

-- how much of a unit's output counts for the flow of a line under a cause, where so much of it does at its bus: that, and of the unit that is lost what its takers put in
abbrev pub unit_factor_under : Parts → ℕ → Cause → ℕ → Fraction → Fraction
unit_factor_under m l Base u at_bus = at_bus
unit_factor_under m l (Branch lost) u at_bus = at_bus
unit_factor_under m l (UnitOutage k) u at_bus = if lost_unit m k == u then taker_factor m l k else at_bus

-- how much of it counts for the flow of a row
abbrev pub unit_factor : Parts → Row → ℕ → Fraction
unit_factor m r u = unit_factor_under m r.line r.cause u (row_factor m r (unit_at m u).bus)

-- ---- as lists
-- the flow of each line, where buses put in p
abbrev pub line_flows_by : Parts → (ℕ → Fraction) → List Fraction
line_flows_by m p = map (line_flow m p) (places (length m.lines))

-- what is carried: the flows of lines, and then the outputs of lost units
abbrev pub carried_list : Parts → Carried → List Fraction
carried_list m c = map c.line (places (length m.lines)) ++ map c.lost (places (length m.unit_outages))

-- ---- at a dispatch
-- the flow of each line
abbrev pub line_flows : Parts → Dispatch → List Fraction
line_flows m x = line_flows_by m (injection m x)

-- the output of the unit of an outage
abbrev pub lost_output : Parts → Dispatch → ℕ → Fraction
lost_output m x k = output m x (lost_unit m k)

abbrev pub lost_outputs : Parts → Dispatch → List Fraction
lost_outputs m x = map (lost_output m x) (places (length m.unit_outages))

-- what the network carries
abbrev pub carried : Parts → Dispatch → Carried
carried m x = carried_by m (injection m x) (lost_output m x)

-- the flow of a row
abbrev pub flow : Parts → Dispatch → Row → Fraction
flow m x r = flow_by m (carried m x) r
