-- What the records of the table of outages of units say, or the first fault.
use Rattle.std.specs.Prelude.{ℕ, ◌<◌, ◌≤◌, ◌==◌, ◌&&◌, not, ℤ, pos, ◌<ℤ◌, Bool, List, [], ◌∷◌, position, is_some, unwrap_or, nat_lt, unsigned_abs, if◌then◌else◌, Option, Result, Ok, Err}
use Rattle.std.specs.Int.Signed.{le_z}
use Rattle.std.specs.List.{list_any}
use Rattle.std.specs.Ordering.{int_eq}
use Rattle.record_reading.specs.Records.{Record}
use Rattle.record_reading.specs.Steps.{and_then, checked, fine, or_as}
use Rattle.record_reading.specs.declared.FrameFault.TheVariants as frame
use Rattle.record_reading.specs.declared.Why.TheVariants as why
use Rattle.csv_table.specs.Table.{number_in}
use Rattle.market_data.specs.Scales.{share_places, most_share}
use Rattle.net_case.specs.Networks.{LiveNetwork}
use Rattle.outage_list.specs.declared.pickup_records.TakerRecord.{TakerRecord}
use Rattle.outage_list.specs.declared.pickup_records.UnitPickup.{UnitPickup}
use Rattle.outage_list.specs.declared.unit_fault.UnitOutageFault.{UnitOutageFault}
use Rattle.outage_list.specs.declared.unit_fault.UnitOutageFault.TheVariants as fault

-- ---- the numbers of a record
-- the number in a cell, in units of so many places
abbrev pub number : ℕ → Record → ℕ → ℕ → Result ℤ UnitOutageFault
number line r col places = or_as fault.Frame (number_in line r col places)

-- the share in the third cell, a factor of a size of 1000 at most
unfoldable pub share_cell : ℕ → Record → Result ℤ UnitOutageFault
share_cell line r = and_then (number line r 2 share_places) (λ share. if nat_lt most_share (unsigned_abs share) then Err (fault.Frame (frame.Cell line 3 why.Bounds)) else Ok share)

-- the numbers from left to right
unfoldable pub record_in : ℕ → Record → Result TakerRecord UnitOutageFault
record_in line r =
    and_then (number line r 0 0) (λ unit.
    and_then (number line r 1 0) (λ taker.
    and_then (share_cell line r) (λ share.
    Ok (record { unit = unit; taker = taker; share = share }))))

-- ---- what they name
-- a gen row, live or not
abbrev pub is_gen_row : LiveNetwork → ℤ → Bool
is_gen_row network n = le_z (pos 1) n && le_z n (pos network.gen_rows)

-- the place of the live unit of this row
unfoldable pub unit_place : LiveNetwork → ℤ → Option ℕ
unit_place network n = position (λ unit. int_eq (pos unit.row) n) network.units

abbrev pub is_live_unit : LiveNetwork → ℤ → Bool
is_live_unit network n = is_some (unit_place network n)

-- the place of the unit of a row that a live unit has
abbrev pub place_named : LiveNetwork → ℤ → ℕ
place_named network n = unwrap_or (unit_place network n) 0

-- ---- the rules of a record
abbrev pub are_gen_rows : LiveNetwork → TakerRecord → Bool
are_gen_rows network r = is_gen_row network r.unit && is_gen_row network r.taker

abbrev pub are_live : LiveNetwork → TakerRecord → Bool
are_live network r = is_live_unit network r.unit && is_live_unit network r.taker

unfoldable pub unit_pickup_faults : LiveNetwork → ℕ → TakerRecord → List (Bool × UnitOutageFault)
unit_pickup_faults network line r =
    (not (are_gen_rows network r), fault.NoUnit line)
    ∷ (not (are_live network r), fault.DeadUnit line)
    ∷ (int_eq r.unit r.taker, fault.SameUnit line)
    ∷ (le_z r.share (pos 0), fault.Share line)
    ∷ []

-- what a record says whose numbers name live units
abbrev pub unit_pickup_by : LiveNetwork → TakerRecord → UnitPickup
unit_pickup_by network r = record { lost = place_named network r.unit; taker = place_named network r.taker; share = r.share }

-- whether a record of these units stands among others
abbrev pub stands : List UnitPickup → UnitPickup → Bool
stands done t = list_any (λ other. (other.lost == t.lost) && (other.taker == t.taker)) done

-- what a record says behind others: its numbers, then what they name, then whether its units stood before
unfoldable pub unit_pickup_in : LiveNetwork → List UnitPickup → ℕ → Record → Result UnitPickup UnitOutageFault
unit_pickup_in network done line r =
    and_then (record_in line r) (λ numbers.
    and_then (checked (unit_pickup_faults network line numbers) fine) (λ _.
    if stands done (unit_pickup_by network numbers) then Err (fault.Twice line) else Ok (unit_pickup_by network numbers)))

-- ---- what is kept of it
-- of one of so many units another takes a share above 0
pub record IsUnitPickup (units : ℕ) (t : UnitPickup) : Type 0 where
  pub lost : t.lost < units
  pub taker : t.taker < units
  pub above : pos 0 <ℤ t.share
  pub size : unsigned_abs t.share ≤ most_share
