-- What the table of outages of units stands for: the outages, each with what is picked up then, or the first fault.
use Rattle.std.specs.Prelude.{◌≡◌, ℕ, ◌<◌, ◌==◌, length, not, ℤ, pos, Bool, List, [], ◌∷◌, ◌++◌, map, codes, position, slice_get, unwrap_or, if◌then◌else◌, Some, Result, Ok, Err}
use Rattle.std.specs.List.{find, list_any}
use Rattle.std.specs.Option.{option_map_or}
use Rattle.std.specs.Ordering.{int_eq}
use Rattle.record_reading.specs.Records.{Record}
use Rattle.record_reading.specs.Gathering.{read_records}
use Rattle.record_reading.specs.Steps.{and_then}
use Rattle.csv_table.specs.Table.{framed}
use Rattle.market_data.specs.Scales.{share_one, most_pickups}
use Rattle.market_data.specs.WholeSums.{int_sum}
use Rattle.market_model.specs.declared.participants.Pickup.{Pickup}
use Rattle.net_case.specs.Networks.{LiveNetwork}
use Rattle.outage_list.specs.declared.pickup_records.UnitPickup.{UnitPickup}
use Rattle.outage_list.specs.declared.unit_fault.UnitOutageFault.{UnitOutageFault}
use Rattle.outage_list.specs.declared.unit_fault.UnitOutageFault.TheVariants as fault
use Rattle.outage_list.specs.declared.unit_listing.UnitOutages.{UnitOutages}
use Rattle.outage_list.specs.PickupRecords.{unit_pickup_in}

-- ---- the units that are lost
-- a list with a unit more, where that is new
abbrev pub with_unit : List ℕ → ℕ → List ℕ
with_unit units u = if list_any (λ v. v == u) units then units else units ++ u ∷ []

-- the same with the units that some records lose, one after the other
unfoldable pub with_lost : List ℕ → List UnitPickup → List ℕ
with_lost units [] = units
with_lost units (t ∷ unit_pickups) = with_lost (with_unit units t.lost) unit_pickups

-- each unit once, in the order in which it is lost first
abbrev pub lost_units : List UnitPickup → List ℕ
lost_units unit_pickups = with_lost [] unit_pickups

-- ---- what is picked up
-- of a unit's output in this record
abbrev pub share_in : ℕ → UnitPickup → ℤ
share_in u t = if t.lost == u then t.share else pos 0

-- in all of them, in 10^-6
abbrev pub share_sum : List UnitPickup → ℕ → ℤ
share_sum unit_pickups u = int_sum (share_in u) unit_pickups

-- that is not all of it
abbrev pub is_uneven : List UnitPickup → ℕ → Bool
is_uneven unit_pickups u = not (int_eq (share_sum unit_pickups u) (pos share_one))

-- the place of a unit among those that are lost
abbrev pub lost_place : List ℕ → ℕ → ℕ
lost_place lost u = unwrap_or (position (λ v. v == u) lost) 0

-- a record by the place of its outage
abbrev pub pickup_of : List ℕ → UnitPickup → Pickup
pickup_of lost t = record { outage = lost_place lost t.lost; taker = t.taker; share = t.share }

-- ---- the outages
-- at each outage shares that sum to 1 are picked up
abbrev pub PicksUpAll : UnitOutages → Type 0
PicksUpAll outages = (k : ℕ) → k < length outages.lost → int_sum (λ p. if p.outage == k then p.share else pos 0) outages.pickups ≡ pos share_one

-- ---- the table
-- the gen row of the live unit at a place
abbrev pub gen_row_at : LiveNetwork → ℕ → ℕ
gen_row_at network place = option_map_or (λ unit. unit.row) (slice_get network.units place) 0

-- the outages, where of each unit that is lost all is picked up
unfoldable pub listed_by : LiveNetwork → List UnitPickup → Result UnitOutages UnitOutageFault
listed_by network unit_pickups =
    option_map_or (λ u. Err (fault.ShareSum (gen_row_at network u) (share_sum unit_pickups u))) (find (is_uneven unit_pickups) (lost_units unit_pickups))
    (Ok (record { lost = lost_units unit_pickups; pickups = map (pickup_of (lost_units unit_pickups)) unit_pickups }))

abbrev pub unit_outage_header : Record
unit_outage_header = codes "unit" ∷ codes "taker" ∷ codes "share" ∷ []

unfoldable pub unit_outages_of : LiveNetwork → List ℕ → Result UnitOutages UnitOutageFault
unit_outages_of network bytes = and_then (and_then (framed fault.Frame unit_outage_header (Some most_pickups) bytes) (read_records (unit_pickup_in network) [] 2)) (listed_by network)
