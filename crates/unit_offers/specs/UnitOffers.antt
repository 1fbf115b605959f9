-- What units offer by their costs: a unit puts out its fixed part where none of its blocks is accepted, it sells from there up to PMAX, and it
-- bids from there down to PMIN. Row i of gencost has the costs of the unit in row i of gen; rows behind those have costs of reactive power,
-- and are read past.
-- Source: MATPOWER User's Manual, the generator cost data of a case; own names.
use Rattle.std.specs.Prelude.{◌≡◌, ◌≢◌, ⊤, ℕ, ◌+◌, ◌<◌, ◌≤◌, pos, ◌+ℤ◌, ◌-ℤ◌, ◌≤ℤ◌, not, List, [], ◌∷◌, ◌++◌, length, map, take}
use Rattle.std.specs.List.{AllZip, Any, Contains, count_by}
use Rattle.record_reading.specs.Records.{Record}
use Rattle.market_data.specs.Participants.{IsDatum}
use Rattle.market_data.specs.Scales.{most_blocks}
use Rattle.market_data.specs.declared.participants.Unit as unit
use Rattle.market_data.specs.declared.participants.UnitList.{UnitList}
use Rattle.market_model.specs.declared.participants.Block.{Block}
use Rattle.market_model.specs.declared.participants.Side.{Side}
use Rattle.market_model.specs.declared.participants.Side.TheVariants.{Sell, Buy}
use Rattle.cost_steps.specs.declared.costs.Cost.{Cost}
use Rattle.cost_steps.specs.declared.parts.Way.TheVariants.{Up, Down}
use Rattle.cost_steps.specs.declared.steps.Step.{Step}
use Rattle.cost_steps.specs.Parts.{Part, parts}
use Rattle.cost_steps.specs.Steps.{AreSteps, IsStepOf, IsTooSteep}
use Rattle.cost_reading.specs.declared.CostFault.TheVariants as fault
use Rattle.cost_reading.specs.CostRows.{IsCostOf, IsCostFault, row_at}
use Rattle.unit_offers.specs.declared.ranges.OutputRange.{OutputRange}
use Rattle.unit_offers.specs.declared.unit_steps.UnitSteps.{UnitSteps}
use Rattle.unit_offers.specs.declared.offers.UnitOffers.{UnitOffers}
use Rattle.unit_offers.specs.declared.stops.OfferStop.{OfferStop}
use Rattle.unit_offers.specs.declared.stops.OfferStop.TheVariants as stop

-- ---- the range of a unit
-- its fixed part, PMAX, PMIN and how far these are apart are data
pub record HasBounds (u : unit.Unit) : Type 0 where
  pub fixed : IsDatum u.fixed
  pub most : IsDatum (u.fixed +ℤ u.up)
  pub least : IsDatum (u.fixed -ℤ u.down)
  pub up : (pos 0 ≤ℤ u.up) × IsDatum u.up
  pub down : (pos 0 ≤ℤ u.down) × IsDatum u.down

-- a unit of one of so many gen rows
pub record IsRanged (rows : ℕ) (u : unit.Unit) : Type 0 where
  pub row : (1 ≤ u.row) × (u.row ≤ rows)
  pub bounds : HasBounds u

-- where the blocks of a side move it
abbrev pub range_of : Side → unit.Unit → OutputRange
range_of Sell u = record { way = Up; low = u.fixed; high = u.fixed +ℤ u.up }
range_of Buy u = record { way = Down; low = u.fixed -ℤ u.down; high = u.fixed }

-- the parts that the range of a side is cut into, where a quadratic cost's is cut into so many
abbrev pub side_parts : ℕ → Cost → unit.Unit → Side → List Part
side_parts count cost u side = parts cost (range_of side u).way (range_of side u).low (range_of side u).high count

-- ---- what a unit offers
-- the steps of its cost on a side, which go from one end of the range to the other
pub record AreSideSteps (count : ℕ) (cost : Cost) (u : unit.Unit) (side : Side) (steps : List Step) : Type 0 where
  pub are : AllZip IsStepOf (side_parts count cost u side) steps
  pub go : AreSteps (range_of side u).way (range_of side u).low (range_of side u).high steps

-- the steps of the cost that its row says, on both sides
pub record AreStepsOf (costs : List Record) (count : ℕ) (u : unit.Unit) (steps : UnitSteps) : Type 0 where
  pub cost : Cost
  pub says : IsCostOf (row_at costs u.row) cost
  pub sells : AreSideSteps count cost u Sell steps.sells
  pub bids : AreSideSteps count cost u Buy steps.bids

-- the block of a step, of the unit of a place
abbrev pub block_of : ℕ → Side → Step → Block
block_of place side step = record { unit = place; side = side; quantity = step.quantity; price = step.price }

-- its sells, then its bids
abbrev pub unit_blocks : ℕ → UnitSteps → List Block
unit_blocks place steps = map (block_of place Sell) steps.sells ++ map (block_of place Buy) steps.bids

-- how many prices were rounded
abbrev pub rounded_in : List Step → ℕ
rounded_in steps = count_by (λ step. not step.exact) steps

-- ---- what all units offer, by the steps of each
-- the blocks of units, the first of which has this place
abbrev pub blocks_from : ℕ → List UnitSteps → List Block
blocks_from place [] = []
blocks_from place (steps ∷ rest) = unit_blocks place steps ++ blocks_from (place + 1) rest

abbrev pub rounded_of : List UnitSteps → ℕ
rounded_of [] = 0
rounded_of (steps ∷ rest) = rounded_in steps.sells + rounded_in steps.bids + rounded_of rest

-- the offers of all live units: there are rows for them all, and no more blocks than a market may have
pub record AreUnitOffers (list : UnitList) (costs : List Record) (count : ℕ) (offers : UnitOffers) : Type 0 where
  pub enough : list.rows ≤ length costs
  pub steps : List UnitSteps
  pub are : AllZip (AreStepsOf costs count) list.units steps
  pub blocks : offers.blocks ≡ blocks_from 0 steps
  pub rounded : offers.rounded ≡ rounded_of steps
  pub few : length offers.blocks ≤ most_blocks

-- ---- why there are none
-- the row of a unit gives no cost
abbrev pub IsCostStop : List Record → ℕ → OfferStop → Type 0
IsCostStop costs row (stop.Cost named f) = (named ≡ row) × IsCostFault (row_at costs row) f × (f ≢ fault.Memory)
IsCostStop costs row (stop.TooFew rows) = ⊥
IsCostStop costs row (stop.Price named) = ⊥
IsCostStop costs row stop.TooMany = ⊥
IsCostStop costs row stop.Memory = ⊤

-- a part of a unit's cost on a side has no price that fits
abbrev pub IsSideStop : ℕ → Cost → unit.Unit → Side → OfferStop → Type 0
IsSideStop count cost u side (stop.Price named) = (named ≡ u.row) × Any IsTooSteep (side_parts count cost u side)
IsSideStop count cost u side (stop.Cost named f) = ⊥
IsSideStop count cost u side (stop.TooFew rows) = ⊥
IsSideStop count cost u side stop.TooMany = ⊥
IsSideStop count cost u side stop.Memory = ⊤

-- the first units have steps, which are more than the blocks of a market
pub record AreTooMany (list : UnitList) (costs : List Record) (count : ℕ) : Type 0 where
  pub units : ℕ
  pub steps : List UnitSteps
  pub are : AllZip (AreStepsOf costs count) (take units list.units) steps
  pub many : most_blocks < length (blocks_from 0 steps)

-- why there are no offers; memory may be refused at any costs
abbrev pub IsOfferStop : UnitList → List Record → ℕ → OfferStop → Type 0
IsOfferStop list costs count (stop.TooFew rows) = (rows ≡ length costs) × (rows < list.rows)
IsOfferStop list costs count (stop.Cost row f) = (u : unit.Unit) × Contains list.units u × IsCostStop costs u.row (stop.Cost row f)
IsOfferStop list costs count (stop.Price row) =
    (u : unit.Unit) × Contains list.units u × (cost : Cost) × IsCostOf (row_at costs u.row) cost × (side : Side) × IsSideStop count cost u side (stop.Price row)
IsOfferStop list costs count stop.TooMany = AreTooMany list costs count
IsOfferStop list costs count stop.Memory = ⊤
