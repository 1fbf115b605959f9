-- What is kept while the steps of units are made and their blocks are added.
use Rattle.std.specs.Prelude.{◌≡◌, ◌⊎◌, ℕ, ◌+◌, ◌<◌, ◌≤◌, List, ◌++◌, length, map}
use Rattle.record_reading.specs.Records.{Record}
use Rattle.market_data.specs.Scales.{most_blocks}
use Rattle.market_data.specs.declared.participants.Unit as unit
use Rattle.market_model.specs.declared.participants.Side.{Side}
use Rattle.cost_steps.specs.declared.costs.Cost.{Cost}
use Rattle.cost_steps.specs.declared.steps.Step.{Step}
use Rattle.cost_reading.specs.CostRows.{IsCostOf, row_at}
use Rattle.unit_offers.specs.declared.unit_steps.UnitSteps.{UnitSteps}
use Rattle.unit_offers.specs.declared.offers.UnitOffers.{UnitOffers}
use Rattle.unit_offers.specs.declared.stops.OfferStop.{OfferStop}
use Rattle.unit_offers.specs.declared.stops.OfferStop.TheVariants as stop
use Rattle.unit_offers.specs.UnitOffers.{IsCostStop, IsSideStop, block_of, rounded_in, unit_blocks}

-- why a unit has no steps
abbrev pub IsUnitStop : List Record → ℕ → unit.Unit → OfferStop → Type 0
IsUnitStop costs count u told = IsCostStop costs u.row told ⊎ ((cost : Cost) × IsCostOf (row_at costs u.row) cost × (side : Side) × IsSideStop count cost u side told)

-- no more blocks than a market may have, and no more rounded prices than blocks
pub record IsWithin (offers : UnitOffers) : Type 0 where
  pub few : length offers.blocks ≤ most_blocks
  pub rounded : offers.rounded ≤ length offers.blocks

-- the blocks of steps were added
pub record AreAdded (place : ℕ) (side : Side) (steps : List Step) (old new : UnitOffers) : Type 0 where
  pub blocks : new.blocks ≡ old.blocks ++ map (block_of place side) steps
  pub rounded : new.rounded ≡ old.rounded + rounded_in steps

-- those of a unit
pub record AreUnitBlocks (place : ℕ) (steps : UnitSteps) (old new : UnitOffers) : Type 0 where
  pub blocks : new.blocks ≡ old.blocks ++ unit_blocks place steps
  pub rounded : new.rounded ≡ old.rounded + (rounded_in steps.sells + rounded_in steps.bids)

-- why so many more blocks were not added
abbrev pub IsAddStop : UnitOffers → ℕ → OfferStop → Type 0
IsAddStop old more told = (told ≡ stop.Memory) ⊎ ((told ≡ stop.TooMany) × (most_blocks < length old.blocks + more))
