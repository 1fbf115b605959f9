-- The steps of an offer, of the parts of a range.
use Rattle.std.specs.Prelude.{◌≡◌, ⊤, ◌^◌, ◌≤◌, ◌↔◌, IsTrue, ℤ, pos, ◌-ℤ◌, ◌<ℤ◌, ◌≤ℤ◌, unsigned_abs, List}
use Rattle.std.specs.List.{All, AllPairs, Any}
use Rattle.fraction_theory.specs.Fraction.{over}
use Rattle.market_data.specs.Participants.{IsDatum}
use Rattle.market_data.specs.Scales.{price_one, price_places}
use Rattle.market_data.specs.WholeSums.{int_sum}
use Rattle.exact_fraction.specs.Nearest.{IsNearest}
use Rattle.cost_steps.specs.declared.parts.Way.{Way}
use Rattle.cost_steps.specs.declared.parts.Way.TheVariants.{Up, Down}
use Rattle.cost_steps.specs.declared.steps.Step.{Step}
use Rattle.cost_steps.specs.declared.steps.CostStop.{CostStop}
use Rattle.cost_steps.specs.declared.steps.CostStop.TheVariants as stop
use Rattle.cost_steps.specs.declared.parts.Stretch.{Stretch}
use Rattle.cost_steps.specs.Rounding.{IsRounded, IsBeyond}
use Rattle.cost_steps.specs.Parts.{Part}

-- the step of a part: its width, at the price that is nearest to its slope, of which it is said whether it is the slope itself
pub record IsStepOf (part : Part) (step : Step) : Type 0 where
  pub quantity : step.quantity ≡ part.to -ℤ part.from
  pub nearest : IsNearest price_places part.slope step.price
  pub fits : IsDatum step.price
  pub exact : IsTrue step.exact ↔ (over step.price price_one ≡ part.slope)

-- a slope whose price does not fit 63 bits
abbrev pub IsTooSteep : Part → Type 0
IsTooSteep part = (price : ℤ) × IsNearest price_places part.slope price × (2 ^ 63 ≤ unsigned_abs price)

-- the prices of a seller's steps do not fall, and those of a buyer's do not rise
abbrev pub AreInOrder : Way → List Step → Type 0
AreInOrder Up steps = AllPairs (λ first second. first.price ≤ℤ second.price) steps
AreInOrder Down steps = AllPairs (λ first second. second.price ≤ℤ first.price) steps

-- steps that go from one end of a range to the other
pub record AreSteps (way : Way) (low high : ℤ) (steps : List Step) : Type 0 where
  pub above : All (λ step. pos 0 <ℤ step.quantity) steps
  pub total : int_sum (λ step. step.quantity) steps ≡ high -ℤ low
  pub order : AreInOrder way steps

-- the step of a part by its slope as a quotient, and why it has none
pub record IsStepBy (stretch : Stretch) (step : Step) : Type 0 where
  pub quantity : step.quantity ≡ stretch.to -ℤ stretch.from
  pub price : IsRounded (over stretch.rise stretch.run) (record { number = step.price; exact = step.exact })

pub record IsStopBy (stretch : Stretch) (why : CostStop) : Type 0 where
  pub price : why ≡ stop.Price
  pub beyond : IsBeyond (over stretch.rise stretch.run)

-- why there are none; memory may be refused at any cost
abbrev pub IsStop : List Part → CostStop → Type 0
IsStop parts stop.Price = Any IsTooSteep parts
IsStop parts stop.Memory = ⊤
