-- The ends of a range, as the code has them.
use Rattle.std.specs.Prelude.{◌≡◌, ℕ}
use Rattle.std.specs.List.{Any}
use Rattle.std.proofs.Common.{subst, subst₂, w64}
use Rattle.std.proofs.lemmas.Int.{to_z-of_z}
use mir.Val.{SFits, to_z, of_z}
use Rattle.market_data.proofs.Data.{datum_fits}
use Rattle.market_data.specs.declared.participants.Unit as unit
use Rattle.market_model.specs.declared.participants.Side.{Side}
use Rattle.market_model.specs.declared.participants.Side.TheVariants.{Sell, Buy}
use Rattle.cost_steps.specs.declared.costs.Cost.{Cost}
use Rattle.cost_steps.specs.Parts.{parts}
use Rattle.cost_steps.specs.Steps.{IsTooSteep}
use Rattle.unit_offers.specs.declared.ranges.OutputRange.{OutputRange}
use Rattle.unit_offers.specs.UnitOffers.{HasBounds, range_of, side_parts}

ends-fit : (side : Side) (u : unit.Unit) → HasBounds u → SFits w64 (range_of side u).low × SFits w64 (range_of side u).high
ends-fit Sell u is = (datum_fits _ is.fixed, datum_fits _ is.most)
ends-fit Buy u is = (datum_fits _ is.least, datum_fits _ is.fixed)

-- a part without a price, of the range as it was read
pub steep-part : (count : ℕ) (cost : Cost) (u : unit.Unit) (side : Side) (range : OutputRange) → HasBounds u → range ≡ range_of side u
    → Any IsTooSteep (parts cost range.way (to_z w64 (of_z w64 range.low)) (to_z w64 (of_z w64 range.high)) count) → Any IsTooSteep (side_parts count cost u side)
steep-part count cost u side range is e h =
    let fit = ends-fit side u is in
    subst₂ (λ low high. Any IsTooSteep (parts cost (range_of side u).way low high count)) (to_z-of_z w64 (range_of side u).low fit.0) (to_z-of_z w64 (range_of side u).high fit.1)
    (subst (λ (r : OutputRange). Any IsTooSteep (parts cost r.way (to_z w64 (of_z w64 r.low)) (to_z w64 (of_z w64 r.high)) count)) e h)
