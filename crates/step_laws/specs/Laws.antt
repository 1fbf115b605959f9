-- Laws of costs and of the parts that a range of outputs is cut into.
-- Source: MATPOWER User's Manual (cost models 1 and 2), Wood and Wollenberg (incremental cost); own names.
use Rattle.std.specs.Prelude.{◌≡◌, ℕ, ◌+◌, ◌*◌, ◌/◌, ◌<◌, ◌≤◌, ℤ, pos, ◌-ℤ◌, ◌≤ℤ◌, ◌<ℤ◌, unsigned_abs, List, [], ◌∷◌, ◌++◌, length}
use Rattle.std.specs.List.{All}
use Rattle.fraction_theory.specs.Fraction.{Fraction, ◌-ℚ◌, ◌*ℚ◌}
use Rattle.cost_steps.specs.declared.costs.Cost.{Cost}
use Rattle.cost_steps.specs.declared.costs.Cost.TheVariants.{Quadratic, Segments}
use Rattle.cost_steps.specs.declared.costs.CostPoint.{CostPoint}
use Rattle.cost_steps.specs.declared.parts.Way.{Way}
use Rattle.cost_steps.specs.declared.parts.Way.TheVariants.{Up, Down}
use Rattle.cost_steps.specs.Costs.{AreCostPoints, IsCost, mw, slope_at}
use Rattle.cost_steps.specs.Parts.{Part, parts}
use Rattle.step_laws.specs.CostCurves.{IsCostAt, LiesOn}

-- a cost has one value at each output
abbrev pub LawOfOneCost : Type 0
LawOfOneCost = (cost : Cost) (p : Fraction) → IsCost cost → (c : Fraction) × IsCostAt cost p c × ((d : Fraction) → IsCostAt cost p d → d ≡ c)

-- the slope of a part is the mean slope of the cost from where the part begins to where it ends: the change of the cost by the change of the output
abbrev pub HasMeanSlope : Cost → Part → Type 0
HasMeanSlope cost part = (c d : Fraction) → IsCostAt cost (mw part.from) c → IsCostAt cost (mw part.to) d → part.slope *ℚ (mw part.to -ℚ mw part.from) ≡ d -ℚ c

-- each part's slope is the mean slope of the cost there
abbrev pub LawOfMeanSlopesOfParts : Type 0
LawOfMeanSlopesOfParts = (cost : Cost) (way : Way) (low high : ℤ) (count : ℕ) → IsCost cost → low ≤ℤ high → 1 ≤ count → All (HasMeanSlope cost) (parts cost way low high count)

-- the whole of a part lies on one segment, and has its slope
abbrev pub LiesOnSegment : List CostPoint → Part → Type 0
LiesOnSegment points part = (place : ℕ) × LiesOn points place (mw part.from) × LiesOn points place (mw part.to) × (part.slope ≡ slope_at points place)

-- each part of a cost of segments lies on one segment
abbrev pub LawOfPartsOnSegments : Type 0
LawOfPartsOnSegments = (points : List CostPoint) (way : Way) (low high : ℤ) (count : ℕ) → AreCostPoints points → low ≤ℤ high → All (LiesOnSegment points) (parts (Segments points) way low high count)

-- where a part begins in the order of a way, and where it ends
abbrev pub begin_of : Way → Part → ℤ
begin_of Up part = part.from
begin_of Down part = part.to

abbrev pub end_of : Way → Part → ℤ
end_of Up part = part.to
end_of Down part = part.from

-- each part begins where the one before ends, the first of them at an output, and the last ends at another; none, where these are one
abbrev pub FollowOn : Way → ℤ → ℤ → List Part → Type 0
FollowOn way begin end [] = begin ≡ end
FollowOn way begin end (part ∷ rest) = (begin_of way part ≡ begin) × FollowOn way (end_of way part) end rest

-- parts that follow on from one end of a range to the other
abbrev pub Tile : Way → ℤ → ℤ → List Part → Type 0
Tile Up low high row = FollowOn Up low high row
Tile Down low high row = FollowOn Down high low row

-- the parts tile the range, each goes up from where it begins, and there are none where the range has no width
abbrev pub LawOfTiling : Type 0
LawOfTiling = (cost : Cost) (way : Way) (low high : ℤ) (count : ℕ) → IsCost cost → low ≤ℤ high → 1 ≤ count
    → Tile way low high (parts cost way low high count) × All (λ part. part.from <ℤ part.to) (parts cost way low high count) × (low ≡ high → parts cost way low high count ≡ [])

-- parts of one width and a last one with what is left over of a span: as many as are asked for, and the last alone where that width is 0
pub record AreOfOneWidth (width : ℕ) (span : ℤ) (count : ℕ) (row : List Part) : Type 0 where
  pub equal : List Part
  pub last : Part
  pub row_is : row ≡ equal ++ last ∷ []
  pub widths : All (λ part. part.to -ℤ part.from ≡ pos width) equal
  pub left_over : last.to -ℤ last.from ≡ span -ℤ pos (length equal * width)
  pub all : 0 < width → length equal + 1 ≡ count
  pub alone : width ≡ 0 → equal ≡ []

-- the parts of a quadratic cost are of one width, the whole part of the range's width by their number
abbrev pub LawOfEqualWidths : Type 0
LawOfEqualWidths = (square linear : ℤ) (way : Way) (low high : ℤ) (count : ℕ) → low <ℤ high → 1 ≤ count
    → AreOfOneWidth (unsigned_abs (high -ℤ low) / count) (high -ℤ low) count (parts (Quadratic square linear) way low high count)
