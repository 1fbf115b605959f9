-- The parts that a range of outputs is cut into, each with the slope of the cost there.
use Rattle.std.specs.Prelude.{◌≡◌, ℕ, ◌+◌, ◌-◌, ◌*◌, ◌/◌, ◌<◌, ◌^◌, ◌==◌, ℤ, pos, ◌+ℤ◌, ◌-ℤ◌, int_lt, unsigned_abs, Bool, List, length, map, if◌then◌else◌}
use Rattle.std.specs.Int.{int_max, int_min}
use Rattle.std.specs.List.{filter, range_with_len}
use Rattle.fraction_theory.specs.Fraction.{Fraction, over}
use Rattle.exact_fraction.specs.Nearest.{in_units}
use Rattle.market_data.specs.Scales.{price_places}
use Rattle.cost_steps.specs.declared.costs.Cost.{Cost}
use Rattle.cost_steps.specs.declared.costs.Cost.TheVariants.{Quadratic, Segments}
use Rattle.cost_steps.specs.declared.costs.CostPoint.{CostPoint}
use Rattle.cost_steps.specs.declared.parts.Way.{Way}
use Rattle.cost_steps.specs.declared.parts.Way.TheVariants.{Up, Down}
use Rattle.cost_steps.specs.declared.parts.Stretch.{Stretch}
use Rattle.cost_steps.specs.Costs.{point_at, quadratic_slope, segment_slope}

-- outputs from one to another, in 10^-9 MW, with the slope of the cost there, in dollars per MWh
pub record Part : Type 0 where
  pub from : ℤ
  pub to : ℤ
  pub slope : Fraction

-- the width of each of the parts that a range is cut into equally, but for the last
abbrev pub equal_width : ℤ → ℤ → ℕ → ℕ
equal_width low high count = unsigned_abs (high -ℤ low) / count

-- where such a range is cut after so many parts from where the way begins; the last of them ends where the range does
abbrev pub equal_cut : Way → ℤ → ℤ → ℕ → ℕ → ℤ
equal_cut Up low high count place = if place == count then high else low +ℤ pos (place * equal_width low high count)
equal_cut Down low high count place = if place == count then low else high -ℤ pos (place * equal_width low high count)

-- the part of a quadratic cost between two outputs
abbrev pub quadratic_part : ℤ → ℤ → ℤ → ℤ → Part
quadratic_part square linear a b = record { from = a; to = b; slope = quadratic_slope square linear a b }

-- where a range is cut by the point of a place: at its output, or at the end of the range that this is beyond; the first segment begins
-- where the range does, and the last one ends there
abbrev pub point_cut : ℤ → ℤ → List CostPoint → ℕ → ℤ
point_cut low high points place =
    if place == 0 then low else if place == (length points - 1) then high else int_max low (int_min (point_at points place).output high)

-- what of a segment, from the point of a place to the next, lies in the range
abbrev pub segment_part : ℤ → ℤ → List CostPoint → ℕ → Part
segment_part low high points place = record {
  from = point_cut low high points place;
  to = point_cut low high points (place + 1);
  slope = segment_slope (point_at points place) (point_at points (place + 1));
}

-- the part of a place, counted from where the way begins
abbrev pub part_at : Cost → Way → ℤ → ℤ → ℕ → ℕ → Part
part_at (Quadratic square linear) Up low high count place = quadratic_part square linear (equal_cut Up low high count place) (equal_cut Up low high count (place + 1))
part_at (Quadratic square linear) Down low high count place = quadratic_part square linear (equal_cut Down low high count (place + 1)) (equal_cut Down low high count place)
part_at (Segments points) Up low high count place = segment_part low high points place
part_at (Segments points) Down low high count place = segment_part low high points (length points - 2 - place)

-- as many as are asked for, or one for each segment
abbrev pub part_count : Cost → ℕ → ℕ
part_count (Quadratic square linear) count = count
part_count (Segments points) count = length points - 1

abbrev pub has_width : Part → Bool
has_width part = int_lt part.from part.to

-- the parts that have a width, in the order of the way
abbrev pub parts : Cost → Way → ℤ → ℤ → ℕ → List Part
parts cost way low high count = filter has_width (map (part_at cost way low high count) (range_with_len 0 (part_count cost count)))

-- a part with its slope as a quotient, in 10^-6 dollars per MWh
pub record IsStretch (part : Part) (stretch : Stretch) : Type 0 where
  pub from : stretch.from ≡ part.from
  pub to : stretch.to ≡ part.to
  pub slope : over stretch.rise stretch.run ≡ in_units price_places part.slope
  pub rise_fits : unsigned_abs stretch.rise < 2 ^ 127
  pub run_above : 0 < stretch.run
