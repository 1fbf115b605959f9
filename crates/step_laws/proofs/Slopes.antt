-- The slope of each part is the mean slope of the cost there.
use Rattle.std.specs.Prelude.{◌≡◌, ℕ, ◌+◌, ◌-◌, ℤ, List, [], ◌∷◌, length}
use Rattle.std.proofs.Common.{arith, ap, sym, ◌∙◌, refl}
use Rattle.std.proofs.lemmas.List.Elements.{All-weaker}
use Rattle.fraction_theory.specs.Fraction.{Fraction, ◌-ℚ◌, ◌*ℚ◌}
use Rattle.fraction_theory.proofs.Ring.{at, pneg, ◌⊕◌, ◌⊗◌, by_ring}
use Rattle.fraction_theory.proofs.FieldLaws.{ring_ℚ}
use Rattle.cost_steps.specs.declared.costs.Cost.TheVariants.{Quadratic, Segments}
use Rattle.cost_steps.specs.declared.costs.CostPoint.{CostPoint}
use Rattle.cost_steps.specs.declared.parts.Way.TheVariants.{Up, Down}
use Rattle.cost_steps.specs.Costs.{AreCostPoints, LawOfMeanSlopes, dollars, mw, point_at, quadratic_cost, quadratic_slope, slope_at}
use Rattle.cost_steps.specs.Parts.{Part, equal_cut, part_at, parts}
use Rattle.step_laws.specs.CostCurves.{IsCostAt, line_cost}
use Rattle.step_laws.specs.Laws.{HasMeanSlope, LawOfMeanSlopesOfParts, LawOfPartsOnSegments, LiesOnSegment}
use Rattle.step_laws.proofs.Curves.{one_line}
use Rattle.step_laws.proofs.Cuts.{from_lies, to_lies}
use Rattle.step_laws.proofs.Kept.{kept_all}

-- ---- segments
pub segments_lie : LawOfPartsOnSegments
segments_lie points Up low high count are order = kept_all (LiesOnSegment points) (part_at (Segments points) Up low high count) (length points - 1)
    (λ k lt width. (k, from_lies low high points order are k (omega (arith, lt)) width, to_lies low high points order are k (omega (arith, lt)) width, refl))
segments_lie points Down low high count are order = kept_all (LiesOnSegment points) (part_at (Segments points) Down low high count) (length points - 1)
    (λ k lt width. (length points - 2 - k, from_lies low high points order are (length points - 2 - k) (omega (arith, lt)) width, to_lies low high points order are (length points - 2 - k) (omega (arith, lt)) width, refl))

-- along one segment
along : (points : List CostPoint) (place : ℕ) (p q : Fraction) → slope_at points place *ℚ (q -ℚ p) ≡ line_cost points place q -ℚ line_cost points place p
along points place p q = by_ring ring_ℚ (dollars (point_at points place).cost ∷ slope_at points place ∷ mw (point_at points place).output ∷ p ∷ q ∷ [])
    (at 1 ⊗ (at 4 ⊕ pneg (at 3))) (at 0 ⊕ at 1 ⊗ (at 4 ⊕ pneg (at 2)) ⊕ pneg (at 0 ⊕ at 1 ⊗ (at 3 ⊕ pneg (at 2)))) refl

lying_mean : LawOfMeanSlopes → (points : List CostPoint) → AreCostPoints points → (part : Part) → LiesOnSegment points part → HasMeanSlope (Segments points) part
lying_mean mean points are part (place, from, to, slope) c d at_from at_to =
    ap (λ t. t *ℚ (mw part.to -ℚ mw part.from)) slope ∙ along points place (mw part.from) (mw part.to)
    ∙ ap (λ t. t -ℚ line_cost points place (mw part.from)) (sym last) ∙ ap (λ t. d -ℚ t) (sym first)
  where
    first : c ≡ line_cost points place (mw part.from)
    first = at_from.2 ∙ one_line mean points are at_from.0 place (mw part.from) at_from.1 from

    last : d ≡ line_cost points place (mw part.to)
    last = at_to.2 ∙ one_line mean points are at_to.0 place (mw part.to) at_to.1 to

-- ---- a quadratic cost
quadratic_mean : LawOfMeanSlopes → (square linear a b : ℤ) (c d : Fraction) → IsCostAt (Quadratic square linear) (mw a) c → IsCostAt (Quadratic square linear) (mw b) d
    → quadratic_slope square linear a b *ℚ (mw b -ℚ mw a) ≡ d -ℚ c
quadratic_mean mean square linear a b c d first last = mean.0 square linear a b ∙ ap (λ t. t -ℚ quadratic_cost square linear (mw a)) (sym last) ∙ ap (λ t. d -ℚ t) (sym first)

pub mean_slopes_of_parts : LawOfMeanSlopes → LawOfMeanSlopesOfParts
mean_slopes_of_parts mean (Quadratic square linear) Up low high count is order some = kept_all (HasMeanSlope (Quadratic square linear)) (part_at (Quadratic square linear) Up low high count) count
    (λ k lt width. quadratic_mean mean square linear (equal_cut Up low high count k) (equal_cut Up low high count (k + 1)))
mean_slopes_of_parts mean (Quadratic square linear) Down low high count is order some = kept_all (HasMeanSlope (Quadratic square linear)) (part_at (Quadratic square linear) Down low high count) count
    (λ k lt width. quadratic_mean mean square linear (equal_cut Down low high count (k + 1)) (equal_cut Down low high count k))
mean_slopes_of_parts mean (Segments points) way low high count is order some =
    All-weaker (LiesOnSegment points) (HasMeanSlope (Segments points)) (lying_mean mean points is) (parts (Segments points) way low high count) (segments_lie points way low high count is order)
