-- Laws of a system without columns that have to be 0.
use Rattle.std.specs.Prelude.{ℕ, Bool, reverse}
use Rattle.fraction_theory.specs.Fraction.{Fraction}
use Rattle.linear_system.specs.Systems.{InBounds, IsSystem, MeetsRows, System}
use Rattle.optimal_face.specs.FirstPoints.{IsFirstBest}
use Rattle.fewer_columns.specs.Fewer.{MayLeave, fewer, with_nil}

abbrev pub LawOfTheFewer : Type 0
LawOfTheFewer = (s : System) (kept : ℕ → Bool) → IsSystem s → MayLeave s kept → IsSystem (fewer s kept)

-- a point of one, within its bounds
pub record IsPoint (s : System) (v : ℕ → Fraction) : Type 0 where
  pub rows : MeetsRows s v
  pub bounds : InBounds s v

abbrev pub LawOfFewerPoints : Type 0
LawOfFewerPoints = (s : System) (kept : ℕ → Bool) (v : ℕ → Fraction) → IsSystem s → MayLeave s kept → IsPoint s v → IsPoint (fewer s kept) v

abbrev pub LawOfTheFirstOfFewer : Type 0
LawOfTheFirstOfFewer = (s : System) (kept : ℕ → Bool) (v : ℕ → Fraction) → IsSystem s → MayLeave s kept → IsFirstBest (fewer s kept) (reverse (fewer s kept).columns) v
    → IsFirstBest s (reverse s.columns) (with_nil kept v)
