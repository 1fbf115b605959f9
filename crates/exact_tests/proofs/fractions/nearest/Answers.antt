use Rattle.std.proofs.Common.{◌∙◌, subst₂}
use Rattle.fraction_theory.specs.Order.{◌≤ℚ◌, ◌<ℚ◌}
use Rattle.fraction_theory.proofs.FieldLaws.{over-one}
use Rattle.fraction_theory.proofs.OrderLaws.{<ℚ-≤ℚ, ≤ℚ_of_same}
use Rattle.exact_tests.proofs.fractions.nearest.Goals as goal

pub nearest-requires-clause-size : goal.nearest-requires-clause-size
nearest-requires-clause-size c = <ℚ-≤ℚ _ _ (subst₂ ◌<ℚ◌ c.size.ensures (c.of_parts.ensures ∙ over-one _) c.in-Less.ensures)

pub nearest-requires-in-Equal-clause-size : goal.nearest-requires-in-Equal-clause-size
nearest-requires-in-Equal-clause-size c = subst₂ ◌≤ℚ◌ c.size.ensures (c.of_parts.ensures ∙ over-one _) (≤ℚ_of_same _ _ c.in-Equal.ensures)
