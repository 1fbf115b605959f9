use Rattle.std.proofs.Common.{◌∙◌, pos, subst}
use Rattle.fraction_theory.specs.Order.{◌<ℚ◌}
use Rattle.fraction_theory.proofs.FieldLaws.{over-one}
use Rattle.worked_tests.proofs.flows.thirds.Goals as goal

pub returns-in-Less : goal.returns-in-Less
returns-in-Less g c = subst (λ t. t <ℚ g.N.Exact.value c.of_parts-number.result) (c.of_parts-zero.ensures ∙ over-one (pos 0)) c.in-Less.ensures
