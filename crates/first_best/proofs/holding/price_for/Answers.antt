use Rattle.std.proofs.Common.{◌∙◌, ap, pos, sym}
use Rattle.fraction_theory.proofs.FieldLaws.{over-one}
use Rattle.optimal_face.specs.Faces.{price_of_one}
use Rattle.optimal_face.proofs.NextLemmas.{price_elsewhere, price_here}
use Rattle.first_best.proofs.holding.price_for.Goals as goal

pub returns-then-column-name : goal.returns-then-column-name
returns-then-column-name g c = c.of_parts.ensures ∙ over-one (pos 1) ∙ sym (ap (price_of_one c.args.name) c.if-column-name.true ∙ price_here c.args.name)

pub returns-else-column-name : goal.returns-else-column-name
returns-else-column-name g c = c.of_parts-else-column-name.ensures ∙ over-one (pos 0) ∙ sym (price_elsewhere c.args.name c.args.column c.if-column-name.false)
