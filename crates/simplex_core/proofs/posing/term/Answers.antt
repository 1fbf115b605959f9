use Rattle.std.proofs.Common.{◌∙◌, ap, pos, false}
use Rattle.fraction_theory.specs.Fraction.{Fraction}
use Rattle.fraction_theory.proofs.FieldLaws.{over-one}
use Rattle.linear_dict.specs.Notes.{Noted}
use Rattle.simplex_core.proofs.posing.term.Goals as goal

unmoved : Fraction → Fraction → Fraction → Fraction → Noted
unmoved price low high nil = record { price = price; low = low; high = high; value = nil; reduced = nil; at_high = false }

pub returns : goal.returns
unfolding unmoved
returns g c = ap (unmoved (g.N.Exact.value c.args.price) (g.N.Exact.value c.args.bounds.low) (g.N.Exact.value c.args.bounds.high)) (c.of_parts-zero.ensures ∙ over-one (pos 0))
