use Rattle.std.proofs.Common.{◌∙◌, pos, sym}
use Rattle.fraction_theory.proofs.FieldLaws.{over-one}
use Rattle.exact_flows.proofs.Terms.{both_ends, first_end, second_end, away}
use Rattle.exact_flows.proofs.coefficients.at_end.Goals as goal

pub returns-then-from-to : goal.returns-then-from-to
returns-then-from-to g c = c.of_parts.ensures ∙ over-one (pos 0) ∙ both_ends c.args.from c.args.to c.args.bus (g.N.Exact.value c.args.amount) c.if-from-to.true

pub returns-then-from-bus : goal.returns-then-from-bus
returns-then-from-bus g c =
    first_end c.args.from c.args.to c.args.bus (g.N.Exact.value c.args.amount) c.if-from-bus.true (λ e. c.if-from-to.false (c.if-from-bus.true ∙ sym e))

pub returns-then-to-bus : goal.returns-then-to-bus
returns-then-to-bus g c = c.neg.ensures ∙ second_end c.args.from c.args.to c.args.bus (g.N.Exact.value c.args.amount) c.if-from-bus.false c.if-to-bus.true

pub returns-else-to-bus : goal.returns-else-to-bus
returns-else-to-bus g c = c.of_parts-else-to-bus.ensures ∙ over-one (pos 0) ∙ away c.args.from c.args.to c.args.bus (g.N.Exact.value c.args.amount) c.if-from-bus.false c.if-to-bus.false
