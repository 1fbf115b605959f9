use Rattle.std.proofs.Common.{sym, ◌∙◌}
use Rattle.scaled_decimal.proofs.CutLemmas.{digits_if_well_formed}
use Rattle.scaled_decimal.proofs.text.parts_of.Goals as goal

pub returns-then-are_parts-clause-digits : goal.returns-then-are_parts-clause-digits
returns-then-are_parts-clause-digits c = digits_if_well_formed _ _ (sym c.are_parts.ensures ∙ c.if-are_parts.true)
