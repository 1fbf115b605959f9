use Rattle.scaled_decimal.specs.Decimal.{digits_number}
use Rattle.scaled_decimal.specs.View.{view}
use Rattle.scaled_decimal.proofs.AmountLemmas.{sign_below, sign_above}
use Rattle.scaled_decimal.proofs.amount.sign_of_parts.Goals as goal

pub returns-then-numeral : goal.returns-then-numeral
returns-then-numeral c = sign_below _ (digits_number (view c.args.numeral.now)) _ _ c.significand_of.ensures.number c.if-significand_of-eq0.false c.if-numeral.true

pub returns-else-numeral : goal.returns-else-numeral
returns-else-numeral c = sign_above _ (digits_number (view c.args.numeral.now)) _ _ c.significand_of.ensures.number c.if-significand_of-eq0.false c.if-numeral.false
