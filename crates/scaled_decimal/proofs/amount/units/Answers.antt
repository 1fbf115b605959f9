use Rattle.std.proofs.Common.{◌∙◌, rules}
use Rattle.scaled_decimal.specs.View.{view}
use Rattle.scaled_decimal.proofs.AmountLemmas.{units_up, units_down}
use Rattle.scaled_decimal.proofs.amount.units.Goals as goal

pub returns-then-numeral : goal.returns-then-numeral
returns-then-numeral c =
    let s = c.significand_of-digits.ensures.number in
    let given = c.shifted.ensures s.exact s.cut_off s.ends in
    let read = units_down (view c.args.numeral.now) c.args.places c.significand_of-digits.result.size c.significand_of-digits.result.zeros c.exponent_size-shift.result
    c.if-numeral.true s c.exponent_size-shift.ensures c.requires.scale (Prim.search rules) in
    (Prim.rw (c.from.ensures, c.from-2.ensures) at given) ∙ read

pub returns-else-numeral : goal.returns-else-numeral
returns-else-numeral c =
    let s = c.significand_of-digits.ensures.number in
    let given = c.shifted-else-numeral.ensures s.exact s.cut_off s.ends in
    let read = units_up (view c.args.numeral.now) c.args.places c.significand_of-digits.result.size c.significand_of-digits.result.zeros c.exponent_size-shift.result
    c.if-numeral.false s c.exponent_size-shift.ensures (Prim.search rules) in
    (Prim.rw (c.from.ensures, c.from-2.ensures) at given) ∙ read
