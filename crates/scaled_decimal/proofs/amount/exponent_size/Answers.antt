use Rattle.std.proofs.Common.{arith, length, ◌<◌}
use Rattle.scaled_decimal.proofs.AmountLemmas.{digits_value_after_more}
use Rattle.scaled_decimal.proofs.amount.exponent_size.Goals as goal

pub loop-byte-preserved : goal.loop-byte-preserved
loop-byte-preserved c =
    let in_digits : c.loop-byte.byte-index < length c.args.digits.now = Prim.omega arith in
    Prim.omega (arith, digits_value_after_more 0 c.args.digits.now c.loop-byte.byte-index in_digits)
