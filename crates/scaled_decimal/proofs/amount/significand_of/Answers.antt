use Rattle.std.proofs.Common.{inl, refl}
use Rattle.std.specs.Str.Parse.{digits_value}
use Rattle.scaled_decimal.proofs.AmountLemmas.{digits_value_after-append}
use Rattle.scaled_decimal.proofs.amount.significand_of.Goals as goal

pub returns-clause-number : goal.returns-clause-number
returns-clause-number c =
    Prim.rw (digits_value_after-append 0 c.args.numeral.now.whole.now c.args.numeral.now.part.now)
    (c.with_digits.ensures.number (digits_value 10 c.args.numeral.now.whole.now) (c.with_digits-whole.ensures.number 0 (record { exact = 0; number = refl; cut_off = refl; ends = inl refl })))
