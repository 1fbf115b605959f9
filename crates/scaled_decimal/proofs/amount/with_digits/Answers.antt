use Rattle.std.proofs.Common.{◌≡◌, ℕ, ◌+◌, ◌*◌, arith, length, ◌<◌, take}
use Rattle.std.specs.Str.Parse.{digits_value_after}
use Rattle.scaled_decimal.proofs.AmountLemmas.{digits_value_after_more}
use Rattle.scaled_decimal.proofs.amount.with_digits.Goals as goal

pub loop-byte-preserved : goal.loop-byte-preserved
loop-byte-preserved c = record {
  number = λ n s.
      let in_digits : c.loop-byte.byte-index < length c.args.digits.now = Prim.omega arith in
      let so_far : ℕ = digits_value_after 10 n (take c.loop-byte.byte-index c.args.digits.now) in
      let more : digits_value_after 10 n (take (c.loop-byte.byte-index + 1) c.args.digits.now) ≡ so_far * 10 + c.from.result =
      Prim.omega (arith, digits_value_after_more n c.args.digits.now c.loop-byte.byte-index in_digits) in
      Prim.rw more (c.with_digit-seen.ensures.number so_far (c.loop-byte.invariant.number n s));
  cut_off = Prim.omega arith;
  zeros = Prim.omega arith;
}
