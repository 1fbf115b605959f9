use Rattle.std.proofs.Common.{◌≡◌, ◌≤◌, ◌<◌, ◌+◌, ◌-◌, ◌*◌, ◌^◌, ◌%◌, length, get_or, arith, ap, ◌∙◌}
use Rattle.std.proofs.Math.Nat.{pow-le-pow_right}
use Rattle.std.proofs.lemmas.Grind.{pow_more}
use Rattle.scaled_decimal.proofs.PlainLemmas.{digit_code, digit_in_range, digits_more, number_more, size_more}
use Rattle.scaled_decimal.proofs.plain.digits_run.Goals as goal

pub overflow_mul-number : goal.overflow_mul-number
overflow_mul-number c =
    let in_room : 19 - length c.args.bytes.now + c.loop-byte.byte-index ≤ 18 = Prim.omega arith in
    let most : 10 ^ (19 - length c.args.bytes.now + c.loop-byte.byte-index) ≤ 10 ^ 18 = pow-le-pow_right (Prim.omega arith) in_room in
    Prim.omega arith

pub overflow_add-number : goal.overflow_add-number
overflow_add-number c =
    let in_room : 19 - length c.args.bytes.now + c.loop-byte.byte-index ≤ 18 = Prim.omega arith in
    let most : 10 ^ (19 - length c.args.bytes.now + c.loop-byte.byte-index) ≤ 10 ^ 18 = pow-le-pow_right (Prim.omega arith) in_room in
    Prim.omega arith

pub loop-byte-preserved : goal.loop-byte-preserved
loop-byte-preserved c =
    let place = c.loop-byte.byte-index in
    let bytes = c.args.bytes.now in
    let digit = (c.from-digit.result + (2 ^ 64 - 48)) % 2 ^ 64 in
    let told = digit_code (get_or bytes place 0) digit (Prim.omega (arith, c.from-digit.ensures)) (ap (λ b. (b + (2 ^ 64 - 48)) % 2 ^ 64) c.from-digit.ensures) (Prim.omega arith) in
    let below : digit < 10 = Prim.omega (arith, told.0, told.1) in
    let more : 10 ^ (19 - length bytes + (place + 1)) ≡ 10 ^ (19 - length bytes + place) * 10 = ap (λ k. 10 ^ k) (Prim.omega arith) ∙ pow_more 10 (19 - length bytes + place) in
    record {
      count = Prim.omega arith;
      digits = digits_more bytes place c.loop-byte-test.true c.loop-byte.invariant.digits (digit_in_range (get_or bytes place 0) told.0);
      number = number_more c.args.front bytes place c.loop-byte.number digit c.loop-byte-test.true told.0 told.1 c.loop-byte.invariant.number;
      low = Prim.omega (arith, below, more);
      size = λ k front. size_more k place c.loop-byte.number digit below (c.loop-byte.invariant.size k front);
    }
