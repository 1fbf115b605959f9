use Rattle.std.proofs.Common.{◌≡◌, ◌+◌, ◌-◌, length, arith}
use Rattle.std.proofs.Math.Nat.{one-le-pow}
use Rattle.scaled_decimal.proofs.PlainLemmas.{room_behind, plain_point}
use Rattle.scaled_decimal.proofs.plain.plain_digits.Goals as goal

pub digits_run-front-requires-clause-low : goal.digits_run-front-requires-clause-low
digits_run-front-requires-clause-low c = one-le-pow (19 - length c.args.body.now) 10 (Prim.omega arith)

pub digits_run-number-requires-clause-low : goal.digits_run-number-requires-clause-low
digits_run-number-requires-clause-low c =
    room_behind c.args.body.now c.digits_run-front.result.1 c.digits_run-front.result.0 c.if-body-gt-MOST.false c.digits_run-front.ensures.low c.digits_run-front.ensures.count

pub returns-then-behind-part-clause-plain : goal.returns-then-behind-part-clause-plain
returns-then-behind-part-clause-plain c =
    plain_point c.args.body.now c.digits_run-front.result.1 c.digits_run-number.result.1 c.digits_run-front.result.0 c.digits_run-number.result.0
    c.in-46.len_at_least (Prim.omega arith) c.if-body-gt1.true c.if-behind-part.true
    c.digits_run-front.ensures.digits c.digits_run-front.ensures.number c.digits_run-number.ensures.digits c.digits_run-number.ensures.number

pub returns-then-behind-part-clause-size : goal.returns-then-behind-part-clause-size
returns-then-behind-part-clause-size c =
    let whole : 0 + c.digits_run-front.result.1 ≡ c.digits_run-front.result.1 = Prim.omega arith in
    c.digits_run-number.ensures.size c.digits_run-front.result.1 (Prim.rw whole at (c.digits_run-front.ensures.size 0 (Prim.omega arith)))
