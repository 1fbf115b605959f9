use Rattle.std.proofs.Common.{◌≡◌, ◌*◌, ◌^◌, min}
use Rattle.scaled_decimal.proofs.amount.raised.Given as goal

abbrev pub invariant-loop : goal.invariant-loop
invariant-loop l = l.product ≡ min (l.fn.size * 10 ^ l.counter) (2 ^ 63)
