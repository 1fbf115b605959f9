use Rattle.std.proofs.Common.{ℕ, ◌+◌, ◌^◌, ◌≤◌, take}
use Rattle.std.specs.Str.Parse.{digits_value_after}
use Rattle.scaled_decimal.specs.Amount.{IsSignificand}
use Rattle.scaled_decimal.proofs.amount.with_digits.Given as goal

abbrev pub invariant-loop-byte : goal.invariant-loop-byte
invariant-loop-byte l = record {
  number : (n : ℕ) → IsSignificand n l.fn.front.size l.fn.front.zeros → IsSignificand (digits_value_after 10 n (take l.byte-index l.digits)) l.seen.size l.seen.zeros;
  cut_off : l.seen.size ≤ 2 ^ 63;
  zeros : l.seen.zeros ≤ l.fn.front.zeros + l.byte-index;
}
