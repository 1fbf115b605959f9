use Rattle.std.proofs.Common.{ℕ, ◌≡◌, ◌<◌, ◌+◌, ◌-◌, ◌^◌, length, take}
use Rattle.std.specs.Char.{is_ascii_digit}
use Rattle.std.specs.List.{AllPass}
use Rattle.std.specs.Str.Parse.{digits_value_after}
use Rattle.scaled_decimal.proofs.plain.digits_run.Given as goal

abbrev pub invariant-loop-byte : goal.invariant-loop-byte
invariant-loop-byte l = record {
  count : l.count ≡ l.byte-index;
  digits : AllPass is_ascii_digit (take l.byte-index l.bytes);
  number : l.number ≡ digits_value_after 10 l.fn.front (take l.byte-index l.bytes);
  low : l.number < 10 ^ (19 - length l.bytes + l.byte-index);
  size : (k : ℕ) → l.fn.front < 10 ^ k → l.number < 10 ^ (k + l.byte-index);
}
