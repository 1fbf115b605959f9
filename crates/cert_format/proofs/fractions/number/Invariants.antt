use Rattle.std.proofs.Common.{◌≡◌, pos, take}
use Rattle.std.specs.Str.Parse.{digits_value}
use Rattle.fraction_theory.specs.Fraction.{whole}
use Rattle.cert_format.proofs.fractions.number.Given as goal

-- the number of the digits so far
abbrev pub invariant-loop-byte : goal.invariant-loop-byte
invariant-loop-byte g l = g.N.Exact.value l.number ≡ whole (pos (digits_value 10 (take l.byte-index l.digits)))
