use Rattle.std.proofs.Common.{◌≡◌, ◌≤◌, ◌+◌, ◌-◌, ◌++◌, length, take, replicate}
use Rattle.exact_fraction.proofs.text.append_last.Given as goal

abbrev pub invariant-loop-zero : goal.invariant-loop-zero
invariant-loop-zero l = (length l.digits ≤ l.k) × (l.end + length l.digits ≡ l.at + l._zero)
    × (take l.end l.buf ≡ take l.at l.initial.buf ++ replicate (l._zero - length l.digits) 48)
