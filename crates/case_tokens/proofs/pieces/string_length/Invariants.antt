use Rattle.std.proofs.Common.{◌≡◌, ◌-◌, ◌≤◌, length, drop}
use Rattle.case_tokens.specs.Pieces.{more, string_length}
use Rattle.case_tokens.proofs.pieces.string_length.Given as goal

abbrev pub invariant-loop-at : goal.invariant-loop-at
invariant-loop-at l = record {
  within : l.at ≤ length l.behind;
  same : string_length l.quote l.behind ≡ more l.at (string_length l.quote (drop l.at l.behind));
}

abbrev pub decreases-loop-at : goal.decreases-loop-at
decreases-loop-at l = length l.behind - l.at
