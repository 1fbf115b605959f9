use Rattle.std.proofs.Common.{◌≡◌, ◌-◌, length}
use Rattle.case_tokens.specs.Cursors.{IsCursor, left_at}
use Rattle.case_tokens.proofs.cursor.after_gaps.Given as goal

abbrev pub invariant-loop-count : goal.invariant-loop-count
invariant-loop-count l = record {
  valid : IsCursor l.at;
  text : l.at.text.now ≡ l.cursor.text.now;
  left : left_at l.at ≡ left_at l.cursor;
}

abbrev pub decreases-loop-count : goal.decreases-loop-count
decreases-loop-count l = length l.at.text.now - l.at.place
