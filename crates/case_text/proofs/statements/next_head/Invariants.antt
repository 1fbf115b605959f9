use Rattle.std.proofs.Common.{◌≡◌, length}
use Rattle.case_text.specs.Cases.{past_separators}
use Rattle.case_text.specs.Readers.{SameEnd}
use Rattle.case_text.proofs.statements.next_head.Given as goal

abbrev pub invariant-loop-token : goal.invariant-loop-token
invariant-loop-token l = record {
  same : SameEnd l.initial.tokens l.tokens;
  head : past_separators l.text l.tokens.left.tokens ≡ past_separators l.text l.initial.tokens.left.tokens;
}

abbrev pub decreases-loop-token : goal.decreases-loop-token
decreases-loop-token l = length l.tokens.left.tokens
