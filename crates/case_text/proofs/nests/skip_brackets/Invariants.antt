use Rattle.std.proofs.Common.{◌≡◌, length, false}
use Rattle.case_text.specs.Readers.{SameEnd}
use Rattle.case_text.specs.Nesting.{nest_of, behind_nest}
use Rattle.case_text.specs.Nests.{behind_brackets, first_nest}
use Rattle.case_text.proofs.nests.skip_brackets.Given as goal

abbrev pub invariant-loop-tokens : goal.invariant-loop-tokens
invariant-loop-tokens l = record {
  same : SameEnd l.initial.tokens l.tokens;
  behind : behind_brackets l.text l.initial.tokens.left.fault false (first_nest l.fn.bracket) l.initial.tokens.left.tokens
      ≡ behind_nest l.text l.tokens.left.fault false (nest_of l.nest) l.tokens.left.tokens;
}

abbrev pub decreases-loop-tokens : goal.decreases-loop-tokens
decreases-loop-tokens l = length l.tokens.left.tokens
