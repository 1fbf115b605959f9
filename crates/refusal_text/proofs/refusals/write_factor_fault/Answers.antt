use Rattle.std.proofs.Common.{append_assoc}
use Rattle.refusal_text.specs.Refusals.{factor_words}
use Rattle.refusal_text.proofs.refusals.write_factor_fault.Goals as goal

pub returns-in-TooMany : goal.returns-in-TooMany
unfolding factor_words
returns-in-TooMany c = rw c.in-TooMany.is (simp append_assoc at c.numbered.ensures)

pub returns-in-NotPositive : goal.returns-in-NotPositive
unfolding factor_words
returns-in-NotPositive c = rw c.in-NotPositive.is (simp append_assoc at c.numbered-in-NotPositive.ensures)
