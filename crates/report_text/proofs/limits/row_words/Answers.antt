use Rattle.std.proofs.Common.{rules, append_assoc}
use Rattle.report_text.specs.Reports.{row_text}
use Rattle.report_text.proofs.limits.row_words.Goals as goal

pub returns : goal.returns
unfolding row_text
returns c = search (rules, append_assoc)
