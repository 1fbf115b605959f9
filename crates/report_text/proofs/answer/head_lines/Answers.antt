use Rattle.std.proofs.Common.{rules, append_assoc}
use Rattle.report_text.specs.Reports.{head_text}
use Rattle.report_text.proofs.answer.head_lines.Goals as goal

pub returns : goal.returns
unfolding head_text
returns g c = search (rules, append_assoc)
