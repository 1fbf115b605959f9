use Rattle.std.proofs.Common.{rules, append_assoc}
use Rattle.report_text.specs.Reports.{unit_text}
use Rattle.report_text.proofs.answer.unit_line.Goals as goal

pub returns : goal.returns
unfolding unit_text
returns g c = search (rules, append_assoc)
