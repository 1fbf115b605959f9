use Rattle.std.proofs.Common.{rules, append_assoc}
use Rattle.report_text.specs.Reports.{limit_text}
use Rattle.report_text.proofs.limits.limit_line.Goals as goal

pub returns : goal.returns
unfolding limit_text
returns g c = search (rules, append_assoc)
