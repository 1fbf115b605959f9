use Rattle.std.proofs.Common.{rules, append_assoc}
use Rattle.report_text.specs.Reports.{range_text}
use Rattle.report_text.proofs.outcome.range.Goals as goal

pub returns : goal.returns
unfolding range_text
returns g c = search (rules, append_assoc)
