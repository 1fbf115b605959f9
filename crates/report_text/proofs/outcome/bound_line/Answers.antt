use Rattle.std.proofs.Common.{rules, append_assoc}
use Rattle.report_text.specs.Reports.{bound_text}
use Rattle.report_text.proofs.outcome.bound_line.Goals as goal

pub returns : goal.returns
unfolding bound_text
returns g c = search (rules, append_assoc)
