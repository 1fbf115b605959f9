use Rattle.std.proofs.Common.{rules, append_assoc}
use Rattle.report_text.specs.Reports.{offer_text}
use Rattle.report_text.proofs.reserve.offer_line.Goals as goal

pub returns : goal.returns
unfolding offer_text
returns g c = search (rules, append_assoc)
