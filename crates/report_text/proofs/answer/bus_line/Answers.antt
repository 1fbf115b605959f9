use Rattle.std.proofs.Common.{rules, append_assoc}
use Rattle.report_text.specs.Reports.{bus_text}
use Rattle.report_text.proofs.answer.bus_line.Goals as goal

pub returns : goal.returns
unfolding bus_text
returns g c = search (rules, append_assoc)
