use Rattle.std.proofs.Common.{rules, append_assoc}
use Rattle.report_text.specs.Reports.{load_text}
use Rattle.report_text.proofs.answer.load_line.Goals as goal

pub returns : goal.returns
unfolding load_text
returns g c = search (rules, append_assoc)
