use Rattle.std.proofs.Common.{rules, append_assoc}
use Rattle.report_text.specs.Reports.{block_text}
use Rattle.report_text.proofs.answer.block_line.Goals as goal

pub returns : goal.returns
unfolding block_text
returns g c = search (rules, append_assoc)
