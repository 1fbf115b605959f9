use Rattle.std.proofs.Common.{rules, append_assoc}
use Rattle.report_text.proofs.reserve.priced_line.Goals as goal

pub returns : goal.returns
returns g c = search (rules, append_assoc)
