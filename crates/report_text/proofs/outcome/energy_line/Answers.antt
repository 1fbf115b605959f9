use Rattle.std.proofs.Common.{rules, append_assoc}
use Rattle.report_text.specs.Reports.{plain_energy_text}
use Rattle.report_text.proofs.outcome.energy_line.Goals as goal

pub returns : goal.returns
unfolding plain_energy_text
returns g c = search (rules, append_assoc)
