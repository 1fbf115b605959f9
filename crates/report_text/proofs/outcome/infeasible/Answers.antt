use Rattle.std.proofs.Common.{rules, append_assoc}
use Rattle.report_text.specs.Reports.{infeasible_text}
use Rattle.report_text.proofs.outcome.infeasible.Goals as goal

pub returns : goal.returns
unfolding infeasible_text
returns g c = search (rules, append_assoc)
