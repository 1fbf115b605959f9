use Rattle.step_laws.proofs.Widths.{equal_widths}
use Rattle.step_laws.proofs.laws.equal_widths.Goals as goal

pub returns : goal.returns
returns c = equal_widths
