use Rattle.step_laws.proofs.Slopes.{mean_slopes_of_parts}
use Rattle.step_laws.proofs.laws.mean_slopes_of_parts.Goals as goal

pub returns : goal.returns
returns c = mean_slopes_of_parts c.mean_slopes.ensures
