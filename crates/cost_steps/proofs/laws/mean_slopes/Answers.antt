use Rattle.cost_steps.proofs.Slopes.{mean_slopes}
use Rattle.cost_steps.proofs.laws.mean_slopes.Goals as goal

pub returns : goal.returns
returns c = mean_slopes
