use Rattle.step_laws.proofs.Curves.{one_cost}
use Rattle.step_laws.proofs.laws.one_cost_at_each_output.Goals as goal

pub returns : goal.returns
returns c = one_cost c.mean_slopes.ensures
