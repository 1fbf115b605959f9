use Rattle.exact_fraction.proofs.Nearest.{one_nearest}
use Rattle.exact_fraction.proofs.laws.one_nearest.Goals as goal

pub returns : goal.returns
returns c = one_nearest
