use Rattle.exact_fraction.proofs.Nearest.{nearest_order}
use Rattle.exact_fraction.proofs.laws.nearest_keeps_order.Goals as goal

pub returns : goal.returns
returns c = nearest_order
