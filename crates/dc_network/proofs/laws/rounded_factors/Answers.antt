use Rattle.dc_network.proofs.Roundings.{law_of_rounding}
use Rattle.dc_network.proofs.laws.rounded_factors.Goals as goal

pub returns : goal.returns
returns c = law_of_rounding
