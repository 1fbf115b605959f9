use Rattle.dc_network.proofs.Carried.{law_of_one_factor}
use Rattle.dc_network.proofs.laws.one_factor.Goals as goal

pub returns : goal.returns
returns c = law_of_one_factor
