use Rattle.network_theory.proofs.Outages.{law_of_the_detour}
use Rattle.network_theory.proofs.laws.detour_carries.Goals as goal

pub returns : goal.returns
returns c = law_of_the_detour
