use Rattle.one_price.proofs.EnergyLemmas.{law_of_energy_between}
use Rattle.one_price.proofs.laws.energy_costs_between.Goals as goal

pub returns : goal.returns
returns c = law_of_energy_between
