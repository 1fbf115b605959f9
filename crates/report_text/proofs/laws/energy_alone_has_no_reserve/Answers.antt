use Rattle.report_text.proofs.EnergyReports.{law_of_energy_alone}
use Rattle.report_text.proofs.laws.energy_alone_has_no_reserve.Goals as goal

pub returns : goal.returns
returns c = law_of_energy_alone
