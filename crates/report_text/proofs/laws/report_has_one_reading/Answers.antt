use Rattle.report_text.proofs.OutcomeReading.{reports_apart}
use Rattle.report_text.proofs.laws.report_has_one_reading.Goals as goal

pub returns : goal.returns
returns c = reports_apart
