use Rattle.report_text.proofs.OutcomeReading.{right_reports_apart}
use Rattle.report_text.proofs.laws.right_report_has_one_reading.Goals as goal

pub returns : goal.returns
returns c = right_reports_apart
