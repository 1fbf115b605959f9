use Rattle.replay_text.proofs.FrameReports.{law_of_reports}
use Rattle.replay_text.proofs.laws.report_is_of_the_frame.Goals as goal

pub returns : goal.returns
returns c = law_of_reports
