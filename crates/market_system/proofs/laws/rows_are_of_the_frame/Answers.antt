use Rattle.market_system.proofs.FrameLaws.{law_of_the_frame}
use Rattle.market_system.proofs.laws.rows_are_of_the_frame.Goals as goal

pub returns : goal.returns
returns c = law_of_the_frame
