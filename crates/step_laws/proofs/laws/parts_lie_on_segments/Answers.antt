use Rattle.step_laws.proofs.Slopes.{segments_lie}
use Rattle.step_laws.proofs.laws.parts_lie_on_segments.Goals as goal

pub returns : goal.returns
returns c = segments_lie
