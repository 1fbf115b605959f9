use Rattle.one_dispatch.proofs.PointOrder.{law_of_the_point}
use Rattle.one_dispatch.proofs.laws.first_points_are_first_dispatches.Goals as goal

pub returns : goal.returns
returns c = law_of_the_point
