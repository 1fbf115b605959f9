use Rattle.std.proofs.Common.{arith}
use Rattle.case_maker.specs.Rings.{next_state}
use Rattle.case_maker.proofs.draws.Draws.draw.Goals as goal

pub returns-clause-state : goal.returns-clause-state
unfolding next_state
returns-clause-state c = omega arith
