use Rattle.exact_tests.proofs.KeptColumns.{kept_two}
use Rattle.exact_tests.proofs.method.solved_127.Goals as goal

pub has_value-requires : goal.has_value-requires
has_value-requires g c = let k = kept_two 1 2 c.in-Solved.ensures.outcome.0 c.requires in k.0

pub has_value-requires-in-Solved : goal.has_value-requires-in-Solved
has_value-requires-in-Solved g c = let k = kept_two 1 2 c.in-Solved.ensures.outcome.0 c.requires in k.1

pub has_reduced-requires : goal.has_reduced-requires
has_reduced-requires g c = let k = kept_two 1 2 c.in-Solved.ensures.outcome.0 c.requires in k.1
