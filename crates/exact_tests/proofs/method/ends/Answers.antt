use Rattle.exact_tests.proofs.KeptColumns.{kept_three}
use Rattle.exact_tests.proofs.method.ends.Goals as goal

pub has_value-requires : goal.has_value-requires
has_value-requires g c = let k = kept_three 1 2 3 c.in-Solved.ensures.outcome.0 c.requires in k.0

pub has_value-requires-in-Some : goal.has_value-requires-in-Some
has_value-requires-in-Some g c = let k = kept_three 1 2 3 c.in-Solved.ensures.outcome.0 c.requires in k.1

pub has_value-requires-in-Some-2 : goal.has_value-requires-in-Some-2
has_value-requires-in-Some-2 g c = let k = kept_three 1 2 3 c.in-Solved.ensures.outcome.0 c.requires in k.2
