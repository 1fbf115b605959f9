use Rattle.exact_tests.proofs.KeptColumns.{kept_three}
use Rattle.exact_tests.proofs.method.moves.Goals as goal

pub has_value-requires : goal.has_value-requires
has_value-requires g c = let k = kept_three 1 2 3 c.in-Solved.ensures.outcome.0 c.requires.columns in k.1
