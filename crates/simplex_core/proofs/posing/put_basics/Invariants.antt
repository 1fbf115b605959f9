use Rattle.std.proofs.Common.{◌≡◌}
use Rattle.simplex_core.specs.Turns.{noted_anew}
use Rattle.simplex_core.proofs.Adding.{value_so_far}
use Rattle.simplex_core.proofs.posing.put_basics.Given as goal

abbrev pub invariant-loop-rank : goal.invariant-loop-rank
invariant-loop-rank g l = l.dict ≡ noted_anew l.fn.dict (value_so_far l.fn.dict l.rank)
