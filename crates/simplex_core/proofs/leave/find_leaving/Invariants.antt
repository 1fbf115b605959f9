use Rattle.simplex_core.proofs.SearchLemmas.{AllWithin}
use Rattle.simplex_core.proofs.leave.find_leaving.Given as goal

abbrev pub invariant-loop-rank : goal.invariant-loop-rank
invariant-loop-rank g l = AllWithin l.dict l.rank
