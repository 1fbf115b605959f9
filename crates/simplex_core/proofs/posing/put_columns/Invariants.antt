use Rattle.simplex_core.specs.Posings.{column_note}
use Rattle.simplex_core.proofs.PutLemmas.{IsPutting}
use Rattle.simplex_core.proofs.posing.put_columns.Given as goal

abbrev pub invariant-loop-k : goal.invariant-loop-k
invariant-loop-k g l = IsPutting l.fn.dict l.fn.dict.columns (column_note g.N.Exact.value l.prices l.bounds) l.k l.dict
