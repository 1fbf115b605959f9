use Rattle.simplex_core.specs.Posings.{kept_column}
use Rattle.simplex_core.proofs.PutLemmas.{IsPutting}
use Rattle.simplex_core.proofs.posing.keep_columns.Given as goal

abbrev pub invariant-loop-k : goal.invariant-loop-k
invariant-loop-k g l = IsPutting l.fn.dict l.fn.dict.columns (kept_column g.N.Exact.value l.fn.dict l.prices l.bounds) l.k l.dict
