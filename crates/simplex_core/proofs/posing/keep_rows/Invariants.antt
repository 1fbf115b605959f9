use Rattle.simplex_core.specs.Posings.{kept_row}
use Rattle.simplex_core.proofs.PutLemmas.{IsPutting}
use Rattle.simplex_core.proofs.posing.keep_rows.Given as goal

abbrev pub invariant-loop-k : goal.invariant-loop-k
invariant-loop-k g l = IsPutting l.fn.dict l.fn.dict.rows (kept_row g.N.Exact.value l.fn.dict l.bounds l.columns) l.k l.dict
