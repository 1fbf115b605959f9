use Rattle.simplex_core.specs.Posings.{row_note}
use Rattle.simplex_core.proofs.PutLemmas.{IsPutting}
use Rattle.simplex_core.proofs.posing.put_rows.Given as goal

abbrev pub invariant-loop-k : goal.invariant-loop-k
invariant-loop-k g l = IsPutting l.fn.dict l.fn.dict.rows (row_note g.N.Exact.value l.columns l.bounds) l.k l.dict
