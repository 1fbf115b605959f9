use Rattle.std.proofs.Common.{slice_index}
use Rattle.simplex_core.specs.Posings.{bound_added}
use Rattle.simplex_core.proofs.PutLemmas.{IsPutting}
use Rattle.simplex_core.proofs.posing.add_bound.Given as goal

abbrev pub invariant-loop-row : goal.invariant-loop-row
invariant-loop-row g l = IsPutting l.fn.dict l.fn.dict.basics (λ k. bound_added l.fn.dict l.name (slice_index l.fn.dict.basics k)) l.row l.dict
