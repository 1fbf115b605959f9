use Rattle.std.proofs.Common.{slice_index}
use Rattle.simplex_core.specs.Posings.{asked_note}
use Rattle.simplex_core.proofs.PutLemmas.{IsPutting}
use Rattle.simplex_core.proofs.posing.put_others.Given as goal

abbrev pub invariant-loop-column : goal.invariant-loop-column
invariant-loop-column g l = IsPutting l.fn.dict l.fn.dict.others (λ k. asked_note l.fn.dict (slice_index l.fn.dict.others k)) l.column l.dict
