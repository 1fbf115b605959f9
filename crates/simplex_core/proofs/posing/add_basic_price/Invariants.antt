use Rattle.std.proofs.Common.{slice_index}
use Rattle.simplex_core.specs.Posings.{price_added}
use Rattle.simplex_core.proofs.PutLemmas.{IsPutting}
use Rattle.simplex_core.proofs.posing.add_basic_price.Given as goal

abbrev pub invariant-loop-column : goal.invariant-loop-column
invariant-loop-column g l = IsPutting l.fn.dict l.fn.dict.others (λ k. price_added l.fn.dict l.name (slice_index l.fn.dict.others k)) l.column l.dict
