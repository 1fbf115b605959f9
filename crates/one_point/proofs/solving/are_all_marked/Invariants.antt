use Rattle.std.proofs.Common.{◌≡◌, ◌<◌, false, true, ℕ, slice_index_or}
use Rattle.one_point.proofs.solving.are_all_marked.Given as goal

abbrev pub invariant-loop-mark : goal.invariant-loop-mark
invariant-loop-mark l = (i : ℕ) → i < l.mark-index → slice_index_or l.known i false ≡ true
