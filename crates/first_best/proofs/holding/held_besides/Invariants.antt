use Rattle.std.proofs.Common.{◌≡◌, ◌<◌, ℕ, None, length, slice_index, slice_index_or}
use Rattle.linear_dict.specs.Dictionaries.{note_of}
use Rattle.first_best.proofs.HoldLemmas.{AreBesides}
use Rattle.first_best.proofs.holding.held_besides.Given as goal

abbrev pub invariant-loop-rank : goal.invariant-loop-rank
invariant-loop-rank g l = AreBesides l.dict l.held l.rank l.more.items
