use Rattle.std.proofs.Common.{◌≢◌, ◌<◌, ℕ, pos, slice_index}
use Rattle.fraction_theory.specs.Fraction.{whole}
use Rattle.linear_dict.specs.Dictionaries.{choice_of, system_in}
use Rattle.optimal_face.specs.Faces.{IsStill}
use Rattle.first_best.specs.Holding.{held_by}
use Rattle.first_best.proofs.holding.is_row_still.Given as goal

abbrev pub invariant-loop-column : goal.invariant-loop-column
invariant-loop-column g l = (k : ℕ) → k < l.column → (choice_of l.dict).entry (slice_index l.dict.basics l.row) (slice_index l.dict.others k) ≢ whole (pos 0)
    → IsStill (system_in l.dict) (held_by l.dict.names l.held) (slice_index l.dict.others k)
