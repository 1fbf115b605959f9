use Rattle.std.proofs.Common.{◌≡◌, ◌+◌, map, drop}
use Rattle.record_reading.specs.Records.{first_ragged}
use Rattle.case_text.proofs.matrices.first_ragged.Given as goal

-- no row before this one has another width
abbrev pub invariant-loop-at : goal.invariant-loop-at
invariant-loop-at l =
    let rows = map (λ r. map (λ c. c.now) r.items) l.rows in
    first_ragged l.width 1 rows ≡ first_ragged l.width (l.at + 1) (drop l.at rows)
