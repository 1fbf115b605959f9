use Rattle.std.proofs.Common.{◌≡◌, ◌++◌, take}
use Rattle.std.specs.List.{flat_map}
use Rattle.prepared_text.specs.OutageText.{outage_line}
use Rattle.prepared_text.proofs.outages.put_outages.Given as goal

-- the lines of the rows so far
abbrev pub invariant-loop-row : goal.invariant-loop-row
invariant-loop-row l = l.text ≡ l.initial.text ++ flat_map outage_line (take l.row-index l.rows)
