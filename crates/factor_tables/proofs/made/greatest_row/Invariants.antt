use Rattle.std.proofs.Common.{◌≤◌, All, take}
use Rattle.factor_tables.specs.Factors.{marked_row}
use Rattle.factor_tables.specs.Made.{made_pair}
use Rattle.factor_tables.proofs.made.greatest_row.Given as goal

-- no row of the records so far is greater
abbrev pub invariant-loop-record : goal.invariant-loop-record
invariant-loop-record l = All (λ made. marked_row l.column (made_pair made) ≤ l.greatest) (take l.record-index l.records)
