use Rattle.std.proofs.Common.{◌≡◌, drop}
use Rattle.std.specs.List.{find}
use Rattle.factor_tables.specs.Offsets.{wants_offset}
use Rattle.factor_tables.proofs.offset_reading.missing.Given as goal

-- no branch before this one wants an offset
abbrev pub invariant-loop-branch : goal.invariant-loop-branch
invariant-loop-branch l = find (wants_offset l.by_row.entries) l.branches ≡ find (wants_offset l.by_row.entries) (drop l.branch-index l.branches)
