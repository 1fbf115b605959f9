use Rattle.std.proofs.Common.{◌≡◌, drop}
use Rattle.std.specs.List.{find}
use Rattle.factor_tables.specs.Covering.{lacks_shift}
use Rattle.factor_tables.proofs.covering.without_shift.Given as goal

-- no branch before this one lacks a record
abbrev pub invariant-loop-branch : goal.invariant-loop-branch
invariant-loop-branch l = find (lacks_shift l.shift.entries l.outages l.units) l.branches ≡ find (lacks_shift l.shift.entries l.outages l.units) (drop l.branch-index l.branches)
