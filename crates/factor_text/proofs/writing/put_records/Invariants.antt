use Rattle.std.proofs.Common.{◌≡◌, ◌++◌, take}
use Rattle.std.specs.List.{flat_map}
use Rattle.factor_text.specs.Texts.{record_line}
use Rattle.factor_text.proofs.writing.put_records.Given as goal

-- the lines of the records so far
abbrev pub invariant-loop-place : goal.invariant-loop-place
invariant-loop-place g l = l.text ≡ l.initial.text ++ flat_map record_line (take l.place l.table.entries)
