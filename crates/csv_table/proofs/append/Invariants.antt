use Rattle.std.proofs.Common.{◌≡◌, ◌++◌, [], take}
use Rattle.csv.specs.Records.{fields_of, partial_of}
use Rattle.csv_table.proofs.append.Given as goal

-- the cells of the record before this one stand behind the others
abbrev pub invariant-loop-col : goal.invariant-loop-col
invariant-loop-col l = (fields_of l.cells ≡ fields_of l.initial.cells ++ take l.col (fields_of l.more)) × (partial_of l.cells ≡ [])
