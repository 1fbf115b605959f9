use Rattle.std.proofs.Common.{sym}
use Rattle.csv.specs.Records.{fields_of}
use Rattle.csv_table.proofs.FrameLemmas.{cell-none, cell-there}
use Rattle.csv_table.proofs.field.Goals as goal

pub returns-in-Some : goal.returns-in-Some
returns-in-Some c = cell-there (fields_of c.args.cells.now) c.args.col c.in-Some.field (sym (rw c.in-Some.is at c.get.ensures.value))

pub returns-in-None : goal.returns-in-None
returns-in-None c = cell-none (fields_of c.args.cells.now) c.args.col (sym (rw c.in-None.is at c.get.ensures.value))
