use Rattle.std.proofs.Common.{arith}
use Rattle.std.proofs.lemmas.List.{length-drop}
use Rattle.csv_table.specs.Records.{records_in}
use Rattle.csv_table.proofs.CutLemmas.{records-count}
use Rattle.csv_table.proofs.Table.cell.Goals as goal

pub overflow_add-place : goal.overflow_add-place
overflow_add-place c =
    let below = rw (← c.self.view_is) at c.requires in
    omega (arith, length-drop 1 (records_in c.self.inside.records), records-count c.self.inside.records, c.self.invariant.0.count)

pub cell-requires-clause-place : goal.cell-requires-clause-place
cell-requires-clause-place c =
    let below = rw (← c.self.view_is) at c.requires in
    omega (arith, length-drop 1 (records_in c.self.inside.records), records-count c.self.inside.records)
