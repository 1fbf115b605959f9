use Rattle.std.proofs.Common.{arith}
use Rattle.std.proofs.lemmas.List.{length-drop}
use Rattle.csv_table.specs.Records.{records_in}
use Rattle.csv_table.proofs.CutLemmas.{records-count}
use Rattle.csv_table.proofs.Table.len.Goals as goal

pub returns-clause-count : goal.returns-clause-count
returns-clause-count c = rw (← c.self.view_is) (omega (arith, length-drop 1 (records_in c.self.inside.records), records-count c.self.inside.records))
