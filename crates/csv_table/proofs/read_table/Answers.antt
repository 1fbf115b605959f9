use Rattle.std.proofs.Common.{sym}
use Rattle.csv_table.specs.Table.{table_of}
use Rattle.csv_table.proofs.FrameLemmas.{frame-width}
use Rattle.csv_table.proofs.read_table.Goals as goal

pub returns-in-Err-Width-clause-is : goal.returns-in-Err-Width-clause-is
returns-in-Err-Width-clause-is c =
    rw c.in-Err-Width.field-0-is (sym (frame-width _ c.args.most c.in-Err-Width.line (table_of c.args.bytes.now) (rw c.in-Err-Width.field-0-is at c.in-Err-Width.ensures.err)))
