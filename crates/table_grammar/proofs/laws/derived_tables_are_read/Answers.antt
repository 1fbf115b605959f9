use Rattle.table_grammar.proofs.Framed.{table-read}
use Rattle.table_grammar.proofs.laws.derived_tables_are_read.Goals as goal

pub returns : goal.returns
returns c = table-read
