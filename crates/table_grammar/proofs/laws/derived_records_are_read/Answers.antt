use Rattle.table_grammar.proofs.LinesRead.{derived-read}
use Rattle.table_grammar.proofs.laws.derived_records_are_read.Goals as goal

pub returns : goal.returns
returns c = derived-read
