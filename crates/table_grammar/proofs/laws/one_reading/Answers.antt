use Rattle.table_grammar.proofs.LinesRead.{one-reading}
use Rattle.table_grammar.proofs.laws.one_reading.Goals as goal

pub returns : goal.returns
returns c = one-reading
