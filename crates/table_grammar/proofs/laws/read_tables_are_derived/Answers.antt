use Rattle.table_grammar.proofs.Framed.{read-table}
use Rattle.table_grammar.proofs.laws.read_tables_are_derived.Goals as goal

pub returns : goal.returns
returns c = read-table
