use Rattle.table_grammar.proofs.TextsDerived.{read-derived}
use Rattle.table_grammar.proofs.laws.read_records_are_derived.Goals as goal

pub returns : goal.returns
returns c = read-derived
