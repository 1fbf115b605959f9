use Rattle.command_answers.proofs.FactorLemmas.{law_of_made_tables}
use Rattle.command_answers.proofs.laws.made_tables_come_back.Goals as goal

pub returns : goal.returns
returns c = law_of_made_tables
