use Rattle.command_answers.proofs.FactorLemmas.{law_of_checked_tables}
use Rattle.command_answers.proofs.laws.made_tables_are_within_rounding.Goals as goal

pub returns : goal.returns
returns c = law_of_checked_tables
