use Rattle.factor_text.proofs.MadeTables.{made-back}
use Rattle.factor_text.proofs.laws.made_tables_are_read_back.Goals as goal

pub returns : goal.returns
returns c = made-back
