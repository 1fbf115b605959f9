use Rattle.factor_text.proofs.RecordsRead.{read-back}
use Rattle.factor_text.proofs.laws.tables_are_read_back.Goals as goal

pub returns : goal.returns
returns c = read-back
