use Rattle.factor_laws.proofs.LossTables.{loss_read_back}
use Rattle.factor_laws.proofs.laws.loss_tables_are_read_back.Goals as goal

pub returns : goal.returns
returns c = loss_read_back
