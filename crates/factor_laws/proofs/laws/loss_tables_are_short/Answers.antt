use Rattle.factor_laws.proofs.Lengths.{loss_short}
use Rattle.factor_laws.proofs.laws.loss_tables_are_short.Goals as goal

pub returns : goal.returns
returns c = loss_short
