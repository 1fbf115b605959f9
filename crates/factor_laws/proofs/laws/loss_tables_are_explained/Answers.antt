use Rattle.factor_laws.proofs.LossTables.{loss_explained}
use Rattle.factor_laws.proofs.laws.loss_tables_are_explained.Goals as goal

pub returns : goal.returns
returns c = loss_explained
