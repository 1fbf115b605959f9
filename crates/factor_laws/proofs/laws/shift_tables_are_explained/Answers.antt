use Rattle.factor_laws.proofs.ShiftTables.{shift_explained}
use Rattle.factor_laws.proofs.laws.shift_tables_are_explained.Goals as goal

pub returns : goal.returns
returns c = shift_explained
