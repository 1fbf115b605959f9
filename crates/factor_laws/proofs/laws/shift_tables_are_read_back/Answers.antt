use Rattle.factor_laws.proofs.ShiftTables.{shift_read_back}
use Rattle.factor_laws.proofs.laws.shift_tables_are_read_back.Goals as goal

pub returns : goal.returns
returns c = shift_read_back
