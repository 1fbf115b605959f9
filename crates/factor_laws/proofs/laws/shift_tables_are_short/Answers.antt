use Rattle.factor_laws.proofs.Lengths.{shift_short}
use Rattle.factor_laws.proofs.laws.shift_tables_are_short.Goals as goal

pub returns : goal.returns
returns c = shift_short
