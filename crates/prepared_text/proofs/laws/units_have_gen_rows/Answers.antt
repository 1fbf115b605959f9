use Rattle.prepared_text.proofs.UnitRows.{unit-rows}
use Rattle.prepared_text.proofs.laws.units_have_gen_rows.Goals as goal

pub returns : goal.returns
returns c = unit-rows
