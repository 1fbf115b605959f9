use Rattle.factor_text.proofs.Lengths.{tables-short}
use Rattle.factor_text.proofs.laws.tables_are_short.Goals as goal

pub returns : goal.returns
returns c = tables-short
