use Rattle.sced.proofs.FactorCheckLemmas.{law_of_factor_check}
use Rattle.sced.proofs.laws.factor_check.Goals as goal

pub returns : goal.returns
returns c = law_of_factor_check c.factors.ensures c.shift_tables_are_explained.ensures c.loss_tables_are_explained.ensures c.loss_tables_are_read_back.ensures c.shift_tables_are_short.ensures c.loss_tables_are_short.ensures
