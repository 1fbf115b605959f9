use Rattle.sced.proofs.FactorLemmas.{law_of_factors}
use Rattle.sced.proofs.laws.factors.Goals as goal

pub returns : goal.returns
returns c = law_of_factors c.shift_tables_are_read_back.ensures c.loss_tables_are_read_back.ensures
