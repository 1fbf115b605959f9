use Rattle.sced.proofs.HeadlineLemmas.{law_of_one_set_of_prices}
use Rattle.sced.proofs.laws.one_set_of_prices.Goals as goal

pub returns : goal.returns
returns c = law_of_one_set_of_prices c.one_report.ensures
