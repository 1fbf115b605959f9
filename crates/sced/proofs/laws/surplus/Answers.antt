use Rattle.sced.proofs.HeadlineLemmas.{law_of_surplus}
use Rattle.sced.proofs.laws.surplus.Goals as goal

pub returns : goal.returns
returns c = law_of_surplus c.surplus_is_not_negative.ensures
