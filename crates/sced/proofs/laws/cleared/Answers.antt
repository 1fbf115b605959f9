use Rattle.sced.proofs.HeadlineLemmas.{law_of_cleared}
use Rattle.sced.proofs.laws.cleared.Goals as goal

pub returns : goal.returns
returns c = law_of_cleared c.reserve_is_paid_for_the_need.ensures
