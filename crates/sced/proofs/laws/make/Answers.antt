use Rattle.sced.proofs.HeadlineLemmas.{law_of_make}
use Rattle.sced.proofs.laws.make.Goals as goal

pub returns : goal.returns
returns c = law_of_make c.reserve_is_paid_for_the_need.ensures
