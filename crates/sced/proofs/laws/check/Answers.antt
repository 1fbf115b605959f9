use Rattle.sced.proofs.HeadlineLemmas.{law_of_check}
use Rattle.sced.proofs.laws.check.Goals as goal

pub returns : goal.returns
returns c = law_of_check
