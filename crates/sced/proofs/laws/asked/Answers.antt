use Rattle.sced.proofs.HeadlineLemmas.{law_of_asked}
use Rattle.sced.proofs.laws.asked.Goals as goal

pub returns : goal.returns
returns c = law_of_asked
