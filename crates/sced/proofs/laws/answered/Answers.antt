use Rattle.sced.proofs.FailureLemmas.{law_of_answered}
use Rattle.sced.proofs.laws.answered.Goals as goal

pub returns : goal.returns
returns c = law_of_answered
