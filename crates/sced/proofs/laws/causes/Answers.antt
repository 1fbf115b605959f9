use Rattle.sced.proofs.FailureLemmas.{law_of_causes}
use Rattle.sced.proofs.laws.causes.Goals as goal

pub returns : goal.returns
returns c = law_of_causes
