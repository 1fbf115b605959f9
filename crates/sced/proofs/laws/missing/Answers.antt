use Rattle.sced.proofs.FailureLemmas.{law_of_missing}
use Rattle.sced.proofs.laws.missing.Goals as goal

pub returns : goal.returns
returns c = law_of_missing
