use Rattle.sced.proofs.HeadlineLemmas.{law_of_faults}
use Rattle.sced.proofs.laws.faults.Goals as goal

pub returns : goal.returns
returns c = law_of_faults
