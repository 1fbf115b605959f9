use Rattle.sced.proofs.FailureLemmas.{law_of_cut_short}
use Rattle.sced.proofs.laws.cut_short.Goals as goal

pub returns : goal.returns
returns c = law_of_cut_short
