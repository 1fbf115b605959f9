use Rattle.sced.proofs.HeadlineLemmas.{law_of_outside}
use Rattle.sced.proofs.laws.outside.Goals as goal

pub returns : goal.returns
returns c = law_of_outside
