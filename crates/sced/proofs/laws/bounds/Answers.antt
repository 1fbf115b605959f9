use Rattle.sced.proofs.HeadlineLemmas.{law_of_bounds}
use Rattle.sced.proofs.laws.bounds.Goals as goal

pub returns : goal.returns
returns c = law_of_bounds
