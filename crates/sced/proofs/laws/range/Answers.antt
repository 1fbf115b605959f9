use Rattle.sced.proofs.HeadlineLemmas.{law_of_range}
use Rattle.sced.proofs.laws.range.Goals as goal

pub returns : goal.returns
returns c = law_of_range
