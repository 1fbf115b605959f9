use Rattle.sced.proofs.HeadlineLemmas.{law_of_complete}
use Rattle.sced.proofs.laws.complete.Goals as goal

pub returns : goal.returns
returns c = law_of_complete
