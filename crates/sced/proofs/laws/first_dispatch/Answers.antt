use Rattle.sced.proofs.HeadlineLemmas.{law_of_first_dispatch}
use Rattle.sced.proofs.laws.first_dispatch.Goals as goal

pub returns : goal.returns
returns c = law_of_first_dispatch
