use Rattle.sced.proofs.HeadlineLemmas.{law_of_one_dispatch}
use Rattle.sced.proofs.laws.one_dispatch.Goals as goal

pub returns : goal.returns
returns c = law_of_one_dispatch c.one_goes_first.ensures
